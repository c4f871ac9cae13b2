use Rattle.std.proofs.Common.{◌+◌, ℕ, [], refl, ap, ◌∙◌}
use Rattle.bag_explain.specs.Lines.{numbered_from, malformed_from}
use Rattle.bag_explain.proofs.NumberedLines.{malformed_more, numbered_more, all_read, texts_of}
use Rattle.bag_explain.proofs.read_manifests.read_text.Goals as goal

pub loop-line-init : goal.loop-line-init
unfolding numbered_from malformed_from
loop-line-init c =
    record {
      counted = refl;
      malformed = c.new-malformed.ensures.items;
      entries = c.new-entries.ensures.items;
    }

pub loop-line-preserved : goal.loop-line-preserved
loop-line-preserved c =
    let items = c.deref-line-items.result.now in
    let counted = c.loop-line.invariant.counted in
    record {
      counted = ap (λ (n : ℕ). n + 1) counted;
      malformed =
          malformed_more c.args.algorithm items _ _ (record { ref_ptr = (0, 0); now = [] })
          c.loop-line-test.true counted _ _ c.loop-line.invariant.malformed
          c.in_ok-read_line.ensures.malformed;
      entries =
          numbered_more c.args.algorithm items _ _ (record { ref_ptr = (0, 0); now = [] })
          c.loop-line-test.true counted _ _ c.loop-line.invariant.entries
          c.in_ok-read_line.ensures.entries;
    }

pub returns : goal.returns
returns c =
    all_read
    (record { kind = c.args.kind; algorithm = c.args.algorithm; text = c.args.text.now })
    _ _ _ _ _ c.loop-line-test.false
    (ap texts_of c.deref-line-items.ensures.value ∙ c.in_ok-lines.ensures)
    c.loop-line.invariant.malformed c.loop-line.invariant.entries c.new.ensures
