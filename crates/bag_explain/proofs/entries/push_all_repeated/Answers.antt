use Rattle.std.proofs.Common.{◌≡◌, not, ap, sym, ◌∙◌}
use Rattle.std.proofs.Common.{arith, append-nil, string_bytes, length, get_or, ◌<◌}
use Rattle.std.proofs.lemmas.Grind.{common_steps}
use Rattle.bag_check.proofs.Keyed.{has_text, has_text-inserted}
use Rattle.bag_explain.specs.Places.{repeated_after}
use Rattle.bag_explain.proofs.Repeated.{listed_next, repeated_more, repeated_all, by_negation}
use Rattle.bag_explain.proofs.entries.push_all_repeated.Goals as goal

pub loop-entry-init : goal.loop-entry-init
unfolding repeated_after
loop-entry-init c =
    record {
      seen = λ q. grind (arith, common_steps, c.new-seen.ensures.empty);
      printed = sym (append-nil (string_bytes c.args.text.now));
    }

pub loop-entry-preserved : goal.loop-entry-preserved
loop-entry-preserved c =
    let before = c.loop-entry.seen in
    let entry = c.entry-item.result in
    let files = c.args.listing.now.files in
    let i = c.loop-entry.entry-index in
    let same = c.entries-entry-items.ensures in
    let within : i < length files = rw same at c.loop-entry-test.true in
    let is : entry ≡ get_or files i entry = rw same at c.entry-item.is in
    let named = c.path.ensures ∙ ap (λ e. e.path) c.entry.ensures in
    record {
      seen =
          λ q. rw (
            has_text-inserted c.path.result before c.insert.new.self
                c.in_ok-added.ensures.updates q,
            named,
            c.loop-entry.invariant.seen q,
          ) (sym (listed_next files i entry within is q));
      printed =
          repeated_more c.args.listing.now _ _ same _ _ c.loop-entry.invariant.printed entry _
          (not c.in_ok-added.added) c.loop-entry-test.true c.entry-item.is
          (by_negation c.in_ok-added.added _ _ c.in_ok-added.ensures.added
          (ap (λ p. has_text p before) named ∙ c.loop-entry.invariant.seen entry.file.path))
          c.in_ok-push_path_if.ensures;
    }

pub returns : goal.returns
returns c =
    repeated_all c.args.listing.now _ _ c.entries-entry-items.ensures _ _
    c.loop-entry.invariant.printed c.loop-entry-test.false
