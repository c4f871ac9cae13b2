use Rattle.std.proofs.Common.{◌+◌, sym, ◌∙◌, arith}
use Rattle.bag_text.proofs.LineLaws.{lines_of-empty}
use Rattle.bag_text.proofs.ManifestLaws.{read_blank, read_entry, read_fault, read_ended}
use Rattle.bag_text.proofs.parse_manifest.entries_in.Goals as goal

pub loop-rest-preserved-then-is_blank_line : goal.loop-rest-preserved-then-is_blank_line
loop-rest-preserved-then-is_blank_line c = record {
  read =
      read_blank c.args.algorithm (c.loop-rest.number + 1) c.loop-rest.rest.now
      c.loop-rest.entries.items _ c.loop-rest.invariant.read c.first_line.result.0.now
      c.first_line.result.1.now c.first_line.ensures.lines (sym c.if-is_blank_line.ensures);
  counted = omega (arith, c.loop-rest.invariant.counted, c.first_line.ensures.shorter);
}

pub returns-in_default : goal.returns-in_default
returns-in_default c =
    read_fault c.args.algorithm (c.loop-rest.number + 1) c.loop-rest.rest.now
    c.loop-rest.entries.items _ c.loop-rest.invariant.read c.first_line.result.0.now
    c.first_line.result.1.now c.first_line.ensures.lines (sym c.if-is_blank_line.ensures)
    (sym c.in_ok-entry.ensures ∙ c.in_default.is)

pub loop-rest-preserved : goal.loop-rest-preserved
loop-rest-preserved c = record {
  read =
      rw c.in_ok-push.ensures.items
      (read_entry c.args.algorithm (c.loop-rest.number + 1) c.loop-rest.rest.now
      c.loop-rest.entries.items _ c.loop-rest.invariant.read c.first_line.result.0.now
      c.first_line.result.1.now c.in-Some.entry c.first_line.ensures.lines
      (sym c.if-is_blank_line.ensures) (sym c.in_ok-entry.ensures ∙ c.in-Some.is));
  counted = omega (arith, c.loop-rest.invariant.counted, c.first_line.ensures.shorter);
}

pub returns : goal.returns
returns c =
    read_ended c.args.algorithm (c.loop-rest.number + 1) c.loop-rest.rest.now
    c.loop-rest.entries.items _ c.loop-rest.invariant.read
    (lines_of-empty c.loop-rest.rest.now c.loop-rest-test.ensures)
