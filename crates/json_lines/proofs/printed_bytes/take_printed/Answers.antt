use Rattle.std.proofs.Common.{sym, ◌∙◌}
use Rattle.json_lines.specs.Lines.{memory_line}
use Rattle.json_lines.proofs.LineText.{ended_text, ended_begun, whole_begun, nothing_written}
use Rattle.json_lines.proofs.LineText.{part_of_line}
use Rattle.json_lines.proofs.printed_bytes.take_printed.Goals as goal

pub returns-in-Ok-clause-written : goal.returns-in-Ok-clause-written
returns-in-Ok-clause-written g c =
    rw (ended_text c.args.begun.now.items c.args.bytes.now c.in-Some.end
    (sym c.line_end.ensures ∙ c.in-Some.is))
    (rw c.as_slice.ensures.value at c.in-Ok.ensures.ok)

pub returns-in-Ok-clause-begun : goal.returns-in-Ok-clause-begun
returns-in-Ok-clause-begun g c =
    c.clear.ensures.items
    ∙ sym (ended_begun c.args.begun.now.items c.args.bytes.now c.in-Some.end
    (sym c.line_end.ensures ∙ c.in-Some.is))

pub returns-in-Err-clause-err : goal.returns-in-Err-clause-err
returns-in-Err-clause-err g c =
    part_of_line _ _ c.args.begun.now.items c.args.bytes.now memory_line c.in-Some.end
    (sym c.line_end.ensures ∙ c.in-Some.is)
    (rw c.as_slice.ensures.value at c.in-Err.ensures.err)

pub returns-in-Ok-extend_from_slice-clause-written :
    goal.returns-in-Ok-extend_from_slice-clause-written
returns-in-Ok-extend_from_slice-clause-written g c =
    nothing_written _ c.args.begun.now.items c.args.bytes.now
    (sym c.line_end.ensures ∙ c.in-None.is)

pub returns-in-Ok-extend_from_slice-clause-begun :
    goal.returns-in-Ok-extend_from_slice-clause-begun
returns-in-Ok-extend_from_slice-clause-begun g c =
    c.in-Ok-extend_from_slice.ensures.items
    ∙ sym (whole_begun c.args.begun.now.items c.args.bytes.now
    (sym c.line_end.ensures ∙ c.in-None.is))
