use Rattle.std.proofs.Common.{inl}
use Rattle.std.proofs.lemmas.Result.{IfOk-weaker}
use Rattle.std.specs.String.{string_bytes}
use Rattle.outcomes.specs.Outcomes.{Outcome}
use Rattle.audit_command.proofs.cells_audit.audit_on.Goals as goal

pub returns-in-Ok-clause-ok : goal.returns-in-Ok-clause-ok
returns-in-Ok-clause-ok g c =
    let a = c.in-Ok.answer in
    let outcome : Outcome = record { status = a.status; text = string_bytes a.text } in
    IfOk-weaker c.write_output.result _ _ (λ status given. inl (outcome, c.in-Ok.ensures, given))
    (rw c.as_str.ensures.value at c.write_output.ensures.ok)

pub returns-in-Ok-clause-output : goal.returns-in-Ok-clause-output
returns-in-Ok-clause-output g c = λ err.
    let a = c.in-Ok.answer in
    let outcome : Outcome = record { status = a.status; text = string_bytes a.text } in
    let written = rw (c.as_str.ensures.value, err) at c.write_output.ensures.err in
    inl (outcome, c.in-Ok.ensures, written.1)
