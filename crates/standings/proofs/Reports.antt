-- What is written of a report.
use Rattle.std.proofs.Common.{◌≡◌, ℕ, List, take, Option, Result, Ok, Err, ap, subst, ◌∙◌}
use Rattle.std.specs.Prelude.{IfOk, OnErr}
use Rattle.std.specs.Io.KnownBytes.{Appends}
use Rattle.outcomes.specs.declared.fault.ProgramFault.{ProgramFault}
use Rattle.outcomes.specs.declared.fault.ProgramFault.TheVariants.{Output}
use Rattle.outcomes.specs.Outcomes.{Outcome}
use Rattle.standings.specs.Reports.{IsWritten}

abbrev fault_in : Result ℕ ProgramFault → ProgramFault
fault_in (Ok status) = Output
fault_in (Err fault) = fault

-- a text that is that of an outcome is written with its status
pub written : (old new : Option (List ℕ)) (result : Result ℕ ProgramFault) (status : ℕ)
    (text : List ℕ) (outcome : Outcome) → status ≡ outcome.status → text ≡ outcome.text
    → IfOk result (λ given. (given ≡ status) × Appends old new text)
    → OnErr result ((result ≡ Err Output) × ((n : ℕ) × Appends old new (take n text)))
    → IsWritten old new result outcome
written old new (Ok given) status text outcome is text_is (same, appends) err =
    (same ∙ is, subst (Appends old new) text_is appends)
written old new (Err fault) status text outcome is text_is ok (fault_is, (n, appends)) =
    (ap fault_in fault_is, (n, subst (λ (t : List ℕ). Appends old new (take n t)) text_is appends))
