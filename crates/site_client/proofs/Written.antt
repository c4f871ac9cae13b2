-- Outcomes that are written.
use Rattle.std.proofs.Common.{◌≡◌, ℕ, List, take, Option, Result, Ok, Err}
use Rattle.std.specs.Result.{IfOk, OnErr}
use Rattle.std.specs.Io.KnownBytes.{Appends}
use Rattle.outcomes.specs.declared.fault.ProgramFault.{ProgramFault}
use Rattle.outcomes.specs.declared.fault.ProgramFault.TheVariants as faults
use Rattle.outcomes.specs.Outcomes.{Outcome}
use Rattle.site_client.specs.Answers.{IsWritten}

-- what writing an answer says of its outcome
pub written : (outcome : Outcome) (old new : Option (List ℕ)) (result : Result ℕ ProgramFault)
    → IfOk result (λ given. (given ≡ outcome.status) × Appends old new outcome.text)
    → OnErr result ((result ≡ Err faults.Output)
    × ((n : ℕ) × Appends old new (take n outcome.text)))
    → IsWritten old new result outcome
written outcome old new (Ok status) ok err = ok
written outcome old new (Err fault) ok (is, part) = (cc, part)
