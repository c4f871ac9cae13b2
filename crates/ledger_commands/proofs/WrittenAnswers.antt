-- An answer that was written is one to what the reader had left.
use Rattle.std.proofs.Common.{◌≡◌, ℕ, List, take, Option, None, Some, Result, Ok, Err, IfSome, inl}
use Rattle.std.proofs.Common.{subst}
use Rattle.std.specs.Result.{IfOk, OnErr, IsErrOf}
use Rattle.std.specs.Io.KnownBytes.{Appends}
use Rattle.outcomes.specs.Outcomes.{Outcome, Writes, WritesPrefix}
use Rattle.outcomes.specs.declared.fault.ProgramFault.{ProgramFault}
use Rattle.outcomes.specs.declared.fault.ProgramFault.TheVariants as ProgramFaults
use Rattle.ledger.specs.declared.ending.Ending.{Ending}
use Rattle.ledger.specs.declared.version_filter.VersionFilter.{VersionFilter}
use Rattle.ledger.specs.LedgerPieces.{IsLedgerText}
use Rattle.ledger_commands.specs.Answers.{AnswersTo, status_of}
use Rattle.ledger_commands.specs.Ledgers.{IsLedger}

module _ (Is : List ℕ → Outcome → Type 0) (left : Option (List ℕ)) (outcome : Outcome)
    (result : Result ℕ ProgramFault) (old new : Option (List ℕ))
    (is : IfSome left (λ bytes. Is bytes outcome)) where
  answers : (P : Outcome → Type 0) → P outcome → IfSome left (λ all. AnswersTo Is all P)
  answers P has = go left is
    where
      go : (left : Option (List ℕ)) → IfSome left (λ bytes. Is bytes outcome)
          → IfSome left (λ all. AnswersTo Is all P)
      go None it = tt
      go (Some all) it = inl (outcome, it, has)

  pub answered : IfOk result (λ given. (given ≡ outcome.status) × Appends old new outcome.text)
      → IfOk result (λ status. IfSome left (λ all. AnswersTo Is all (Writes old new status)))
  answered h = go result h
    where
      go : (result : Result ℕ ProgramFault)
          → IfOk result (λ given. (given ≡ outcome.status) × Appends old new outcome.text)
          → IfOk result (λ status. IfSome left (λ all. AnswersTo Is all (Writes old new status)))
      go (Err fault) h = tt
      go (Ok status) h = answers (Writes old new status) h

  pub stopped : OnErr result ((result ≡ Err ProgramFaults.Output)
      × ((n : ℕ) × Appends old new (take n outcome.text)))
      → IsErrOf result ProgramFaults.Output
      → IfSome left (λ all. AnswersTo Is all (WritesPrefix old new))
  stopped stops err = answers (WritesPrefix old new)
      (subst (λ r. OnErr r ((result ≡ Err ProgramFaults.Output)
      × ((n : ℕ) × Appends old new (take n outcome.text)))) err stops).1

-- lines that were read, with their status
pub is_ledger : (wanted : VersionFilter) (left : Option (List ℕ)) (ending : Ending) (status : ℕ)
    (text : List ℕ) → status ≡ status_of ending
    → IfSome left (λ bytes. IsLedgerText wanted bytes ending text)
    → IfSome left (λ bytes. IsLedger wanted bytes (record { status = status; text = text }))
is_ledger wanted None ending status text e lines = tt
is_ledger wanted (Some bytes) ending status text e lines = (ending, lines, e)
