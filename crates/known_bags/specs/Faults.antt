-- What is written of a source that can't be used.
use Rattle.std.specs.Prelude.{◌⊎◌, ⊤, ℕ, List, [], ◌∷◌, ◌++◌, codes}
use Rattle.std.specs.Fmt.{decimal}
use Rattle.outcomes.specs.Outcomes.{Outcome, no_memory}
use Rattle.known_bags.specs.declared.sources.SourceFault.{SourceFault}
use Rattle.known_bags.specs.declared.sources.SourceFault.TheVariants.{Unread, Damaged, Line, Memory}

-- why a source knows nothing
abbrev pub fault_text : SourceFault → List ℕ
fault_text Unread = codes "open 4"
fault_text (Damaged place) = codes "damaged " ++ decimal place
fault_text (Line number) = codes "ledger line " ++ decimal number
fault_text Memory = codes "memory"

abbrev pub fault_outcome : SourceFault → Outcome
fault_outcome fault = record { status = 1; text = fault_text fault ++ 10 ∷ [] }

-- its line has a number, for which there may be no memory
abbrev pub HasNumber : SourceFault → Type 0
HasNumber Unread = ⊥
HasNumber (Damaged place) = ⊤
HasNumber (Line number) = ⊤
HasNumber Memory = ⊥

-- P holds of what is written of it: its line; or, without memory for the number in that, `memory`
abbrev pub AnswersFault : SourceFault → (Outcome → Type 0) → Type 0
AnswersFault fault P = P (fault_outcome fault) ⊎ (HasNumber fault × P no_memory)
