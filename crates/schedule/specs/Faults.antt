-- Why a text is no schedule, and the numbers of the faults.
use Rattle.std.specs.Prelude.{◌≡◌, ℕ, Result, Ok, Err}
use Rattle.schedule.specs.declared.fault.ParseFault.{ParseFault}
use Rattle.schedule.specs.declared.fault.ParseFault.TheVariants.{Line, Memory}

abbrev pub number_of : ParseFault → ℕ
number_of (Line line) = 1
number_of Memory = 2

-- the answer is what the definition gives, a value or the number of a line at fault, or that memory
-- ran out
abbrev pub IsOrMemory : {X : Type 0} → Result X ParseFault → Result X ℕ → Type 0
IsOrMemory (Ok value) wanted = wanted ≡ Ok value
IsOrMemory (Err (Line number)) wanted = wanted ≡ Err number
IsOrMemory (Err Memory) wanted = Unit {0}
