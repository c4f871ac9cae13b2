-- The numbers of the faults of texts, and when a call answers one.
use Rattle.std.specs.Prelude.{◌≡◌, ℕ, Result, Ok, Err}
use Rattle.bag_text.specs.declared.fault.TextFault.{TextFault}
use Rattle.bag_text.specs.declared.fault.TextFault.TheVariants.{Malformed, Memory}

abbrev pub number_of : TextFault → ℕ
number_of (Malformed line) = 1
number_of Memory = 2

-- the answer, seen by a view, is the wanted one, where an error is a line's number; or memory ran
-- out
abbrev pub IsOrMemory : {X Y : Type 0} → (X → Y) → Result X TextFault → Result Y ℕ → Type 0
IsOrMemory view (Ok found) wanted = wanted ≡ Ok (view found)
IsOrMemory view (Err (Malformed line)) wanted = wanted ≡ Err line
IsOrMemory view (Err Memory) wanted = Unit {0}
