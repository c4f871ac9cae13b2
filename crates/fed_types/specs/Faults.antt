-- The numbers of the faults; and an answer that one fault may replace.
use Rattle.std.specs.Prelude.{◌≡◌, ◌⊎◌, ℕ, Result, Err}
use Rattle.fed_types.specs.declared.type_fault.TypeFault.{TypeFault}
use Rattle.fed_types.specs.declared.type_fault.TypeFault.TheVariants.{BadCount, BadSite}
use Rattle.fed_types.specs.declared.type_fault.TypeFault.TheVariants.{BadObject, ZeroVersion}
use Rattle.fed_types.specs.declared.type_fault.TypeFault.TheVariants.{ZeroRound, BadWeight}

-- the number of a fault
abbrev pub fault_number : TypeFault → ℕ
fault_number BadCount = 1
fault_number BadSite = 2
fault_number BadObject = 3
fault_number ZeroVersion = 4
fault_number ZeroRound = 5
fault_number BadWeight = 6

-- the answer is the wanted one, or in its place this fault, such as that memory ran out
abbrev pub IsOrFault : {X F : Type 0} → (fault : F) → (answer wanted : Result X F) → Type 0
IsOrFault fault answer wanted = (answer ≡ wanted) ⊎ (answer ≡ Err fault)
