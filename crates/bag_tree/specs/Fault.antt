-- The numbers of the faults of trees, and when a call answers one.
use Rattle.std.specs.Prelude.{◌≡◌, ℕ, Option, Some, None, Result, Ok, Err}
use Rattle.bag_tree.specs.declared.fault.TreeFault.{TreeFault}
use Rattle.bag_tree.specs.declared.fault.TreeFault.TheVariants.{Listing, NotAFile, TooDeep, TooMany}
use Rattle.bag_tree.specs.declared.fault.TreeFault.TheVariants.{TextTooLong, Device, Memory}
use Rattle.bag_tree.specs.declared.fault.TreeFault.TheVariants.{BadPath}

abbrev pub number_of : TreeFault → ℕ
number_of Listing = 1
number_of NotAFile = 2
number_of TooDeep = 3
number_of TooMany = 4
number_of TextTooLong = 5
number_of Device = 6
number_of Memory = 7
number_of BadPath = 8

-- a call that finds this fault answers it, and one that finds none succeeds or memory ran out
abbrev pub RefusesFor : {T : Type 0} → Option TreeFault → Result T TreeFault → Type 0
RefusesFor found (Ok done) = found ≡ None
RefusesFor found (Err Memory) = found ≡ None
RefusesFor found (Err fault) = found ≡ Some fault

-- the answer is the wanted one, or memory ran out
abbrev pub IsOrMemory : {T : Type 0} → Result T TreeFault → Result T TreeFault → Type 0
IsOrMemory (Ok value) wanted = wanted ≡ Ok value
IsOrMemory (Err Memory) wanted = Unit {0}
IsOrMemory (Err fault) wanted = wanted ≡ Err fault
