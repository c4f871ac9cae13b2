-- Slots: an object's name and a version.
use Rattle.std.specs.Prelude.{ℕ, ◌≤◌, List, length, Bool, ◌==◌, ◌&&◌, bytes_eq}
use Rattle.std.specs.declared.cmp.Ordering.{Ordering}
use Rattle.std.specs.Cmp.Lexicographic.{slice_cmp}
use Rattle.std.specs.Ordering.{nat_cmp, then_cmp, on}
use Rattle.fed_types.specs.Limits.{longest_object}

-- a slot by the bytes of its object's name, and its version
pub record SlotName : Type 0 where
  pub object : List ℕ
  pub version : ℕ

-- a name has at least one byte, and no more than the most
abbrev pub IsObjectName : List ℕ → Type 0
IsObjectName bytes = (1 ≤ length bytes) × (length bytes ≤ longest_object)

-- the slot of this object and version
abbrev pub slot_name : List ℕ → ℕ → SlotName
slot_name object version = record { object = object; version = version }

-- what is true of every slot beyond what its type says; with it the slot is IsSlot, in Values
abbrev pub IsSlotName : SlotName → Type 0
IsSlotName s = IsObjectName s.object × (1 ≤ s.version)

-- whether two slots are one: the same version of the same object
unfoldable pub same_slot : SlotName → SlotName → Bool
same_slot a b = (a.version == b.version) && bytes_eq a.object b.object

-- the order of slots: by object, and then by version
unfoldable pub slot_cmp : SlotName → SlotName → Ordering
slot_cmp = then_cmp (on (λ s. s.object) (slice_cmp nat_cmp)) (on (λ s. s.version) nat_cmp)
