-- What the records say of slots, and of the places of deposits.
use Rattle.std.specs.Prelude.{◌≡◌, ◌<◌, ◌≤◌, ℕ, Bool, true, false, is_some, List}
use Rattle.std.specs.Prelude.{Option, Some, None}
use Rattle.fed_types.specs.Slots.{SlotName}
use Rattle.records.specs.declared.record.Record.{Record}
use Rattle.records.specs.SlotStates.{said_in, known_in, known_of}
use Rattle.site.specs.Contents.{deposits_of, slot_at}

-- that a bag is known for it
abbrev pub says_known : SlotName → Record → Bool
says_known slot r = is_some (said_in known_in slot r)

-- a bag is known for the slot, if there is one
abbrev pub known_at : List Record → Option SlotName → Bool
known_at records None = false
known_at records (Some slot) = is_some (known_of slot records)

-- there is a deposit at this place, and its slot has a known bag
abbrev pub is_settled : List Record → (place : ℕ) → Bool
is_settled records place = known_at records (slot_at (deposits_of records) place)

-- so is each place before this one
abbrev pub AreSettled : List Record → (before : ℕ) → Type 0
AreSettled records before = (place : ℕ) → place < before → is_settled records place ≡ true

-- the first place of which the test holds, from this one on; or it holds of none of them
abbrev pub IsFirst : (ℕ → Bool) → (from : ℕ) → Option ℕ → Type 0
IsFirst test from None = (place : ℕ) → from ≤ place → test place ≡ false
IsFirst test from (Some first) =
    (from ≤ first) × (test first ≡ true)
    × ((place : ℕ) → from ≤ place → place < first → test place ≡ false)
