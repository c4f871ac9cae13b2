-- Which deposit an idle site proposes.
use Rattle.std.specs.Prelude.{ℕ, ◌-◌, Bool, false, List, ◌++◌, length, Option, Some, None, is_none}
use Rattle.std.specs.List.{find, range_with_len}
use Rattle.fed_types.specs.Slots.{SlotName}
use Rattle.records.specs.declared.record.Record.{Record}
use Rattle.records.specs.SlotStates.{known_of}
use Rattle.site.specs.Contents.{deposits_of, slot_at}

-- no bag is known for the slot, if there is one
abbrev pub waits_at : List Record → Option SlotName → Bool
waits_at records None = false
waits_at records (Some slot) = is_none (known_of slot records)

-- the deposit at this place, of those on record, in their order, has no known bag
abbrev pub waits : List Record → (place : ℕ) → Bool
waits records place = waits_at records (slot_at (deposits_of records) place)

-- the places from this one on, and then those before it; no more deposits than records are there
abbrev pub going_round : List Record → (from : ℕ) → List ℕ
going_round records from =
    range_with_len from (length records - from) ++ range_with_len 0 from

-- the first of these whose deposit waits
unfoldable pub next_waiting : List Record → (from : ℕ) → Option ℕ
next_waiting records from = find (waits records) (going_round records from)
