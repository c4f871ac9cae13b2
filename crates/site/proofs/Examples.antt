-- The deposits of a few records, computed.
use Rattle.std.proofs.Common.{◌≡◌, ℕ, List, [], ◌∷◌, refl}
use Rattle.fed_types.specs.declared.bag_id.BagId.{BagId}
use Rattle.fed_types.specs.Slots.{SlotName, same_slot}
use Rattle.records.specs.declared.entry.Entry.{Entry}
use Rattle.records.specs.declared.entry.Entry.TheVariants as entry
use Rattle.records.specs.declared.record.Record.{Record}
use Rattle.site.specs.Contents.{deposits_of}

abbrev slot : ℕ → SlotName
slot byte = record { object = byte ∷ []; version = 1 }

abbrev bag : ℕ → BagId
bag byte = record { 0 = byte ∷ [] }

abbrev said : ℕ → Entry → Record
said object body = record { slot = slot object; body = body }

-- the slot b has a deposit, then a has one and another, and the bag of c is known
abbrev records : List Record
records =
    said 98 (entry.Deposit (bag 7)) ∷ said 97 (entry.Deposit (bag 8))
    ∷ said 98 (entry.Round 3) ∷ said 97 (entry.Deposit (bag 9))
    ∷ said 99 (entry.Known (bag 7)) ∷ []

-- the first deposit of each slot counts, in the order in which they were recorded
pub deposits_in_order : deposits_of records ≡ (slot 98, bag 7) ∷ (slot 97, bag 8) ∷ []
unfolding deposits_of same_slot
deposits_in_order = refl
