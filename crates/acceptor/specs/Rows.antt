-- What an acceptor knows of each slot.
use Rattle.std.specs.Prelude.{◌≡◌, List, Option, Some, None}
use Rattle.fed_types.specs.Slots.{SlotName}
use Rattle.records.specs.declared.record.Record.{Record}
use Rattle.records.specs.SlotStates.{promised_of, vote_of}
use Rattle.slot_table.specs.Rows.{Rows, row_at}
use Rattle.acceptor.specs.declared.row.Row.{Row}

-- a slot without a row has no promise and no vote
abbrev pub row_or_empty : Option Row → Row
row_or_empty None = record { promised = None; vote = None }
row_or_empty (Some row) = row

-- what is known of a slot
abbrev pub row_of : Rows Row → SlotName → Row
row_of table slot = row_or_empty (row_at table slot)

-- the same is known of each slot
abbrev pub KnowsSame : (old new : Rows Row) → Type 0
KnowsSame old new = (s : SlotName) → row_of new s ≡ row_of old s

-- the acceptor knows of each slot what these records say: its promise and its vote
abbrev pub Represents : Rows Row → List Record → Type 0
Represents table records =
    (slot : SlotName)
    → row_of table slot
    ≡ record { promised = promised_of slot records; vote = vote_of slot records }
