-- What the records of a cell say of each version: the known bag; if none is known, the site's own
-- deposit; if it has none either, its vote; else that it was asked, or has begun to ask.
use Rattle.std.specs.Prelude.{List, [], ◌∷◌, ◌++◌, Option, Some, None, fold, if◌then◌else◌}
use Rattle.std.specs.List.{list_any}
use Rattle.fed_types.specs.declared.bag_id.BagId.{BagId}
use Rattle.fed_types.specs.declared.vote.Vote.{Vote}
use Rattle.fed_types.specs.Slots.{SlotName, same_slot}
use Rattle.records.specs.declared.record.Record.{Record}
use Rattle.records.specs.SlotStates.{deposit_of, known_of, vote_of}
use Rattle.ledger.specs.declared.standing.Standing.{Standing}
use Rattle.ledger.specs.declared.standing.Standing.TheVariants.{Known, Pending, Voted, Asked}

-- a version goes to the end, unless it is there
abbrev pub with_slot : List SlotName → Record → List SlotName
with_slot slots r = if list_any (same_slot r.slot) slots then slots else slots ++ r.slot ∷ []

-- the versions, in the order of their first records
unfoldable pub slots_of : List Record → List SlotName
slots_of records = fold with_slot [] records

-- by the known bag, the deposit and the vote
abbrev pub standing : Option BagId → Option BagId → Option Vote → Standing
standing (Some known) deposit vote = Known known
standing None (Some deposit) vote = Pending deposit
standing None None (Some vote) = Voted vote.bag
standing None None None = Asked

-- what these records say of a version
abbrev pub standing_of : List Record → SlotName → Standing
standing_of records slot =
    standing (known_of slot records) (deposit_of slot records) (vote_of slot records)
