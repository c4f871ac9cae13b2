-- The effect of a call on a proposer: `old` is what was represented before it, and `new` what is
-- represented now, by the proposer's rows or by all tables of a site.
use Rattle.std.specs.Prelude.{ℕ, [], ◌∷◌, ◌++◌, Option, None}
use Rattle.fed_types.specs.declared.bag_id.BagId.{BagId}
use Rattle.fed_types.specs.Ballots.{BallotNumber}
use Rattle.fed_types.specs.Slots.{SlotName}
use Rattle.records.specs.declared.record.Record.{Record}
use Rattle.records.specs.Records.{Records}
use Rattle.dgram.specs.declared.message.Message.{Message}
use Rattle.proposer.specs.VolatileStates.{VolatileState, hears, refusal_message}
use Rattle.proposer.specs.UnderWay.{UnderWay, heard_if, waits}
use Rattle.proposer.specs.UnderWay.{heard_after, waiting_after, current_by, current_if}
use Rattle.proposer.specs.UnderWay.{under_way_if}

-- what a proposer's rows, or a site's tables, represent
abbrev pub Meaning : Type 1
Meaning = Records → VolatileState → UnderWay → Type 0

-- a promise is heard; or it made a proposal of this bag ready, and waits
abbrev pub HearsPromise : (old new : Meaning) → Message → Option BagId → Type 0
HearsPromise old new promise bag =
    (records : Records) (volatile : VolatileState) (under : UnderWay) → old records volatile under
    → new records (heard_after bag volatile promise) (waiting_after bag under promise)

-- the proposal that became ready is issued: the promise that waits is heard
abbrev pub IssuesProposal : (old new : Meaning) → SlotName → Type 0
IssuesProposal old new slot =
    (records : Records) (volatile : VolatileState) (under : UnderWay) → old records volatile under
    → new records (heard_if volatile (under.waiting slot)) (waits under slot None)

-- a refusal is heard, from whatever site and of whatever ballot
abbrev pub HearsRefusal : (old new : Meaning) → SlotName → (standing : BallotNumber) → Type 0
HearsRefusal old new slot standing =
    (from : ℕ) (asked : BallotNumber) (records : Records) (volatile : VolatileState)
    (under : UnderWay)
    → old records volatile under
    → new records (hears volatile (refusal_message slot from asked standing)) under

-- a record is noted: the Round of a ballot that was begun makes it current
abbrev pub NotesRecord : (old new : Meaning) → Record → Type 0
NotesRecord old new r =
    (records : Records) (volatile : VolatileState) (under : UnderWay) → old records volatile under
    → new (records ++ r ∷ []) (current_if volatile r.slot (current_by (under.begun r.slot) r.body))
    (under_way_if under r.slot (current_by (under.begun r.slot) r.body))
