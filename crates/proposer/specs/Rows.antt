-- What a proposer knows of each slot.
use Rattle.std.specs.Prelude.{◌≡◌, ◌≤◌, ℕ, List, length, Option, Some, None, box_value}
use Rattle.std.specs.Prelude.{option_map}
use Rattle.fed_types.specs.Ballots.{BallotNumber}
use Rattle.fed_types.specs.Lists.{is_in}
use Rattle.fed_types.specs.Slots.{SlotName}
use Rattle.records.specs.declared.record.Record.{Record}
use Rattle.records.specs.SlotStates.{used_of}
use Rattle.dgram.specs.declared.body.Body.TheVariants.{Promise}
use Rattle.dgram.specs.declared.message.Message.{Message}
use Rattle.dgram.specs.Heard.{bodies_of, floor_of, promisers}
use Rattle.slot_table.specs.Rows as tables
use Rattle.proposer.specs.declared.ballot_state.Promise.{Promise as Waiting}
use Rattle.proposer.specs.declared.row.Row.{Row}
use Rattle.proposer.specs.Proposals.{Current, gathered, highest_prior}
use Rattle.proposer.specs.BallotStates.{BallotState, fresh, state_of}
use Rattle.proposer.specs.VolatileStates.{VolatileState}
use Rattle.proposer.specs.UnderWay.{UnderWay}

-- the membership, the own site, and the rows by slot
pub record ProposerState (M : Type 0) : Type 0 where
  pub members : M
  pub site : ℕ
  pub rows : tables.Rows Row

-- they are the same members and the same site's
abbrev pub IsOfSameSite : {M : Type 0} → (old new : ProposerState M) → Type 0
IsOfSameSite old new = (new.members ≡ old.members) × (new.site ≡ old.site)

-- for a slot without a row nothing was recorded or heard
abbrev pub empty_row : Row
empty_row = record { used = 0; floor = 0; begun = None; current = None }

-- what is known of a slot
abbrev pub row_of : tables.Rows Row → SlotName → Row
row_of rows slot = tables.row_of empty_row rows slot

-- the same is known of each slot
abbrev pub KnowsSame : (old new : tables.Rows Row) → Type 0
KnowsSame old new = (s : SlotName) → row_of new s ≡ row_of old s

-- the ballots of a row, with what was gathered for them
abbrev pub begun_in : Row → Option BallotState
begun_in row = option_map (λ plan. state_of (box_value plan)) row.begun

abbrev pub current_in : Row → Option BallotState
current_in row = row.current

-- the current ballot: it counts the promises that were gathered
pub record Counts
    (slot : SlotName) (heard : List Message) (c : Current) (state : BallotState)
    : Type 0 where
  pub ballot : state.ballot ≡ c.ballot
  pub promised_by : (n : ℕ)
      → is_in state.promised_by n ≡ is_in (promisers (gathered slot c heard)) n
  pub best : state.best ≡ highest_prior (gathered slot c heard)
  pub within : c.heard_before ≤ length heard

abbrev pub CountsFor :
    SlotName → List Message → Option Current → Option BallotState → Type 0
CountsFor slot heard None None = Unit {0}
CountsFor slot heard (Some c) (Some state) = Counts slot heard c state
CountsFor slot heard _ _ = ⊥

-- the promise that waits, as it was heard
abbrev pub waiting_as : SlotName → BallotNumber → Option Waiting → Option Message
waiting_as slot ballot None = None
waiting_as slot ballot (Some p) =
    Some (record { slot = slot; body = Promise p.site ballot p.prior })

abbrev pub waiting_in : SlotName → Option BallotState → Option Message
waiting_in slot None = None
waiting_in slot (Some state) = waiting_as slot state.ballot state.waiting

-- the row knows what records and messages say of the slot, its current ballot, the next one that is
-- begun, for which nothing was gathered, and what waits
pub record Knows
    (slot : SlotName) (records : List Record) (heard : List Message) (c : Option Current)
    (next : Option BallotNumber) (m : Option Message) (row : Row)
    : Type 0 where
  pub used : row.used ≡ used_of slot records
  pub floor : row.floor ≡ floor_of (bodies_of slot heard)
  pub begun : begun_in row ≡ option_map fresh next
  pub current : CountsFor slot heard c (current_in row)
  pub waiting : waiting_in slot (current_in row) ≡ m

-- this is true of every slot
abbrev pub Represents : tables.Rows Row → List Record → VolatileState → UnderWay → Type 0
Represents rows records volatile under =
    (slot : SlotName)
    → Knows slot records volatile.heard (volatile.current slot) (under.begun slot)
    (under.waiting slot) (row_of rows slot)
