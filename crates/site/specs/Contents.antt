-- What a site's tables hold, and what they represent.
use Rattle.std.specs.Prelude.{◌≡◌, ℕ, ◌<◌, List, [], ◌∷◌, ◌++◌, Option, Some, None, IsSome, fold}
use Rattle.std.specs.Prelude.{slice_get}
use Rattle.std.specs.Option.{option_map}
use Rattle.fed_types.specs.declared.bag_id.BagId.{BagId}
use Rattle.fed_types.specs.Sites.{Membership}
use Rattle.fed_types.specs.Slots.{SlotName}
use Rattle.records.specs.declared.owner.Owner.{Owner}
use Rattle.records.specs.declared.record.Record.{Record}
use Rattle.records.specs.SlotStates.{deposit_in}
use Rattle.dgram.specs.declared.message.Message.{Message}
use Rattle.slot_table.specs.Rows.{Rows, row_at}
use Rattle.acceptor.specs.declared.row.Row.{Row as acceptor_row}
use Rattle.acceptor.specs.Rows as acceptors
use Rattle.proposer.specs.Rows as proposers
use Rattle.proposer.specs.VolatileStates.{VolatileState}
use Rattle.proposer.specs.UnderWay.{UnderWay}
use Rattle.learner.specs.LearnerStates as learners

-- the slots that have a deposit, with it, and room for how many more; the deposit of each slot that
-- has one or may get one; and what the acceptor, the proposer and the learner know of each slot
pub record Contents : Type 0 where
  pub deposits : Rows BagId
  pub spare : ℕ
  pub depositing : Rows (Option BagId)
  pub acceptor : Rows acceptor_row
  pub proposer : proposers.ProposerState Membership
  pub learner : learners.LearnerState Membership

-- the deposit of a slot that had none goes to the end
abbrev pub unless_there : Rows BagId → SlotName → BagId → Option BagId → Rows BagId
unless_there rows slot bag None = rows ++ (slot, bag) ∷ []
unless_there rows slot bag (Some own) = rows

abbrev pub with_bag : Rows BagId → SlotName → Option BagId → Rows BagId
with_bag rows slot None = rows
with_bag rows slot (Some bag) = unless_there rows slot bag (row_at rows slot)

abbrev pub with_deposit : Rows BagId → Record → Rows BagId
with_deposit rows r = with_bag rows r.slot (deposit_in r.body)

-- the slots that have a Deposit record, in the order of their first ones, with the bag of each
unfoldable pub deposits_of : List Record → Rows BagId
deposits_of records = fold with_deposit [] records

-- the slot at this place, counted from 0, of those that have a deposit
abbrev pub slot_at : Rows BagId → ℕ → Option SlotName
slot_at rows place = option_map (λ row. row.0) (slice_get rows place)

-- The tables of this owner say what these records say: what follows from the records alone.
-- Whatever the learner has heard, it knows the bags that the records say are known.
pub record IsOf (t : Contents) (owner : Owner) (records : List Record) : Type 0 where
  pub deposits : t.deposits ≡ deposits_of records
  pub acceptor : acceptors.Represents t.acceptor records
  pub learner : (heard : List Message) × learners.Represents t.learner.rows records heard
  pub proposer_members : t.proposer.members ≡ owner.members
  pub proposer_site : t.proposer.site ≡ owner.site
  pub learner_members : t.learner.members ≡ owner.members

-- they represent the records, and what was heard since the site was opened
pub record Represents
    (t : Contents) (records : List Record) (volatile : VolatileState) (under : UnderWay)
    : Type 0 where
  pub proposer : proposers.Represents t.proposer.rows records volatile under
  pub learner : learners.Represents t.learner.rows records volatile.heard

-- there is room for a record of this slot
pub record HasRoom (t : Contents) (slot : SlotName) : Type 0 where
  pub deposits : 0 < t.spare
  pub depositing : IsSome (row_at t.depositing slot)
  pub acceptor : IsSome (row_at t.acceptor slot)
  pub proposer : IsSome (row_at t.proposer.rows slot)
  pub learner : IsSome (row_at t.learner.rows slot)

-- the new tables are those of whatever owner and records the old ones are of
abbrev pub IsOfSame : (old new : Contents) → Type 0
IsOfSame old new =
    (owner : Owner) (records : List Record) → IsOf old owner records → IsOf new owner records

-- whatever owner, records and messages the old contents represent, the new ones represent
pub record RepresentsSame (old new : Contents) : Type 0 where
  pub of : IsOfSame old new
  pub stands : (records : List Record) (volatile : VolatileState) (under : UnderWay)
      → Represents old records volatile under → Represents new records volatile under
