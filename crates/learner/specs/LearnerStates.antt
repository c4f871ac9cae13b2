-- What a learner knows of each slot.
use Rattle.std.specs.Prelude.{◌≡◌, ℕ, List, [], Option, Some, None, if◌then◌else◌}
use Rattle.std.specs.Map.{lookup}
use Rattle.fed_types.specs.declared.bag_id.BagId.{BagId}
use Rattle.fed_types.specs.declared.vote.Vote.{Vote}
use Rattle.fed_types.specs.Lists.{is_in}
use Rattle.fed_types.specs.Slots.{SlotName}
use Rattle.records.specs.declared.record.Record.{Record}
use Rattle.records.specs.SlotStates.{known_of}
use Rattle.dgram.specs.declared.message.Message.{Message}
use Rattle.dgram.specs.Heard.{same_vote, bodies_of, voters_for}
use Rattle.slot_table.specs.Rows.{Rows, row_at}
use Rattle.learner.specs.declared.row.Row.{Row}
use Rattle.learner.specs.declared.row.Row.TheVariants as rows

-- whose quorums count, and the rows of the slots
pub record LearnerState (Q : Type 0) : Type 0 where
  pub members : Q
  pub rows : Rows Row

-- the known bag, by the slot's row
abbrev pub known_in : Option Row → Option BagId
known_in None = None
known_in (Some (rows.Known bag)) = Some bag
known_in (Some rows.Unheard) = None
known_in (Some (rows.Heard votes)) = None

-- the votes that were heard, and the sites that were heard to have cast each
abbrev pub Votes : Type 0
Votes = List (Vote × List ℕ)

-- the sites counted for a vote
abbrev pub voters_or_none : Option (List ℕ) → List ℕ
voters_or_none None = []
voters_or_none (Some voters) = voters

abbrev pub voters_for_vote : Votes → Vote → List ℕ
voters_for_vote votes vote = voters_or_none (lookup (same_vote vote) votes)

-- the same votes, except for one, which now has these voters
abbrev pub IsCountedWith : (old new : Votes) → Vote → List ℕ → Type 0
IsCountedWith old new vote voters =
    (v : Vote)
    → lookup (same_vote v) new
    ≡ (if same_vote vote v then Some voters else lookup (same_vote v) old)

-- the sites counted for a vote in a row
abbrev pub counted_in : Option Row → Vote → List ℕ
counted_in None vote = []
counted_in (Some (rows.Known bag)) vote = []
counted_in (Some rows.Unheard) vote = []
counted_in (Some (rows.Heard votes)) vote = voters_for_vote votes vote

-- the learner knows for each slot its known bag, by the records; and, for a slot without one, for
-- each vote the sites that were heard to have cast it
pub record Represents (table : Rows Row) (records : List Record) (heard : List Message) : Type 0
  where
    pub known : (slot : SlotName) → known_in (row_at table slot) ≡ known_of slot records
    pub votes :
        (slot : SlotName) → known_of slot records ≡ None → (vote : Vote) (n : ℕ)
        → is_in (counted_in (row_at table slot) vote) n
        ≡ is_in (voters_for vote (bodies_of slot heard)) n

-- whatever records and messages the old rows represent, the new ones represent
abbrev pub RepresentsSame : (old new : Rows Row) → Type 0
RepresentsSame old new =
    (records : List Record) (heard : List Message)
    → Represents old records heard → Represents new records heard
