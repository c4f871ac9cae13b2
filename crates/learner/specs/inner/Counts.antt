-- What one call makes of the words of a learner's rows.
use Rattle.std.specs.Prelude.{◌≡◌, ℕ, ◌&&◌, Bool, false, List, Option, Some, None, if◌then◌else◌}
use Rattle.fed_types.specs.declared.bag_id.BagId.{BagId}
use Rattle.fed_types.specs.declared.vote.Vote.{Vote}
use Rattle.fed_types.specs.Quorums.{QuorumSystem}
use Rattle.fed_types.specs.Slots.{SlotName, same_slot}
use Rattle.dgram.specs.Heard.{same_vote}
use Rattle.slot_table.specs.Rows.{Rows, row_at}
use Rattle.learner.specs.declared.row.Row.{Row}
use Rattle.learner.specs.LearnerStates.{known_in, counted_in}

-- the known bags are the same
abbrev pub KnowsSame : (old new : Rows Row) → Type 0
KnowsSame old new = (s : SlotName) → known_in (row_at new s) ≡ known_in (row_at old s)

-- and so are the counted sites
abbrev pub CountsSame : (old new : Rows Row) → Type 0
CountsSame old new =
    (s : SlotName) (v : Vote) → counted_in (row_at new s) v ≡ counted_in (row_at old s) v

-- a row with the same votes, except for one, which now has these voters
abbrev pub IsRowCounted : (old new : Row) → Vote → List ℕ → Type 0
IsRowCounted old new vote voters =
    (v : Vote)
    → counted_in (Some new) v ≡ (if same_vote vote v then voters else counted_in (Some old) v)

-- the counted sites are the same, except for one vote of one slot, which now has these voters
abbrev pub IsCounted : (old new : Rows Row) → SlotName → Vote → List ℕ → Type 0
IsCounted old new slot vote voters =
    (s : SlotName) (v : Vote)
    → counted_in (row_at new s) v
    ≡ (if same_slot slot s && same_vote vote v then voters else counted_in (row_at old s) v)

-- the sites counted for a vote, while no bag is known
abbrev pub unless_settled : Option BagId → List ℕ → Option (List ℕ)
unless_settled None voters = Some voters
unless_settled (Some known) voters = None

-- whether a vote's bag is learned, once these sites have cast the vote: nothing is where a bag is
-- known
abbrev pub is_learned : QuorumSystem → Option BagId → List ℕ → Bool
is_learned quorums None voters = quorums.is_quorum voters
is_learned quorums (Some known) voters = false

-- one fact if no bag is known, and another if one is
abbrev pub UnlessKnown : Option BagId → (known unknown : Type 0) → Type 0
UnlessKnown None known unknown = unknown
UnlessKnown (Some bag) known unknown = known

-- the bag that was known first
abbrev pub first_known : Option BagId → BagId → BagId
first_known None bag = bag
first_known (Some known) bag = known
