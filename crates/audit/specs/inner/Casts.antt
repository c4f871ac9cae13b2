-- The sites that have each vote on record, as they are kept.
use Rattle.std.specs.Prelude.{◌≡◌, ℕ, Bool, ◌&&◌, List, Some, if◌then◌else◌}
use Rattle.std.specs.Map.{lookup}
use Rattle.fed_types.specs.declared.vote.Vote.{Vote}
use Rattle.fed_types.specs.Slots.{SlotName, same_slot}
use Rattle.dgram.specs.Heard.{same_vote}
use Rattle.learner.specs.LearnerStates.{voters_or_none}
use Rattle.audit.specs.declared.votes.Cast.{Cast}

abbrev pub Casts : Type 0
Casts = List (Cast × List ℕ)

abbrev pub same_cast : Cast → Cast → Bool
same_cast a b = same_slot a.slot b.slot && same_vote a.vote b.vote

abbrev pub cast_of : SlotName → Vote → Cast
cast_of slot vote = record { slot = slot; vote = vote }

-- the sites that have the vote
abbrev pub voters_in : Casts → Cast → List ℕ
voters_in casts cast = voters_or_none (lookup (same_cast cast) casts)

-- one vote has these voters now, and all others are as they were
abbrev pub IsCounted : (old new : Casts) → Cast → List ℕ → Type 0
IsCounted old new cast voters =
    (c : Cast)
    → lookup (same_cast c) new
    ≡ (if same_cast cast c then Some voters else lookup (same_cast c) old)
