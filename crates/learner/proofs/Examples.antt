-- What a learner learns of one slot in a federation of four, computed.
use Rattle.std.proofs.Common.{◌≡◌, ℕ, List, [], ◌∷◌, replicate, Some, None, refl}
use Rattle.fed_types.specs.declared.vote.Vote.{Vote}
use Rattle.fed_types.specs.Lists.{is_in}
use Rattle.fed_types.specs.Quorums.{QuorumSystem, quorums_of}
use Rattle.fed_types.specs.Sites.{sites_to}
use Rattle.fed_types.specs.Slots.{SlotName, same_slot}
use Rattle.records.specs.declared.entry.Entry.TheVariants as entry
use Rattle.records.specs.SlotStates.{known_of}
use Rattle.dgram.specs.declared.message.Message.{Message}
use Rattle.dgram.specs.Heard.{bodies_of, voters_for}
use Rattle.learner.specs.LearnedBags.{with_vote, chosen_by, learned_from}

abbrev four : QuorumSystem
four = quorums_of (record { federation = 7; weights = replicate 4 1 })

abbrev slot : SlotName
slot = record { object = 97 ∷ []; version = 1 }

abbrev vote : ℕ → ℕ → Vote
vote round bag =
    record { ballot = record { round = round; site = 1 }; bag = record { 0 = bag ∷ [] } }

-- site 1 was heard twice, site 2 once; site 3 voted in another ballot, and for another bag
abbrev heard : List Message
heard =
    with_vote (with_vote (with_vote (with_vote (with_vote [] slot 1 (vote 1 7)) slot 1 (vote 1 7))
    slot 2 (vote 1 7)) slot 3 (vote 2 7)) slot 3 (vote 1 8)

-- half of four is no quorum, and a site counts once
pub half_learns_nothing : learned_from four slot [] heard 2 (vote 1 7) ≡ None
unfolding known_of chosen_by bodies_of voters_for same_slot is_in sites_to
half_learns_nothing = refl

-- a third site's vote in that ballot makes a quorum
pub quorum_learns :
    learned_from four slot [] heard 3 (vote 1 7) ≡ Some (record { 0 = 7 ∷ [] })
unfolding known_of chosen_by bodies_of voters_for same_slot is_in sites_to
quorum_learns = refl

-- a site that is no member doesn't count
pub stranger_learns_nothing : learned_from four slot [] heard 9 (vote 1 7) ≡ None
unfolding known_of chosen_by bodies_of voters_for same_slot is_in sites_to
stranger_learns_nothing = refl

-- where a bag is known nothing is learned
pub known_learns_nothing :
    learned_from four slot
    (record { slot = slot; body = entry.Known (record { 0 = 7 ∷ [] }) } ∷ [])
    heard 3 (vote 1 7)
    ≡ None
unfolding known_of chosen_by bodies_of voters_for same_slot is_in sites_to
known_learns_nothing = refl
