-- What the definitions give of a few messages, by computation. Sites are 1 to 3 or 1 to 4, and a
-- bag is a number.
use Rattle.std.proofs.Common.{◌≡◌, ℕ, List, [], ◌∷◌, Option, None, Some, refl}
use Rattle.fed_types.specs.declared.bag_id.BagId.{BagId}
use Rattle.fed_types.specs.declared.vote.Vote.{Vote}
use Rattle.fed_types.specs.Ballots.{BallotNumber, ballot_cmp}
use Rattle.fed_types.specs.Lists.{is_in}
use Rattle.fed_types.specs.Quorums.{QuorumSystem, quorums_of}
use Rattle.fed_types.specs.Sites.{sites_to}
use Rattle.fed_types.specs.Slots.{SlotName, same_slot}
use Rattle.records.specs.declared.entry.Entry.TheVariants as entry
use Rattle.records.specs.declared.record.Record.{Record}
use Rattle.records.specs.SlotStates.{used_of}
use Rattle.dgram.specs.declared.body.Body.TheVariants.{Promise, Refused}
use Rattle.dgram.specs.declared.message.Message.{Message}
use Rattle.dgram.specs.Heard.{bodies_of, floor_of, PromiseFrom, promises_for, promisers, priors}
use Rattle.proposer.specs.Proposals.{Current, next_ballot, gathered, highest_prior, proposal, ready}

abbrev a1 : SlotName
a1 = record { object = 97 ∷ []; version = 1 }

abbrev bag : ℕ → BagId
bag n = record { 0 = n ∷ [] }

abbrev ballot : ℕ → ℕ → BallotNumber
ballot round site = record { round = round; site = site }

abbrev vote : ℕ → ℕ → ℕ → Vote
vote round site n = record { ballot = ballot round site; bag = bag n }

abbrev from : ℕ → Option Vote → PromiseFrom
from site prior = record { site = site; prior = prior }

-- members of equal weight
abbrev of_three : QuorumSystem
of_three = quorums_of (record { federation = 7; weights = 1 ∷ 1 ∷ 1 ∷ [] })

abbrev of_four : QuorumSystem
of_four = quorums_of (record { federation = 7; weights = 1 ∷ 1 ∷ 1 ∷ 1 ∷ [] })

-- the highest vote isn't the one that was named last; of equal ballots it is the first
highest_first : highest_prior (from 2 (Some (vote 3 2 7)) ∷ from 1 (Some (vote 2 3 8)) ∷ []) ≡ Some
    (vote 3 2 7)
unfolding highest_prior priors ballot_cmp
highest_first = refl

highest_last : highest_prior
    (from 2 (Some (vote 2 3 8)) ∷ from 3 None ∷ from 1 (Some (vote 3 2 7)) ∷ []) ≡ Some (vote 3 2 7)
unfolding highest_prior priors ballot_cmp
highest_last = refl

highest_by_site : highest_prior (from 2 (Some (vote 3 1 7)) ∷ from 1 (Some (vote 3 2 8)) ∷ []) ≡
    Some (vote 3 2 8)
unfolding highest_prior priors ballot_cmp
highest_by_site = refl

highest_of_equal : highest_prior (from 2 (Some (vote 3 2 7)) ∷ from 1 (Some (vote 3 2 8)) ∷ []) ≡
    Some (vote 3 2 7)
unfolding highest_prior priors ballot_cmp
highest_of_equal = refl

-- ---- a site of three members, with a current ballot that was issued after one message
abbrev at : SlotName → BallotNumber → ℕ → Option Vote → Message
at slot b site prior = record { slot = slot; body = Promise site b prior }

abbrev a2 : SlotName
a2 = record { object = 97 ∷ []; version = 2 }

abbrev current : Current
current = record { ballot = ballot 2 1; heard_before = 1 }

-- what was heard before the ballot was issued doesn't count, nor what is for another ballot or for
-- another slot
abbrev heard : List Message
heard =
    at a1 (ballot 2 1) 3 None ∷ at a1 (ballot 1 1) 3 None ∷ at a2 (ballot 2 1) 3 None
    ∷ at a1 (ballot 2 2) 3 None ∷ at a1 (ballot 2 1) 2 (Some (vote 1 3 7)) ∷ []

gathered_alone : gathered a1 current heard ≡ from 2 (Some (vote 1 3 7)) ∷ []
unfolding gathered promises_for bodies_of same_slot
gathered_alone = refl

-- the bag of the vote, once a second site promises; the first one's promise twice is no quorum
proposes_the_vote :
    (ready of_three (Some (bag 9)) a1 (Some current) heard (ballot 2 1) (from 1 None) ≡ Some
    (bag 7))
    × (ready of_three (Some (bag 9)) a1 (Some current) heard (ballot 2 1) (from 2 None) ≡ None)
unfolding proposal gathered promises_for bodies_of same_slot promisers highest_prior priors is_in
    ballot_cmp sites_to
proposes_the_vote = (refl, refl)

-- a promise for another ballot, and one where none is current, give nothing
stale :
    (ready of_three (Some (bag 9)) a1 (Some current) heard (ballot 1 1) (from 1 None) ≡ None)
    × (ready of_three (Some (bag 9)) a1 None heard (ballot 2 1) (from 1 None) ≡ None)
unfolding proposal gathered promises_for bodies_of same_slot promisers highest_prior priors is_in
    ballot_cmp sites_to
stale = (refl, refl)

-- half of four members isn't a quorum; three of them are, once, and then the own deposit is
-- proposed
of_an_even_membership :
    (proposal of_four (Some (bag 9)) (from 1 None ∷ []) (from 2 None) ≡ None)
    × (proposal of_four (Some (bag 9)) (from 1 None ∷ from 2 None ∷ []) (from 4 None) ≡ Some
    (bag 9))
    × (proposal of_four (Some (bag 9)) (from 1 None ∷ from 2 None ∷ from 4 None ∷ [])
    (from 3 None) ≡ None)
unfolding proposal promisers highest_prior priors is_in sites_to
of_an_even_membership = (refl, refl, refl)

-- without an own deposit only the bag of a vote is proposed; where a quorum names none nothing is,
-- and no later promise makes a proposal ready
without_a_deposit :
    (proposal of_three None (from 1 None ∷ []) (from 2 (Some (vote 1 3 7))) ≡ Some (bag 7))
    × (proposal of_three None (from 1 None ∷ []) (from 2 None) ≡ None)
    × (proposal of_three None (from 1 None ∷ from 2 None ∷ []) (from 3 (Some (vote 1 3 7)))
    ≡ None)
unfolding proposal promisers highest_prior priors is_in ballot_cmp sites_to
without_a_deposit = (refl, refl, refl)

-- ---- the next ballot
abbrev used : ℕ → Record
used n = record { slot = a1; body = entry.Round n }

abbrev refused : ℕ → Message
refused n = record { slot = a1; body = Refused 2 (ballot 1 1) (ballot n 3) }

-- above what was used, and above what stood in the way; a lower refusal later changes nothing
next_ballots :
    (next_ballot 1 a1 [] [] ≡ Some (ballot 1 1))
    × (next_ballot 1 a1 (used 3 ∷ used 2 ∷ []) (refused 2 ∷ []) ≡ Some (ballot 4 1))
    × (next_ballot 1 a1 (used 3 ∷ []) (refused 5 ∷ refused 4 ∷ []) ≡ Some (ballot 6 1))
    × (next_ballot 1 a1 (used 4294967294 ∷ []) [] ≡ Some (ballot 4294967295 1))
    × (next_ballot 1 a1 [] (refused 4294967295 ∷ []) ≡ None)
unfolding next_ballot used_of floor_of bodies_of same_slot
next_ballots = (refl, refl, refl, refl, refl)
