-- What an acceptor decides on a few records of one slot, computed.
use Rattle.std.proofs.Common.{◌≡◌, ℕ, List, [], ◌∷◌, Option, Some, None, refl}
use Rattle.fed_types.specs.declared.bag_id.BagId.{BagId}
use Rattle.fed_types.specs.declared.vote.Vote.{Vote}
use Rattle.fed_types.specs.Ballots.{BallotNumber, ballot_cmp}
use Rattle.fed_types.specs.Slots.{SlotName, same_slot}
use Rattle.records.specs.declared.entry.Entry.{Entry}
use Rattle.records.specs.declared.entry.Entry.TheVariants as entry
use Rattle.records.specs.declared.record.Record.{Record}
use Rattle.records.specs.SlotStates.{promised_of, vote_of}
use Rattle.acceptor.specs.Decisions.{promises, votes, votes_again, refuses}
use Rattle.acceptor.specs.Decisions.{prepare_decision, accept_decision}

abbrev slot : SlotName
slot = record { object = 97 ∷ []; version = 1 }

abbrev ballot : ℕ → ℕ → BallotNumber
ballot round site = record { round = round; site = site }

abbrev vote : BallotNumber → ℕ → Vote
vote in_ballot bag = record { ballot = in_ballot; bag = record { 0 = bag ∷ [] } }

abbrev said : Entry → Record
said body = record { slot = slot; body = body }

-- it promised (1, 1), voted for the bag 7 in (1, 2), and promised (2, 1)
abbrev records : List Record
records =
    said (entry.Promise (ballot 1 1)) ∷ said (entry.Vote (vote (ballot 1 2) 7))
    ∷ said (entry.Promise (ballot 2 1)) ∷ []

-- without records the first ballot is promised
pub first_promise : prepare_decision slot [] (ballot 1 1) ≡ promises (ballot 1 1) None
unfolding prepare_decision promised_of vote_of same_slot ballot_cmp
first_promise = refl

-- a greater ballot is promised, and the vote is named
pub greater_promise :
    prepare_decision slot records (ballot 2 2) ≡ promises (ballot 2 2) (Some (vote (ballot 1 2) 7))
unfolding prepare_decision promised_of vote_of same_slot ballot_cmp
greater_promise = refl

-- an equal one isn't
pub equal_refused : prepare_decision slot records (ballot 2 1) ≡ refuses (ballot 2 1) (ballot 2 1)
unfolding prepare_decision promised_of vote_of same_slot ballot_cmp
equal_refused = refl

-- it votes in the ballot that it has promised
pub promised_vote :
    accept_decision slot records (vote (ballot 2 1) 8) ≡ votes (vote (ballot 2 1) 8)
unfolding accept_decision promised_of vote_of same_slot ballot_cmp
promised_vote = refl

-- its vote is answered again, though it has promised a greater ballot since
pub told_again :
    accept_decision slot records (vote (ballot 1 2) 7) ≡ votes_again (vote (ballot 1 2) 7)
unfolding accept_decision promised_of vote_of same_slot ballot_cmp
told_again = refl

-- a vote for another bag in that ballot isn't cast, and neither is one in a lower ballot
pub other_bag_refused :
    accept_decision slot records (vote (ballot 1 2) 8) ≡ refuses (ballot 1 2) (ballot 2 1)
unfolding accept_decision promised_of vote_of same_slot ballot_cmp
other_bag_refused = refl

-- nor in the ballot of its vote, where nothing greater is promised
pub one_vote_a_ballot :
    accept_decision slot (said (entry.Vote (vote (ballot 1 2) 7)) ∷ []) (vote (ballot 1 2) 8)
    ≡ refuses (ballot 1 2) (ballot 1 2)
unfolding accept_decision promised_of vote_of same_slot ballot_cmp
one_vote_a_ballot = refl
