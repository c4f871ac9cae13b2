-- What an acceptor decides of a slot, from what its records say of it (Lamport, Paxos Made Simple,
-- section 2.2). Its vote is the one of the greatest ballot. Three things are this project's own: a
-- vote is a promise of its ballot too; its vote is answered again, whatever was promised since; and
-- a refusal is answered.
use Rattle.std.specs.Prelude.{Bool, false, ◌||◌, ◌&&◌, List, Option, Some, None, if◌then◌else◌}
use Rattle.fed_types.specs.declared.bag_id.BagId.{BagId}
use Rattle.fed_types.specs.declared.vote.Vote.{Vote}
use Rattle.fed_types.specs.Bags.{same_bag}
use Rattle.fed_types.specs.Ballots.{BallotNumber, below, same_ballot}
use Rattle.fed_types.specs.Slots.{SlotName}
use Rattle.records.specs.declared.entry.Entry.TheVariants as entry
use Rattle.records.specs.declared.record.Record.{Record}
use Rattle.records.specs.SlotStates.{promised_of, vote_of}
use Rattle.acceptor.specs.declared.decision.Decision.{Decision}
use Rattle.acceptor.specs.declared.decision.Response.TheVariants as answer

-- it promises the ballot, and names the vote of the greatest ballot that it has cast
abbrev pub promises : BallotNumber → Option Vote → Decision
promises ballot vote =
    record { entry = Some (entry.Promise ballot); answer = answer.Promised ballot vote }

-- it votes
abbrev pub votes : Vote → Decision
votes vote = record { entry = Some (entry.Vote vote); answer = answer.Accepted vote }

-- this is its vote, and it says so again
abbrev pub votes_again : Vote → Decision
votes_again vote = record { entry = None; answer = answer.Accepted vote }

-- it refuses the ballot, and names the one that it has promised
abbrev pub refuses : (asked standing : BallotNumber) → Decision
refuses asked standing = record { entry = None; answer = answer.Refused asked standing }

-- Phase 1 (b): a ballot is promised if it is greater than every ballot that was promised.
abbrev pub on_prepare : Option BallotNumber → Option Vote → BallotNumber → Decision
on_prepare None vote ballot = promises ballot vote
on_prepare (Some promised) vote ballot =
    if below promised ballot then promises ballot vote else refuses ballot promised

-- whether the vote is in this ballot
abbrev pub is_in_ballot : BallotNumber → Option Vote → Bool
is_in_ballot ballot None = false
is_in_ballot ballot (Some vote) = same_ballot vote.ballot ballot

-- whether two votes are one: for the same bag in the same ballot
abbrev pub is_vote : Vote → Option Vote → Bool
is_vote asked None = false
is_vote asked (Some vote) = same_ballot vote.ballot asked.ballot && same_bag vote.bag asked.bag

-- Phase 2 (b), and P1a: asked for a vote that it hasn't cast last, it casts it, unless it has
-- promised a greater ballot, or has voted for another bag in this one. A vote counts as a promise
-- of its ballot, so where it has promised none it hasn't voted.
abbrev pub on_new_accept : Option BallotNumber → Option Vote → Vote → Decision
on_new_accept None vote asked = votes asked
on_new_accept (Some promised) vote asked =
    if below asked.ballot promised || is_in_ballot asked.ballot vote
    then refuses asked.ballot promised
    else votes asked

-- its vote is answered again; for any other it is asked anew
abbrev pub on_accept : Option BallotNumber → Option Vote → Vote → Decision
on_accept promised vote asked =
    if is_vote asked vote then votes_again asked else on_new_accept promised vote asked

-- what it decides when it is asked to promise a ballot
unfoldable pub prepare_decision : SlotName → List Record → BallotNumber → Decision
prepare_decision slot records ballot =
    on_prepare (promised_of slot records) (vote_of slot records) ballot

-- what it decides when it is asked to vote
unfoldable pub accept_decision : SlotName → List Record → Vote → Decision
accept_decision slot records asked =
    on_accept (promised_of slot records) (vote_of slot records) asked
