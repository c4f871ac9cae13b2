use Rattle.std.proofs.Common.{true, false}
use Rattle.fed_types.specs.Quorums.{quorums_of}
use Rattle.fed_types.specs.Laws.Quorums.{are_quorums}
use Rattle.audit.proofs.CountedVotes.{vote_counted}
use Rattle.audit.proofs.KeptVersions.{vote_filled}
use Rattle.audit.proofs.rows.after_vote.Goals as goal

pub returns-then-is_quorum-clause-row : goal.returns-then-is_quorum-clause-row
returns-then-is_quorum-clause-row c given are is =
    rw c.chosen.ensures
    (vote_filled (quorums_of c.args.members) given c.args.site c.args.cast.slot
    (are_quorums c.args.members) c.args.votes.now.entries c.count.new.votes.entries c.args.cast.vote
    c.in_ok-voters.ensures.counted are c.args.row is true
    (rw (← c.in_ok-voters.ensures.voters, ← c.is_quorum.ensures) c.if-is_quorum.true))

pub returns-then-is_quorum-clause-voters : goal.returns-then-is_quorum-clause-voters
returns-then-is_quorum-clause-voters c given are =
    vote_counted c.args.votes.now.entries c.count.new.votes.entries given c.args.site
    c.args.cast.slot c.args.cast.vote c.in_ok-voters.ensures.counted are

pub returns-else-is_quorum-clause-row : goal.returns-else-is_quorum-clause-row
returns-else-is_quorum-clause-row c given are is =
    vote_filled (quorums_of c.args.members) given c.args.site c.args.cast.slot
    (are_quorums c.args.members) c.args.votes.now.entries c.count.new.votes.entries c.args.cast.vote
    c.in_ok-voters.ensures.counted are c.args.row is false
    (rw (← c.in_ok-voters.ensures.voters, ← c.is_quorum.ensures) c.if-is_quorum.false)

pub returns-else-is_quorum-clause-voters : goal.returns-else-is_quorum-clause-voters
returns-else-is_quorum-clause-voters c given are =
    vote_counted c.args.votes.now.entries c.count.new.votes.entries given c.args.site
    c.args.cast.slot c.args.cast.vote c.in_ok-voters.ensures.counted are
