use Rattle.fed_types.specs.Quorums.{quorums_of}
use Rattle.records.specs.declared.entry.Entry.TheVariants as entry
use Rattle.audit.proofs.CountedVotes.{no_vote}
use Rattle.audit.proofs.KeptVersions.{known_filled, nothing_filled}
use Rattle.audit.proofs.rows.row_after.Goals as goal

pub returns-in-Known-clause-row : goal.returns-in-Known-clause-row
returns-in-Known-clause-row c given are is =
    rw (c.in-Known.is, c.named.ensures)
    (known_filled (quorums_of c.args.members) given c.args.site c.args.kept.now.slot c.in-Known.bag
    c.args.row is)

pub returns-in-Known-clause-voters : goal.returns-in-Known-clause-voters
returns-in-Known-clause-voters c given are =
    rw c.in-Known.is
    (no_vote c.args.votes.now.entries given c.args.site c.args.kept.now.slot
    (entry.Known c.in-Known.bag) (λ v e. cc e) are)

pub returns-in_default-clause-row : goal.returns-in_default-clause-row
returns-in_default-clause-row c given are is =
    nothing_filled (quorums_of c.args.members) given c.args.site c.args.kept.now.slot
    c.args.kept.now.body c.in_default.not-Vote c.in_default.not-Known c.args.row is

pub returns-in_default-clause-voters : goal.returns-in_default-clause-voters
returns-in_default-clause-voters c given are =
    no_vote c.args.votes.now.entries given c.args.site c.args.kept.now.slot
    c.args.kept.now.body c.in_default.not-Vote are
