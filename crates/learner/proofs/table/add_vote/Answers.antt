use Rattle.std.proofs.Common.{is_some, sym, ap}
use Rattle.learner.proofs.Rows.{knows_put, heard_put}
use Rattle.learner.proofs.table.add_vote.Goals as goal

pub returns-in-Some-clause-known : goal.returns-in-Some-clause-known
returns-in-Some-clause-known g c =
    knows_put c.args.table.now (c.get_mut.follows.lender c.add_vote.new.self) c.args.slot.now
    c.in-Some.row.now c.add_vote.new.self
    ((c.get_mut.follows.holds c.add_vote.new.self).0 (ap is_some (sym c.in-Some.ensures.value)))
    (sym c.in-Some.ensures.value) c.add_vote.ensures.known

pub returns-in-Some-clause-counted : goal.returns-in-Some-clause-counted
returns-in-Some-clause-counted g c =
    heard_put c.args.table.now (c.get_mut.follows.lender c.add_vote.new.self) c.args.slot.now
    c.in-Some.row.now c.add_vote.new.self
    ((c.get_mut.follows.holds c.add_vote.new.self).0 (ap is_some (sym c.in-Some.ensures.value)))
    (sym c.in-Some.ensures.value) c.args.vote.now c.args.from c.add_vote.result
    c.add_vote.ensures.counted
