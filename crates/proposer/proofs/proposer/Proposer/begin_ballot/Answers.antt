use Rattle.proposer.specs.Rows.{row_of}
use Rattle.proposer.specs.inner.Rows.{with_begun}
use Rattle.proposer.proofs.Stands.{begins_at, put_present}
use Rattle.proposer.proofs.proposer.Proposer.begin_ballot.Goals as goal

pub returns-clause-begun : goal.returns-clause-begun
returns-clause-begun g c =
    begins_at c.args.self.now.rows c.self-2.inside.table c.begin_in.new.table c.args.slot.now
    c.in_ok-plan.plan c.args.plan
    (λ s. rw (← c.self-2.view_is) at (c.reserve.ensures.same s))
    c.begin_in.ensures c.in_ok-plan.ensures.ok

pub returns-clause-present : goal.returns-clause-present
returns-clause-present g c =
    put_present c.self-2.inside.table c.begin_in.new.table c.args.slot.now
    (with_begun (row_of c.self-2.inside.table c.args.slot.now) c.in_ok-plan.plan)
    c.begin_in.ensures
