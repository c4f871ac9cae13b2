use Rattle.std.proofs.Common.{sym, ◌∙◌}
use Rattle.learner.proofs.OrderedVotes.{found_by_order, with_by_order}
use Rattle.learner.proofs.others.set_in.Goals as goal

pub returns-in-Ok-clause-ok : goal.returns-in-Ok-clause-ok
returns-in-Ok-clause-ok c =
    with_by_order c.args.map.now.entries c.insert.new.self.entries c.args.vote c.args.voters
    c.in-Ok.ensures.updates.0

pub returns-in-Err-clause-memory : goal.returns-in-Err-clause-memory
returns-in-Err-clause-memory c =
    sym (found_by_order c.args.map.now.entries c.args.vote) ∙ c.in-Err.ensures.absent
