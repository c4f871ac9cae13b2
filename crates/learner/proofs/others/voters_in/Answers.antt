use Rattle.std.proofs.Common.{ap, ◌∙◌}
use Rattle.learner.specs.LearnerStates.{voters_or_none}
use Rattle.learner.proofs.OrderedVotes.{found_by_order}
use Rattle.learner.proofs.others.voters_in.Goals as goal

pub returns-in-Some : goal.returns-in-Some
returns-in-Some c =
    ap voters_or_none (c.in-Some.ensures.value ∙ found_by_order c.args.map.now.entries
    c.args.vote.now)

pub returns-in-None : goal.returns-in-None
returns-in-None c =
    c.new.ensures
    ∙ ap voters_or_none (c.in-None.ensures.value ∙ found_by_order c.args.map.now.entries
    c.args.vote.now)
