use Rattle.std.proofs.Common.{inl}
use Rattle.proposer.proofs.Stands.{next_is, begun_stands}
use Rattle.proposer.proofs.proposer.Proposer.begin.Goals as goal

pub returns-in-None-clause-answer : goal.returns-in-None-clause-answer
returns-in-None-clause-answer g c records volatile under stands =
    let next = next_is _ c.args.self.now.site c.args.slot.now records volatile under stands in
    inl (rw (← next, ← c.in-None.ensures))

pub returns-in-Ok-clause-answer : goal.returns-in-Ok-clause-answer
returns-in-Ok-clause-answer g c records volatile under stands =
    let next = next_is _ c.args.self.now.site c.args.slot.now records volatile under stands in
    inl (rw (← next, ← c.in-Some.ensures))

pub returns-in-Ok-clause-spent : goal.returns-in-Ok-clause-spent
returns-in-Ok-clause-spent g c records volatile under stands none =
    let next = next_is _ c.args.self.now.site c.args.slot.now records volatile under stands in
    absurd (cc (c.in-Some.ensures, next, none))

pub returns-in-Ok-clause-begun : goal.returns-in-Ok-clause-begun
returns-in-Ok-clause-begun g c records volatile under stands =
    begun_stands c.args.self.now.rows c.begin_ballot.new.self.rows c.args.slot.now c.in-Some.ballot
    records volatile under (rw c.new.ensures at c.in-Ok.ensures.begun) stands

pub returns-in-Err-clause-spent : goal.returns-in-Err-clause-spent
returns-in-Err-clause-spent g c records volatile under stands none =
    let next = next_is _ c.args.self.now.site c.args.slot.now records volatile under stands in
    absurd (cc (c.in-Some.ensures, next, none))
