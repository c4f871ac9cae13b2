use Rattle.proposer.proofs.Issued.{noted_stands}
use Rattle.proposer.proofs.proposer.Proposer.note.Goals as goal

pub returns-clause-noted : goal.returns-clause-noted
returns-clause-noted g c records volatile under stands =
    noted_stands c.args.self.now.rows c.self.inside.table c.note_in.new.table c.args.new.now
    records volatile under
    (λ s. rw (← c.self.view_is) at (c.reserve.ensures.same s)) c.note_in.ensures stands
