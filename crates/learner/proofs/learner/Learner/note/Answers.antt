use Rattle.std.proofs.Common.{true, sym, subst}
use Rattle.learner.specs.LearnerStates.{LearnerState, Represents}
use Rattle.learner.proofs.HeardVotes.{same_stands}
use Rattle.learner.proofs.NotedRecords.{noted_known, noted_other, says_none}
use Rattle.learner.proofs.learner.Learner.note.Goals as goal

pub returns-in_ok-reserve-clause-noted : goal.returns-in_ok-reserve-clause-noted
returns-in_ok-reserve-clause-noted g c records heard stands =
    noted_known c.reserve.new.table records heard c.args.new.now
    (same_stands c.self.inside.table c.reserve.new.table c.reserve.ensures.known
    c.reserve.ensures.counted records heard
    (subst (λ (l : LearnerState g.row.Q.Denot). Represents l.rows records heard)
    (sym c.self.view_is) stands))
    c.settle.new.table c.in-Known.bag c.in-Known.is c.settle.ensures

pub returns-in_default : goal.returns-in_default
returns-in_default g c = record {
  noted = λ records heard stands. noted_other c.args.self.now.rows records heard c.args.new.now
      stands (says_none c.args.new.now.body c.in_default.not-Known);
  memory = tt;
  no_memory = tt;
  succeeds = λ there i. true;
  rooms = λ s there. there;
  members = λ i. c.args.self.now.members;
}
