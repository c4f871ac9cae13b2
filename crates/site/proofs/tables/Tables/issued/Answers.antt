use Rattle.site.proofs.Heard.{learner_hears_waiting}
use Rattle.site.proofs.Inside.{was_inside}
use Rattle.site.proofs.tables.Tables.issued.Goals as goal

pub returns-clause-heard : goal.returns-clause-heard
returns-clause-heard c records volatile under stands =
    let was = was_inside c.self.view_is records volatile under stands in
    record {
      proposer = c.issued.ensures.heard records volatile under was.proposer;
      learner = learner_hears_waiting c.self.inside.learner.rows c.self.inside.proposer.rows
          records volatile under was.proposer was.learner c.args.slot.now;
    }
