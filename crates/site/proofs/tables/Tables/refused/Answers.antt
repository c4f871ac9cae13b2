use Rattle.std.proofs.Common.{refl}
use Rattle.proposer.specs.VolatileStates.{refusal_message}
use Rattle.site.proofs.Heard.{learner_hears}
use Rattle.site.proofs.Outcomes.{on_ok}
use Rattle.site.proofs.Inside.{was_inside}
use Rattle.site.proofs.tables.Tables.refused.Goals as goal

pub returns-clause-heard : goal.returns-clause-heard
returns-clause-heard c = on_ok c.refused.result c.refused.ensures.heard
    (λ hears from asked records volatile under stands.
    let was = was_inside c.self.view_is records volatile under stands in
    record {
      proposer = hears from asked records volatile under was.proposer;
      learner = learner_hears c.self.inside.learner.rows records volatile.heard was.learner
          (refusal_message c.args.slot.now from asked c.args.standing) (λ v. refl);
    })
