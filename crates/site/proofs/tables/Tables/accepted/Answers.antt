use Rattle.std.proofs.Common.{refl}
use Rattle.dgram.specs.declared.body.Body.TheVariants.{Accepted}
use Rattle.proposer.proofs.Stands.{heard_stands}
use Rattle.site.proofs.Outcomes.{if_ok}
use Rattle.site.proofs.Inside.{was_inside}
use Rattle.site.proofs.tables.Tables.accepted.Goals as goal

pub returns-clause-heard : goal.returns-clause-heard
returns-clause-heard c = if_ok c.accepted.result c.accepted.ensures.heard
    (λ o hears none records volatile under stands.
    let was = was_inside c.self.view_is records volatile under stands in
    record {
      proposer = heard_stands c.self.inside.proposer.rows
          (record { slot = c.args.slot.now; body = Accepted c.args.from c.args.vote })
          records volatile under refl (λ b. refl) was.proposer;
      learner = hears none records volatile.heard was.learner;
    })
