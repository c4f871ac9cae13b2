use Rattle.std.proofs.Common.{Option, ap, ◌∙◌}
use Rattle.fed_types.specs.declared.bag_id.BagId.{BagId}
use Rattle.fed_types.specs.Quorums.{quorums_of}
use Rattle.fed_types.specs.Sites.{Membership}
use Rattle.records.specs.SlotStates.{deposit_of}
use Rattle.slot_table.specs.Rows.{Rows, row_at}
use Rattle.proposer.specs.Proposals.{ready}
use Rattle.site.proofs.Deposited.{deposit_at}
use Rattle.site.proofs.Heard.{learner_hears_promise}
use Rattle.site.proofs.Inside.{is_inside, was_inside}
use Rattle.site.proofs.tables.Tables.promise.Goals as goal

pub returns-clause-ready : goal.returns-clause-ready
returns-clause-ready c owner records volatile under of stands =
    let is = is_inside c.self.view_is owner records of in
    let was = was_inside c.self.view_is records volatile under stands in
    c.promise.ensures.ready records volatile under was.proposer
    ∙ ap (λ (own : Option BagId). ready (quorums_of c.self.inside.proposer.members) own
    c.args.slot.now (volatile.current c.args.slot.now) volatile.heard c.args.ballot
    (record { site = c.args.from; prior = c.args.prior }))
    (c.of-own.ensures
    ∙ ap (λ (rows : Rows BagId). row_at rows c.args.slot.now) is.deposits
    ∙ deposit_at c.args.slot.now records)
    ∙ ap (λ (m : Membership). ready (quorums_of m) (deposit_of c.args.slot.now records)
    c.args.slot.now (volatile.current c.args.slot.now) volatile.heard c.args.ballot
    (record { site = c.args.from; prior = c.args.prior })) is.proposer_members

pub returns-clause-heard : goal.returns-clause-heard
returns-clause-heard c records volatile under stands =
    let was = was_inside c.self.view_is records volatile under stands in
    record {
      proposer = c.promise.ensures.heard records volatile under was.proposer;
      learner = learner_hears_promise c.self.inside.learner.rows records volatile was.learner
          c.promise.result c.args.slot.now c.args.from c.args.ballot c.args.prior;
    }
