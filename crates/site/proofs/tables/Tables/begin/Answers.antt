use Rattle.std.proofs.Common.{ℕ, ap, subst, ◌∙◌}
use Rattle.fed_types.specs.Faults.{IsOrFault}
use Rattle.proposer.specs.declared.fault.ProposeFault.TheVariants as proposals
use Rattle.proposer.specs.Faults.{next_or_spent}
use Rattle.proposer.specs.Proposals.{next_ballot}
use Rattle.site.proofs.Outcomes.{if_ok}
use Rattle.site.proofs.Inside.{is_inside, was_inside}
use Rattle.site.proofs.tables.Tables.begin.Goals as goal

pub returns-clause-answer : goal.returns-clause-answer
returns-clause-answer c owner records volatile under of stands =
    let is = is_inside c.self.view_is owner records of in
    let was = was_inside c.self.view_is records volatile under stands in
    subst (λ (site : ℕ). IsOrFault proposals.Memory c.begin.result
    (next_or_spent (next_ballot site c.args.slot.now records volatile.heard))) is.proposer_site
    (c.begin.ensures.answer records volatile under was.proposer)

pub returns-clause-spent : goal.returns-clause-spent
returns-clause-spent c owner records volatile under of stands none =
    let is = is_inside c.self.view_is owner records of in
    let was = was_inside c.self.view_is records volatile under stands in
    c.begin.ensures.spent records volatile under was.proposer
    (ap (λ (site : ℕ). next_ballot site c.args.slot.now records volatile.heard) is.proposer_site
    ∙ none)

pub returns-clause-begun : goal.returns-clause-begun
returns-clause-begun c = if_ok c.begin.result c.begin.ensures.begun
    (λ ballot begins records volatile under stands.
    let was = was_inside c.self.view_is records volatile under stands in
    record { proposer = begins records volatile under was.proposer; learner = was.learner })
