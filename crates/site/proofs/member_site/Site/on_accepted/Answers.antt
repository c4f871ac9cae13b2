use Rattle.std.proofs.Common.{refl, sym, ◌∙◌}
use Rattle.site.specs.declared.fault.SiteFault.TheVariants as faults
use Rattle.site.proofs.Seen.{error_of}
use Rattle.site.proofs.HeardMessages.{hears_vote, hears_deciding_vote, vote_unheard, stays_in_order}
use Rattle.site.proofs.HeardMessages.{same_in_order}
use Rattle.site.proofs.member_site.Site.on_accepted.Goals as goal

pub invariant_of-self : goal.invariant_of-self
invariant_of-self g c =
    same_in_order c.self.inside.book c.self.inside.tables c.accepted.new.self
    c.in_err-bag.ensures.of c.in_err-bag.ensures.same c.self.invariant

pub returns-in_err-bag : goal.returns-in_err-bag
returns-in_err-bag g c =
    rw (← c.self.view_is) (
    vote_unheard g.C.Cell.device _ _ c.args.slot c.args.from c.args.vote c.from_residual.result
    (error_of c.from_residual.result faults.Memory c.from_residual.ensures.1) refl
    (λ volatile under stands.
    (c.in_err-bag.ensures.no_memory _ _ volatile under c.self.invariant.of stands).1)
    (c.in_err-bag.ensures.same.stands c.self.inside.book.records))

pub invariant_of-self-in-None-1 : goal.invariant_of-self-in-None-1
invariant_of-self-in-None-1 g c =
    stays_in_order c.self.inside.book c.self.inside.tables c.accepted.new.self
    c.in_ok-bag.ensures.of
    (λ volatile under stands.
    (_, (_, c.in_ok-bag.ensures.heard c.in-None.is _ volatile under stands)))
    c.self.invariant

pub returns-in-Some : goal.returns-in-Some
returns-in-Some g c =
    rw (← c.self.view_is) (
    hears_deciding_vote g.C.Cell.device _ _ c.args.slot c.args.from c.args.vote
    c.in-Some.bag c.learn.result
    (λ volatile under stands. sym c.in-Some.is
    ∙ c.in_ok-bag.ensures.learned _ _ volatile under c.self.invariant.of stands)
    (rw (c.in_ok-bag.ensures.unchanged (rw c.in-Some.is refl)) at c.learn.ensures))

pub returns-in-None : goal.returns-in-None
returns-in-None g c =
    rw (← c.self.view_is) (
    hears_vote g.C.Cell.device _ _ c.args.slot c.args.from c.args.vote
    c.quiet.result c.quiet.ensures refl
    (λ volatile under stands. sym c.in-None.is
    ∙ c.in_ok-bag.ensures.learned _ _ volatile under c.self.invariant.of stands)
    (c.in_ok-bag.ensures.heard c.in-None.is c.self.inside.book.records))
