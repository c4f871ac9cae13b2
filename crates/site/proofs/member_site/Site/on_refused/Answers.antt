use Rattle.std.proofs.Common.{refl}
use Rattle.site.specs.declared.fault.SiteFault.TheVariants as faults
use Rattle.site.proofs.Seen.{error_of}
use Rattle.site.proofs.HeardMessages.{hears_refused, refusal_unheard, stays_in_order, same_in_order}
use Rattle.site.proofs.member_site.Site.on_refused.Goals as goal

pub invariant_of-self : goal.invariant_of-self
invariant_of-self g c =
    same_in_order c.self.inside.book c.self.inside.tables c.refused.new.self
    c.in_err-refused.ensures.of c.in_err-refused.ensures.same c.self.invariant

pub returns-in_err-refused : goal.returns-in_err-refused
returns-in_err-refused g c =
    λ from asked. rw (← c.self.view_is) (
    refusal_unheard g.C.Cell.device _ _ c.args.slot from asked
    c.args.standing c.from_residual.result
    (error_of c.from_residual.result faults.Memory c.from_residual.ensures.1) refl
    (c.in_err-refused.ensures.same.stands c.self.inside.book.records))

pub invariant_of-self-2 : goal.invariant_of-self-2
invariant_of-self-2 g c =
    stays_in_order c.self.inside.book c.self.inside.tables c.refused.new.self
    c.in_ok-refused.ensures.of
    (λ volatile under stands.
    (_, (_, c.in_ok-refused.ensures.heard 0 c.args.standing _ volatile under stands)))
    c.self.invariant

pub returns : goal.returns
returns g c =
    λ from asked. rw (← c.self.view_is) (
    hears_refused g.C.Cell.device _ _ c.args.slot from asked
    c.args.standing c.quiet.result c.quiet.ensures refl
    (c.in_ok-refused.ensures.heard from asked c.self.inside.book.records))
