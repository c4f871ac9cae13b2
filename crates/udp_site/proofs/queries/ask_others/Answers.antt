use Rattle.udp_site.proofs.Handed.{is_err}
use Rattle.std.proofs.Common.{[], sym, ap, ◌∙◌, le_refl, le_trans}
use Rattle.fed_types.specs.Sites.{members_of}
use Rattle.site.specs.Sites.{OpenSite}
use Rattle.udp_site.proofs.Questions.{nobody_asked, all_asked, next_asked, next_failed}
use Rattle.udp_site.proofs.queries.ask_others.Goals as goal

pub loop-member-init : goal.loop-member-init
loop-member-init g c = (
  tt,
  tt,
  λ old there serves.
      nobody_asked c.args.addresses.now old c.args.slot.now c.into_iter-member-iterator.result
      (c.into_iter-member-iterator.ensures.into_iter_gives ∙ (c.sites-member-items.ensures
      ∙ ap members_of (c.members.ensures
      ∙ ap (λ (o : OpenSite g.row.C.Denot). o.book.owner.members) (sym there))))
      (g.P.Port.traffic c.args.port.now) c.args.lines.now.items,
  le_refl _,
)

pub loop-member-preserved : goal.loop-member-preserved
loop-member-preserved g c = (
  tt,
  tt,
  λ old there serves.
      next_asked c.args.addresses.now old c.args.slot.now _ _ _ _ _ _ _ _ _
      c.in-Some.ensures.steps (c.loop-member.invariant.2 old there serves)
      (c.in_ok-ask_other.ensures.comes old there serves),
  le_trans c.loop-member.invariant.3 c.in_ok-ask_other.ensures.later,
)

pub returns-in_err-ask_other-clause-comes : goal.returns-in_err-ask_other-clause-comes
returns-in_err-ask_other-clause-comes g c old there serves =
    rw (is_err _ _ c.from_residual.ensures.1)
    (next_failed c.args.addresses.now old c.args.slot.now _ _ _ _ _ [] _ _ _
    c.in-Some.ensures.steps (c.loop-member.invariant.2 old there serves) _
    (c.in_err-ask_other.ensures.comes old there serves))

pub returns-clause-comes : goal.returns-clause-comes
returns-clause-comes g c old there serves =
    all_asked c.args.addresses.now old c.args.slot.now _ _ _ _ _ c.in-None.ensures.steps.0
    (c.loop-member.invariant.2 old there serves)
