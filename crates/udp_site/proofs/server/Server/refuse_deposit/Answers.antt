use Rattle.std.proofs.Common.{◌≡◌, refl, append-nil}
use Rattle.udp_site.specs.Replies.{tree_answer}
use Rattle.udp_site.specs.Turns.{Serving, members, number, deposit_replies}
use Rattle.udp_site.proofs.Handed.{is_err}
use Rattle.udp_site.proofs.Same.{replied}
use Rattle.udp_site.proofs.server.Server.refuse_deposit.Given.{Over}
use Rattle.udp_site.proofs.server.Server.refuse_deposit.Goals.{After-reply_to_deposit}
use Rattle.udp_site.proofs.server.Server.refuse_deposit.Goals as goal

-- the reply that is told, in the definitions' words
told : (g : Over) (c : After-reply_to_deposit g) (old : Serving g.row.C.Denot) → old.site ≡
    c.args.self.now.site.now
    → deposit_replies c.federation-federation.result c.number-from.result c.args.client
    c.args.slot c.tree_answer-said.result
    ≡ deposit_replies (members old).federation (number old) c.args.client c.args.slot
    (tree_answer c.args.fault)
told g c old there =
    replied old there c.federation-federation.ensures c.members.ensures c.number-from.ensures
    c.args.client c.args.slot c.tree_answer-said.ensures

pub returns-clause-comes : goal.returns-clause-comes
returns-clause-comes g c old there serves =
    let told = told g (goal.at.returns-clause-comes g c).After-reply_to_deposit old there in (
      _,
      old,
      (refl, refl),
      there,
      serves,
      rw told at c.in_ok-reply_to_deposit.ensures.handed,
      rw append-nil,
    )

pub returns-in_err-reply_to_deposit-clause-comes : goal.returns-in_err-reply_to_deposit-clause-comes
returns-in_err-reply_to_deposit-clause-comes g c old there serves =
    let at = goal.at.returns-in_err-reply_to_deposit-clause-comes g c in
    let part = rw (told g at.After-reply_to_deposit old there) at
    c.in_err-reply_to_deposit.ensures.handed in
    rw (is_err _ _ c.from_residual.ensures.1) (_, old, (refl, refl), there, part.0, part.1)
