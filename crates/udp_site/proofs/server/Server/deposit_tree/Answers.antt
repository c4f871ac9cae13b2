use Rattle.std.proofs.Common.{◌≡◌, refl, Ok}
use Rattle.bag_check.specs.Check.{check_of}
use Rattle.site.specs.Calls.{Deposits}
use Rattle.udp_site.specs.Replies.{deposit_answer}
use Rattle.udp_site.specs.Turns.{Serving, IsServing, members, number, deposit_replies, takes_tree}
use Rattle.udp_site.proofs.Called.{Call, is_called, still_serving}
use Rattle.udp_site.proofs.Handed.{is_err}
use Rattle.udp_site.proofs.Said.{handed_and_said, on_ok_at}
use Rattle.udp_site.proofs.Same.{same_number, replied}
use Rattle.udp_site.proofs.server.Server.deposit_tree.Given.{Over}
use Rattle.udp_site.proofs.server.Server.deposit_tree.Goals.{After-reply_to_deposit}
use Rattle.udp_site.proofs.server.Server.deposit_tree.Goals as goal

-- the reply that is told, in the definitions' words
told : (g : Over) (c : After-reply_to_deposit g) (old : Serving g.row.C.Denot) → old.site ≡
    c.args.self.now.site.now
    → deposit_replies c.federation-federation.result c.number-from.result c.args.client
    c.args.slot c.deposit_answer-said.result
    ≡ deposit_replies (members old).federation (number old) c.args.client c.args.slot
    (deposit_answer c.deposit-answer.result)
told g c old there =
    replied old there c.federation-federation.ensures c.members.ensures c.number-from.ensures
    c.args.client c.args.slot c.deposit_answer-said.ensures

-- the site was called
call : (g : Over) (c : After-reply_to_deposit g) (old : Serving g.row.C.Denot) → old.site ≡
    c.args.self.now.site.now
    → IsServing old
    → Call g.C.Cell.device old (Deposits c.args.slot (check_of c.args.facts.now))
    c.deposit-answer.result c.args.self.now.site.now c.deposit-answer.new.self
call g c old there serves = record {
  there = there;
  serves = serves;
  answers = c.deposit-answer.ensures.answer;
  needs_open = c.deposit-answer.ensures.needs_open;
  untouched = c.deposit-answer.ensures.untouched;
}

pub returns-clause-comes : goal.returns-clause-comes
returns-clause-comes g c old there serves =
    let at = (goal.at.returns-clause-comes g c).After-reply_to_deposit in
    let call = call g at old there serves in
    let checked = check_of c.args.facts.now in
    handed_and_said (takes_tree g.C.Cell.device old c.args.client c.args.slot (Ok c.args.facts.now))
    (_, is_called call, refl) refl (still_serving call) _ _
    (rw (told g at old there) at c.in_ok-slot.ensures.handed) _ _ _
    (rw (
      ← same_number old there c.number.ensures.value c.number-from.ensures,
      ← c.in_ok-slot.ensures.slot,
    ) (on_ok_at _ _ c.push_deposit.ensures checked))

pub returns-in_err-slot-clause-comes : goal.returns-in_err-slot-clause-comes
returns-in_err-slot-clause-comes g c old there serves =
    let at = (goal.at.returns-in_err-slot-clause-comes g c).After-reply_to_deposit in
    let part = rw (told g at old there) at c.in_err-slot.ensures.handed in
    rw (is_err _ _ c.from_residual.ensures.1)
    (_, _, (_, is_called (call g at old there serves), refl), refl, part.0, part.1)
