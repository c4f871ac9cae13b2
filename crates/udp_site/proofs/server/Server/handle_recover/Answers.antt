use Rattle.std.proofs.Common.{◌≡◌, refl}
use Rattle.site.specs.Calls.{Recovers}
use Rattle.udp_site.specs.Turns.{Serving, IsServing, number, recovering}
use Rattle.udp_site.proofs.Called.{Call, is_called, still_serving}
use Rattle.udp_site.proofs.Handed.{is_err}
use Rattle.udp_site.proofs.Proposals.{refuses}
use Rattle.udp_site.proofs.Said.{handed_and_said, on_ok_at}
use Rattle.udp_site.proofs.Same.{same_number}
use Rattle.udp_site.proofs.server.Server.handle_recover.Given.{Over}
use Rattle.udp_site.proofs.server.Server.handle_recover.Goals.{After-send_answer}
use Rattle.udp_site.proofs.server.Server.handle_recover.Goals as goal

-- the site was called
call : (g : Over) (c : After-send_answer g) (old : Serving g.row.C.Denot)
    → old.site ≡ c.args.self.now.site.now → IsServing old
    → Call g.C.Cell.device old (Recovers c.args.slot.now) c.recover-answer.result
    c.args.self.now.site.now c.recover-answer.new.self
call g c old there serves = record {
  there = there;
  serves = serves;
  answers = c.recover-answer.ensures.answer;
  needs_open = c.recover-answer.ensures.needs_open;
  untouched = c.recover-answer.ensures.untouched;
}

pub returns-clause-comes : goal.returns-clause-comes
returns-clause-comes g c old there serves =
    let call = call g (goal.at.returns-clause-comes g c).After-send_answer old there serves in
    handed_and_said (recovering g.C.Cell.device c.args.self.now.addresses.now old c.args.slot.now) (
      _,
      is_called call,
      refuses old there serves (Recovers c.args.slot.now) _ c.recover-answer.ensures.refused,
      refl,
    ) refl (still_serving call) _ _ c.in_ok-send_answer.ensures.hands _ _ _
    (rw (← same_number old there c.number-number.ensures.value c.number.ensures)
    (on_ok_at _ _ c.push_recovery.ensures c.args.slot.now))

pub returns-in_err-send_answer-clause-comes : goal.returns-in_err-send_answer-clause-comes
returns-in_err-send_answer-clause-comes g c old there serves =
    let at = goal.at.returns-in_err-send_answer-clause-comes g c in
    rw (is_err _ _ c.from_residual.ensures.1) (
      _,
      _,
      (
        _,
        is_called (call g at.After-send_answer old there serves),
        refuses old there serves (Recovers c.args.slot.now) _ c.recover-answer.ensures.refused,
        refl,
      ),
      refl,
      c.in_err-send_answer.ensures.hands.0,
      c.in_err-send_answer.ensures.hands.1,
    )
