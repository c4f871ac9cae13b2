use Rattle.std.proofs.Common.{refl}
use Rattle.site.proofs.Seen.{error_of}
use Rattle.site.proofs.StartedBallots.{mid_order, not_started, started, refused_or_started}
use Rattle.site.proofs.StartedBallots.{refused_as, not_refused}
use Rattle.site.proofs.member_site.Site.start_ballot.Goals as goal

pub invariant_of-self : goal.invariant_of-self
invariant_of-self g c =
    mid_order g.C.Cell.device _ _ c.args.slot.now refl _ _ c.owner-owner.ensures
    c.begin_ballot.ensures c.self.invariant

pub returns-in_err-new : goal.returns-in_err-new
returns-in_err-new g c = rw (← c.self.view_is) (record {
  answer = λ volatile stands.
      rw (error_of c.from_residual.result c.in_err-new.field-0.0 c.from_residual.ensures.1)
      (not_started g.C.Cell.device _ _ c.args.slot.now refl _ _ c.owner-owner.ensures
      c.begin_ballot.ensures c.self.invariant volatile stands
      c.in_err-new.field-0.0 c.in_err-new.was);
  refused = λ volatile stands.
      refused_or_started g.C.Cell.device _
      (record { book = c.self.inside.book; tables = c.begin_ballot.new.tables })
      c.args.slot.now refl _ _ c.owner-owner.ensures c.begin_ballot.ensures c.self.invariant
      volatile stands c.from_residual.result
      (λ fault. refused_as c.begin_ballot.result c.from_residual.result c.in_err-new.field-0.0 fault
      c.in_err-new.was
      (error_of c.from_residual.result c.in_err-new.field-0.0 c.from_residual.ensures.1));
})

pub invariant_of-self-2 : goal.invariant_of-self-2
invariant_of-self-2 g c =
    mid_order g.C.Cell.device _ _ c.args.slot.now refl _ _ c.owner-owner.ensures
    c.begin_ballot.ensures c.self.invariant

pub returns : goal.returns
returns g c = rw (← c.self.view_is) (record {
  answer = λ volatile stands.
      started g.C.Cell.device _
      (record { book = c.self.inside.book; tables = c.begin_ballot.new.tables })
      c.args.slot.now refl _ _ c.owner-owner.ensures c.begin_ballot.ensures c.self.invariant
      volatile stands c.commit_and_answer.new.self (c.in_ok-new.new, c.in_ok-new.answer)
      c.commit_and_answer.result c.in_ok-new.was
      c.commit_and_answer.ensures;
  refused = λ volatile stands.
      refused_or_started g.C.Cell.device _
      (record { book = c.self.inside.book; tables = c.begin_ballot.new.tables })
      c.args.slot.now refl _ _ c.owner-owner.ensures c.begin_ballot.ensures c.self.invariant
      volatile stands c.commit_and_answer.result
      (λ fault. not_refused c.begin_ballot.result c.commit_and_answer.result
      (c.in_ok-new.new, c.in_ok-new.answer) fault c.in_ok-new.was);
})
