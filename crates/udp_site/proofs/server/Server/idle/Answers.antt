use Rattle.std.proofs.Common.{[], ◌≡◌, rules, ◌∙◌}
use Rattle.udp_site.specs.inner.SlotRecords.{AreSettled}
use Rattle.udp_site.proofs.Waited.{not_yet, none_to_propose, no_slot, proposal_comes, no_memory}
use Rattle.udp_site.proofs.Search.{settled_on}
use Rattle.udp_site.proofs.Handed.{is_err}
use Rattle.udp_site.proofs.server.Server.idle.Given.{Over}
use Rattle.udp_site.proofs.server.Server.idle.Goals.{After-from, After-past_settled-self}
use Rattle.udp_site.proofs.server.Server.idle.Goals as goal

-- the site's number
from_is : (g : Over) (c : After-from g)
    → c.from.result ≡ c.args.self.now.site.now.book.owner.site
from_is g c = c.from.ensures ∙ (c.number-2.ensures.value ∙ c.number.ensures)

-- all deposits before the place that was found are settled
settled : (g : Over) (c : After-past_settled-self g)
    → AreSettled c.args.self.now.site.now.book.records c.args.self.now.progress.settled
    → AreSettled c.args.self.now.site.now.book.records c.past_settled-self.result
settled g c are = settled_on _ _ _ are c.past_settled-self.ensures.settled

pub returns-then-self-from-ne0-clause-turn : goal.returns-then-self-from-ne0-clause-turn
returns-then-self-from-ne0-clause-turn g c = record {
  count = search rules;
  settled = search rules;
  comes = λ old stands.
      not_yet g.C.Cell.device c.args.self.now.addresses.now stands
      (from_is g (goal.at.returns-then-self-from-ne0-clause-turn g c).After-from) _ _
      c.if-self-from-ne0.true;
}

pub returns-in_default-clause-turn : goal.returns-in_default-clause-turn
returns-in_default-clause-turn g c =
    let at = goal.at.returns-in_default-clause-turn g c in
    let past = settled g at.After-past_settled-self in
    record {
      count = search rules;
      settled = past;
      comes = λ old stands.
          none_to_propose g.C.Cell.device c.args.self.now.addresses.now stands
          (from_is g at.After-from) _ _ c.if-self-from-ne0.false
          (c.in_default.ensures.next (past stands.settled));
    }

pub returns-in_default-deposited-clause-turn : goal.returns-in_default-deposited-clause-turn
returns-in_default-deposited-clause-turn g c =
    let at = goal.at.returns-in_default-deposited-clause-turn g c in
    let past = settled g at.After-past_settled-self in
    record {
      count = search rules;
      settled = past;
      comes = λ old stands.
          no_slot g.C.Cell.device c.args.self.now.addresses.now stands
          (from_is g at.After-from) _ _ c.if-self-from-ne0.false _
          (c.in-Some.ensures.next (past stands.settled)) c.in_default-deposited.ensures;
    }

pub returns-in_err-slot-clause-turn : goal.returns-in_err-slot-clause-turn
returns-in_err-slot-clause-turn g c =
    let at = goal.at.returns-in_err-slot-clause-turn g c in
    let past = settled g at.After-past_settled-self in
    record {
      count = search rules;
      settled = past;
      comes = λ old stands.
          rw (is_err _ _ c.from_residual.ensures.1)
          (no_memory g.C.Cell.device c.args.self.now.addresses.now stands
          (from_is g at.After-from) c.if-self-from-ne0.false _
          (c.in-Some.ensures.next (past stands.settled)) c.in-Some-deposited.slot.now
          c.in-Some-deposited.ensures _ [] _);
    }

pub returns-clause-turn : goal.returns-clause-turn
returns-clause-turn g c =
    let at = goal.at.returns-clause-turn g c in
    let past = settled g at.After-past_settled-self in
    record {
      count = search rules;
      settled = λ are. rw c.propose.ensures.stays.progress (past are);
      comes = λ old stands.
          rw c.propose.ensures.stays.progress
          (proposal_comes g.C.Cell.device c.args.self.now.addresses.now stands
          (from_is g at.After-from) c.if-self-from-ne0.false _
          (c.in-Some.ensures.next (past stands.settled)) c.in_ok-slot.slot
          (rw c.in_ok-slot.ensures c.in-Some-deposited.ensures) _ _ _ _ _ _
          c.propose.ensures.comes);
    }
