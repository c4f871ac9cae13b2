use Rattle.std.proofs.Common.{refl}
use Rattle.std.proofs.lemmas.Result.{on_ok_weaker}
use Rattle.simulator.proofs.Delivered.{deliver_some, deliver_none}
use Rattle.simulator.proofs.federation.Federation.deliver.Goals as goal

pub returns-in-Some : goal.returns-in-Some
returns-in-Some c =
    on_ok_weaker c.arrive.result (λ arrived w is. deliver_some c.args.self.now _ _ w c.args.number
    c.args.datagram c.args.fate c.in_ok-to.field-0 is (record {
      same = refl;
      sent = c.in_ok-name.ensures.sent;
      named = c.in_ok-name.ensures.ok;
    }) c.in_ok-to.ensures c.in-Some.field-0 c.in-Some.field-0.to c.deref.result.now c.in-Some.is
    refl c.deref.ensures.value arrived) c.arrive.ensures

pub returns-in-None : goal.returns-in-None
returns-in-None c =
    on_ok_weaker c.skip.result (λ skips w is. deliver_none c.args.self.now _ _ w c.args.number
    c.args.datagram c.args.fate c.in_ok-to.field-0 is (record {
      same = refl;
      sent = c.in_ok-name.ensures.sent;
      named = c.in_ok-name.ensures.ok;
    }) c.in_ok-to.ensures c.in-None.is skips) c.skip.ensures
