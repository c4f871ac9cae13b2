use Rattle.std.proofs.Common.{sym}
use Rattle.std.specs.Prelude.{slice_get}
use Rattle.std.proofs.lemmas.Result.{IfOk-weaker}
use Rattle.simulator.proofs.Delivered.{none_arrives, arrives_from}
use Rattle.simulator.proofs.federation.Federation.sent_as.Goals as goal

pub returns-in-Some : goal.returns-in-Some
returns-in-Some c =
    IfOk-weaker c.arrival_at.result _ _ (λ a says w is. arrives_from c.args.self.now w
    c.args.datagram c.in-Some.place.now a (slice_get c.deref.result.now c.in-Some.place.now) is
    c.in-Some.ensures (rw c.deref.ensures.value) says) c.arrival_at.ensures

pub returns-in-None : goal.returns-in-None
returns-in-None c w is = none_arrives c.args.self.now w c.args.datagram is (sym c.in-None.ensures)
