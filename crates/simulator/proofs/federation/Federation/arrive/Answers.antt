use Rattle.std.proofs.Common.{sym}
use Rattle.std.proofs.lemmas.Result.{on_ok_weaker}
use Rattle.simulator.proofs.Delivered.{arrived, nobody}
use Rattle.simulator.proofs.federation.Federation.arrive.Goals as goal

pub returns-in-Some : goal.returns-in-Some
returns-in-Some c =
    on_ok_weaker c.call.result (λ called w k d is at of. arrived c.args.self.now _ w c.args.number k
    c.args.to c.args.bytes.now c.args.fate d is at of c.in-Some.place (sym c.in-Some.ensures)
    (λ within. called w is)) c.call.ensures

pub returns-in-None : goal.returns-in-None
returns-in-None c w k d is at of =
    nobody c.args.self.now c.args.self.now w c.args.number k c.args.to c.args.bytes.now c.args.fate
    d is at of (sym c.in-None.ensures)
