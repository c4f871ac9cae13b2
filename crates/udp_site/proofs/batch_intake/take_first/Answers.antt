use Rattle.std.proofs.Common.{rules, ◌≡◌, None}
use Rattle.udp_site.proofs.Intake.{received_first}
use Rattle.udp_site.proofs.batch_intake.take_first.Goals as goal

pub returns-in-None-clause-first : goal.returns-in-None-clause-first
returns-in-None-clause-first g c =
    let none : c.args.carried.now ≡ None = search rules in
    received_first (g.P.Port.traffic c.args.port.now) (g.P.Port.traffic c.receive.new.port)
    c.args.carried.now c.receive.result none c.receive.ensures.received
