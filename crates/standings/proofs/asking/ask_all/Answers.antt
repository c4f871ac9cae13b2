use Rattle.standings.proofs.Rounds.{rounds, ok_then}
use Rattle.standings.proofs.asking.ask_all.Goals as goal

pub returns : goal.returns
returns g c =
    ok_then c.ask_round-3.result
    (rounds c.args.federation (g.P.Port.traffic c.args.port.now)
    (g.P.Port.traffic c.ask_round.new.port) (g.P.Port.traffic c.ask_round-2.new.port)
    (g.P.Port.traffic c.ask_round-3.new.port) c.args.sites.now c.ask_round.new.sites
    c.ask_round-2.new.sites c.ask_round-3.new.sites c.in_ok-ask_round.ensures
    c.in_ok-ask_round-2.ensures)
    c.ask_round-3.ensures
