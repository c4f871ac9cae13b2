use Rattle.standings.proofs.Rounds.{round, ok_then}
use Rattle.standings.proofs.asking.ask_round.Goals as goal

pub returns : goal.returns
returns g c =
    ok_then c.listen.result
    (round c.args.federation (g.P.Port.traffic c.args.port.now)
    (g.P.Port.traffic c.hand_all.new.port) (g.P.Port.traffic c.listen.new.port) c.args.sites.now
    c.listen.new.sites c.in_ok-hand_all.ensures)
    c.listen.ensures
