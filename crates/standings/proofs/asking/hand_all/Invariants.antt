use Rattle.std.proofs.Common.{take}
use Rattle.udp_site.specs.Traffic.{Grows}
use Rattle.standings.specs.Rounds.{asked}
use Rattle.standings.proofs.asking.hand_all.Given as goal

-- those so far that haven't answered are asked
abbrev pub invariant-loop-polled : goal.invariant-loop-polled
invariant-loop-polled g l =
    Grows (g.P.Port.traffic l.fn.port) (g.P.Port.traffic l.port)
    (asked l.federation (take l.polled-index l.sites))
