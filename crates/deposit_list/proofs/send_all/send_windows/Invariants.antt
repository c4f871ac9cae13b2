use Rattle.std.proofs.Common.{◌≡◌, length}
use Rattle.deposit_list.proofs.Windows.{AreSentTo}
use Rattle.deposit_list.proofs.send_all.send_windows.Given as goal

-- the windows so far, and no write has failed
abbrev pub invariant-loop-rest : goal.invariant-loop-rest
invariant-loop-rest g l =
    (AreSentTo l.aim l.asked l.deposits l.rest l.reached (g.T.Timer.beats l.fn.timer)
    (g.T.Timer.beats l.timer) (g.P.Port.traffic l.fn.port) (g.P.Port.traffic l.port)
    (g.W.CountedWrite.contents l.fn.output) (g.W.CountedWrite.contents l.output))
    × (g.W.CountedWrite.failures l.output ≡ g.W.CountedWrite.failures l.fn.output)

abbrev pub decreases-loop-rest : goal.decreases-loop-rest
decreases-loop-rest g l = length l.rest
