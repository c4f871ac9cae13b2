use Rattle.deposit_list.proofs.Asking.{RoundsSoFar}
use Rattle.deposit_list.proofs.rounds.ask_rounds.Given as goal

-- the rounds so far, and the pauses between them
abbrev pub invariant-loop-rounds : goal.invariant-loop-rounds
invariant-loop-rounds g l =
    RoundsSoFar l.deadline l.asked l.rounds l.fn.entries l.entries (g.T.Timer.beats l.fn.timer)
    (g.T.Timer.beats l.timer) (g.P.Port.traffic l.fn.port) (g.P.Port.traffic l.port)
