use Rattle.deposit_list.proofs.Asking.{SoFar}
use Rattle.deposit_list.proofs.rounds.ask_round.Given as goal

-- a round of the deposits so far
abbrev pub invariant-loop-entry : goal.invariant-loop-entry
invariant-loop-entry g l =
    SoFar l.asked l.fn.entries l.entries l.entry-index (g.P.Port.traffic l.fn.port)
    (g.P.Port.traffic l.port)
