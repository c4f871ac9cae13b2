use Rattle.std.proofs.Common.{◌≡◌}
use Rattle.catch_up.proofs.Paces.{ArePausesOf}
use Rattle.catch_up.proofs.Questions.{RoundsSoFar}
use Rattle.catch_up.proofs.rounds.ask_rounds.Given as goal

-- the rounds so far, the pauses between them, and no write has failed
abbrev pub invariant-loop-count : goal.invariant-loop-count
invariant-loop-count g l =
    (RoundsSoFar l.asked l.round l.fn.versions l.versions (g.P.Port.traffic l.fn.port)
    (g.P.Port.traffic l.port) (g.W.CountedWrite.contents l.fn.output) (g.W.CountedWrite.contents
    l.output) l.same
    l.count)
    × ArePausesOf l.seconds l.count (g.T.Timer.beats l.fn.timer) (g.T.Timer.beats l.timer)
    × (g.W.CountedWrite.failures l.output ≡ g.W.CountedWrite.failures l.fn.output)
