use Rattle.std.proofs.Common.{◌≡◌}
use Rattle.catch_up.proofs.Versions.{SoFar}
use Rattle.catch_up.proofs.rounds.ask_round.Given as goal

-- a round of the versions so far, and no write has failed
abbrev pub invariant-loop-version : goal.invariant-loop-version
invariant-loop-version g l =
    (SoFar l.asked l.fn.versions l.versions l.version-index (g.P.Port.traffic l.fn.port)
    (g.P.Port.traffic l.port) (g.W.CountedWrite.contents l.fn.output) (g.W.CountedWrite.contents
    l.output) l.same)
    × (g.W.CountedWrite.failures l.output ≡ g.W.CountedWrite.failures l.fn.output)
