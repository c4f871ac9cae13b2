use Rattle.std.proofs.Common.{take}
use Rattle.world_law.specs.Worlds.{new_world, run_from}
use Rattle.simulator.specs.Federations.{Represents}
use Rattle.simulator.proofs.run_schedule.run.Given as goal

-- the federation stands for the world after the lines so far
abbrev pub invariant-lines : goal.invariant-lines
invariant-lines l =
    Represents l.federation
    (run_from l.first (new_world l.schedule.members) (take l.index l.schedule.lines))
