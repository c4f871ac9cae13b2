use Rattle.std.proofs.Common.{◌≡◌, ◌-◌}
use Rattle.world_law.specs.Worlds.{World, pumped}
use Rattle.simulator.specs.Federations.{Represents}
use Rattle.simulator.proofs.federation.Federation.pump.Given as goal

-- the turns that are left lead from here to the end
abbrev pub invariant-turns : goal.invariant-turns
invariant-turns l =
    (w : World) → Represents l.fn.self w
    → (v : World) × Represents l.self v
    × (pumped v l.number (l.turns - l.counter) ≡ pumped w l.number l.turns)
