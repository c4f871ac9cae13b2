-- What the next turn at a port in memory brings.
use Rattle.std.specs.Prelude.{◌≡◌, List, Option, Some, None}
use Rattle.udp_site.specs.declared.turn.Turn.{Turn}
use Rattle.udp_site.specs.MemoryPorts.{next_of}
use Rattle.udp_site.specs.Traffic.{Taken, taken}

-- both of these are what the next turn brings; there are none, where the receive fails
abbrev pub IsNext : List (Option Taken) → Option (Turn × Turn) → Type 0
IsNext coming None = next_of coming ≡ None
IsNext coming (Some (turn, same)) =
    (next_of coming ≡ Some (taken turn)) × (next_of coming ≡ Some (taken same))
