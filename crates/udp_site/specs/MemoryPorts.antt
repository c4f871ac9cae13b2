-- What is known of a port in memory: all.
use Rattle.std.specs.Prelude.{◌≡◌, ⊤, ℕ, Bool, true, false, List, [], ◌∷◌, ◌++◌, map}
use Rattle.std.specs.Prelude.{Option, Some, None, Result, Ok, Err, OnOk, OnErr}
use Rattle.udp_site.specs.declared.port_fault.PortFault.{PortFault}
use Rattle.udp_site.specs.declared.port_fault.PortFault.TheVariants as faults
use Rattle.udp_site.specs.declared.turn.Turn.{Turn}
use Rattle.udp_site.specs.declared.memory_port.Arrival.{Arrival}
use Rattle.udp_site.specs.declared.memory_port.Arrival.TheVariants as arrivals
use Rattle.udp_site.specs.declared.memory_port.MemoryPort.{MemoryPort}
use Rattle.udp_site.specs.declared.port_move.PortMove.{PortMove}
use Rattle.udp_site.specs.declared.port_move.PortMove.TheVariants as moves
use Rattle.udp_site.specs.Traffic.{Taken, Nothing, From, Move, Took, Failed, Handed, taken}

abbrev pub move_of : PortMove → Move
move_of (moves.Took turn) = Took (taken turn)
move_of moves.Failed = Failed
move_of (moves.Handed port bytes) = Handed (port, bytes.items)

-- what a turn is to bring; none, where the receive fails
abbrev pub brings : Arrival → Option Taken
brings arrivals.Idle = Some Nothing
brings (arrivals.Got port bytes) = Some (From port bytes.items)
brings arrivals.Failure = None

-- what is still to come, in order
abbrev pub coming_of : MemoryPort → List (Option Taken)
coming_of port = map brings port.arrivals.items

-- its sends fail
abbrev pub fails_of : MemoryPort → Bool
fails_of port = port.sends_fail

-- all that it took in and was handed, and which receives failed
abbrev pub traffic_of : MemoryPort → List Move
traffic_of port = map move_of port.moves.items

-- how often a call has failed
abbrev pub failures_of : MemoryPort → ℕ
failures_of port = port.failures

-- what the next turn brings: nothing, where no more is to come
abbrev pub next_of : List (Option Taken) → Option Taken
next_of [] = Some Nothing
next_of (first ∷ later) = first

-- what is to come after the next turn
abbrev pub rest_of : List (Option Taken) → List (Option Taken)
rest_of [] = []
rest_of (first ∷ later) = later

-- What the next turn was to bring came, or its receive failed as it was to; where memory ran out it
-- is still to come.
abbrev pub Comes : (old new : List (Option Taken)) → Result Turn PortFault → Type 0
Comes old new (Ok turn) = (next_of old ≡ Some (taken turn)) × (new ≡ rest_of old)
Comes old new (Err faults.Device) = (next_of old ≡ None) × (new ≡ rest_of old)
Comes old new (Err faults.Memory) = new ≡ old

-- a send fails exactly where it was to
abbrev pub FailsAs : (fails : Bool) → Result (Unit {0}) PortFault → Type 0
FailsAs fails (Ok sent) = fails ≡ false
FailsAs fails (Err faults.Device) = fails ≡ true
FailsAs fails (Err faults.Memory) = ⊤

-- only what is to come may differ
pub record IsSameButComing (old new : MemoryPort) : Type 0 where
  pub fails : fails_of new ≡ fails_of old
  pub traffic : traffic_of new ≡ traffic_of old
  pub failures : failures_of new ≡ failures_of old

-- this comes after all that was to come; where there was no memory, nothing is changed
pub record WillBring
    {E : Type 0} (old new : MemoryPort) (arrival : Option Taken) (result : Result (Unit {0}) E)
    : Type 0 where
  pub added : OnOk result (coming_of new ≡ coming_of old ++ arrival ∷ [])
  pub same : OnErr result (coming_of new ≡ coming_of old)
  pub others : IsSameButComing old new
