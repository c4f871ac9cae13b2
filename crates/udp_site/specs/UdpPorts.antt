-- What is known of a port at a socket.
use Rattle.std.specs.Prelude.{◌≡◌, ℕ, Result, Ok, Err}
use Rattle.udp_site.specs.declared.pace.Pace.{Pace}
use Rattle.udp_site.specs.declared.port_fault.PortFault.{PortFault}
use Rattle.udp_site.specs.declared.recoveries.Recoveries.{Recoveries}
use Rattle.udp_site.specs.declared.turn.Turn.{Turn}
use Rattle.udp_site.specs.declared.udp_port.UdpPort.{UdpPort}
use Rattle.udp_site.specs.inner.Paced.{TurnIsPaced}

-- how often a call has failed
abbrev pub failures_of : {R : Type 0} → UdpPort R → ℕ
failures_of port = port.failures

-- its own address
abbrev pub own_of : {R : Type 0} → UdpPort R → ℕ
own_of port = port.own.address

-- how long it waits
abbrev pub pace_of : {R : Type 0} → UdpPort R → Pace
pace_of port = port.socket.pace

-- when it handed clients' Recovers on
abbrev pub recoveries_of : {R : Type 0} → UdpPort R → Recoveries
recoveries_of port = port.socket.recoveries

-- its pace, and what is early for it, are as before
abbrev pub IsAsBefore : {R : Type 0} → (old new : UdpPort R) → Type 0
IsAsBefore old new = (pace_of new ≡ pace_of old) × (recoveries_of new ≡ recoveries_of old)

-- a receive changes its pace as the definitions say, and hands no Recover on too early
abbrev pub IsPaced : {R : Type 0} → (old new : UdpPort R) → Result Turn PortFault → Type 0
IsPaced old new (Ok turn) =
    TurnIsPaced old.federation (own_of old) (pace_of old) (pace_of new) (recoveries_of old)
    (recoveries_of new) turn
IsPaced old new (Err fault) = IsAsBefore old new
