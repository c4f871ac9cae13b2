-- What a port receives, and what is handed to it.
use Rattle.std.specs.Prelude.{◌≡◌, ⊤, ℕ, List, [], ◌∷◌, ◌++◌, map, Option, Some, None, Result, Ok}
use Rattle.std.specs.Prelude.{Err}
use Rattle.udp_site.specs.declared.port_fault.PortFault.{PortFault}
use Rattle.udp_site.specs.declared.port_fault.PortFault.TheVariants as faults
use Rattle.udp_site.specs.declared.turn.Turn.{Turn}
use Rattle.udp_site.specs.declared.turn.Turn.TheVariants as turns

-- a datagram for an address, which is a number (Rattle.addresses.specs.Addresses), and its bytes
abbrev pub Post : Type 0
Post = ℕ × List ℕ

-- what one turn of waiting brings: nothing, or a datagram from an address
pub data Taken : Type 0 where
  Nothing : Taken
  From : (address : ℕ) → List ℕ → Taken

abbrev pub taken : Turn → Taken
taken turns.Idle = Nothing
taken (turns.Got from bytes) = From from bytes.items

-- a port took this in, a receive at it failed, or this was handed to it
pub data Move : Type 0 where
  Took : Taken → Move
  Failed : Move
  Handed : Post → Move

-- traffic, where it is known, grows by these moves
abbrev pub Grows : Option (List Move) → Option (List Move) → List Move → Type 0
Grows None new moves = ⊤
Grows (Some before) new moves = new ≡ Some (before ++ moves)

-- a turn is waited for: what it brings is taken in, or the receive fails; where memory ran out
-- neither
abbrev pub IsReceived :
    Option (List Move) → Option (List Move) → Result Turn PortFault → Type 0
IsReceived old new (Ok turn) = Grows old new (Took (taken turn) ∷ [])
IsReceived old new (Err faults.Device) = Grows old new (Failed ∷ [])
IsReceived old new (Err faults.Memory) = Grows old new []

-- what is there is taken in, or nothing is
abbrev pub IsTakenIn : Option (List Move) → Option (List Move) → Option Turn → Type 0
IsTakenIn old new None = Grows old new []
IsTakenIn old new (Some turn) = Grows old new (Took (taken turn) ∷ [])

-- these datagrams are handed out, in order
unfoldable pub all_handed : List Post → List Move
all_handed posts = map Handed posts

-- a datagram is handed to a port, which refuses none but for want of memory: one that its device
-- loses was handed out
abbrev pub IsHanded :
    Option (List Move) → Option (List Move) → Post → Result (Unit {0}) PortFault → Type 0
IsHanded old new post (Err faults.Memory) = Grows old new []
IsHanded old new post result = Grows old new (Handed post ∷ [])
