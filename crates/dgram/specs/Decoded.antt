-- What decoding answers.
use Rattle.std.specs.Prelude.{◌≡◌, ◌≢◌, ℕ, ◌≤◌, ◌<◌, ◌⊎◌, List, ◌∷◌, [], ◌++◌, length, take, drop}
use Rattle.std.specs.Prelude.{get_or, bytes_eq, if◌then◌else◌}
use Rattle.std.specs.Prelude.{Result, Ok, Err, Option, Some, None, IsSome}
use Rattle.std.specs.Int.{w64, to_be_bytes}
use Rattle.dgram.specs.Numbers.{MAGIC, LAYOUT, FRONT}
use Rattle.dgram.specs.declared.fault.DgramFault.{DgramFault}
use Rattle.dgram.specs.declared.fault.DgramFault.TheVariants as faults
use Rattle.dgram.specs.declared.message.Message.{Message}
use Rattle.dgram.specs.Messages.{IsMessage}
use Rattle.dgram.specs.Encoding.{front_bytes, datagram_of}
use Rattle.dgram.specs.Decoders.{datagram_at}

-- the bytes begin with magic and layout, and name this federation after the kind
abbrev pub IsOurs : ℕ → List ℕ → Type 0
IsOurs federation bytes =
    (take 3 bytes ≡ MAGIC ++ LAYOUT ∷ []) × (take 8 (drop 4 bytes) ≡ to_be_bytes w64 federation)

-- long enough to know, they are another layout's or federation's
abbrev pub IsAnothers : ℕ → List ℕ → Type 0
IsAnothers federation bytes = (FRONT ≤ length bytes) × (IsOurs federation bytes → ⊥)

-- the bytes are this message's datagram
abbrev pub IsDatagramOf : ℕ → List ℕ → Message → Type 0
IsDatagramOf federation bytes m = IsMessage m × (bytes ≡ datagram_of federation m)

-- the bytes are some message's datagram
abbrev pub IsDatagram : ℕ → List ℕ → Type 0
IsDatagram federation bytes = (m : Message) × IsDatagramOf federation bytes m

-- the bytes are no message's datagram
abbrev pub IsNoDatagram : ℕ → List ℕ → Type 0
IsNoDatagram federation bytes = (m : Message) → IsMessage m → bytes ≢ datagram_of federation m

-- the bytes are too short to know, or begin as they have to and are no message's datagram
abbrev pub IsMalformed : ℕ → List ℕ → Type 0
IsMalformed federation bytes =
    (length bytes < FRONT) ⊎ (IsOurs federation bytes × IsNoDatagram federation bytes)

-- The message whose datagram the bytes are, if they are one: where they begin as they have to, it
-- is what reading them gives.
unfoldable pub message_of : ℕ → List ℕ → Option Message
message_of federation bytes =
    if bytes_eq (take FRONT bytes) (front_bytes federation (get_or bytes 3 0))
    then datagram_at bytes else None

-- decoding answers the message, if there is one; a fault where there is none; or, where there is
-- one, that memory ran out
abbrev pub Decodes : Result Message DgramFault → Option Message → Type 0
Decodes (Ok m) message = message ≡ Some m
Decodes (Err faults.NotOurs) message = message ≡ None
Decodes (Err faults.Malformed) message = message ≡ None
Decodes (Err faults.Memory) message = IsSome message
