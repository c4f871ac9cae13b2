-- What a datagram asks of a site.
use Rattle.std.specs.Prelude.{ℕ, List, Option, Some, None}
use Rattle.fed_types.specs.Slots.{SlotName}
use Rattle.dgram.specs.declared.body.Body.{Body}
use Rattle.dgram.specs.declared.body.Body.TheVariants.{Deposit, Query, Recover, DepositReply}
use Rattle.dgram.specs.declared.body.Body.TheVariants.{QueryReply}
use Rattle.dgram.specs.declared.message.Message.{Message}
use Rattle.dgram.specs.Decoded.{message_of}
use Rattle.udp_site.specs.Traffic.{Taken, Nothing, From}

-- Nothing came; a site says something to this one; a client, at an address, has the folder of a
-- path to deposit, or asks for a slot's bag; a client has the site recover a slot, wherever it is,
-- since there is no reply; or what came is none of these.
pub data Request : Type 0 where
  Waits : Request
  Says : Message → Request
  Deposits : (client : ℕ) → SlotName → (path : List ℕ) → Request
  Queries : (client : ℕ) → SlotName → Request
  Recovers : SlotName → Request
  Noise : Request

abbrev pub request_by : (client : ℕ) → Message → Body → Request
request_by client m (Deposit path) = Deposits client m.slot path
request_by client m Query = Queries client m.slot
request_by client m Recover = Recovers m.slot
request_by client m (DepositReply from answer) = Noise
request_by client m (QueryReply from answer) = Noise
request_by client m body = Says m

abbrev pub request_in : (client : ℕ) → Option Message → Request
request_in client None = Noise
request_in client (Some m) = request_by client m m.body

abbrev pub request_of : (federation : ℕ) → Taken → Request
request_of federation Nothing = Waits
request_of federation (From client bytes) =
    request_in client (message_of federation bytes)
