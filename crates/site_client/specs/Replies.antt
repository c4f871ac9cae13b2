-- What a client asks a site, and which of the datagrams that come are the site's reply.
use Rattle.std.specs.Prelude.{ℕ, Bool, true, false, ◌==◌, ◌&&◌, if◌then◌else◌, List, [], ◌∷◌}
use Rattle.std.specs.Prelude.{Option, Some, None}
use Rattle.std.specs.Option.{option_or}
use Rattle.fed_types.specs.Slots.{SlotName, same_slot}
use Rattle.dgram.specs.declared.body.Body.{Body}
use Rattle.dgram.specs.declared.body.Body.TheVariants.{Deposit, Query, DepositReply, QueryReply}
use Rattle.dgram.specs.declared.message.Message.{Message}
use Rattle.dgram.specs.Decoded.{message_of}
use Rattle.dgram.specs.Encoding.{datagram_of}
use Rattle.udp_site.specs.Traffic.{Nothing, From, Move, Took, Failed, Handed}
use Rattle.site_client.specs.declared.request.Request.{Request}
use Rattle.site_client.specs.declared.reply.ClientReply.{ClientReply}
use Rattle.site_client.specs.declared.reply.ClientReply.TheVariants.{ToDeposit, ToQuery}
use Rattle.site_client.specs.declared.reply.Wanted.{Wanted}
use Rattle.site_client.specs.declared.reply.Wanted.TheVariants as wanted

-- ---- what is asked

-- whom a client asks, a site of a federation, at its port, and for which slot; the addresses of all
-- sites, that of site 1 first; and how many questions about the slot came before this one
pub record Question : Type 0 where
  pub federation : ℕ
  pub to : ℕ
  pub target : ℕ
  pub slot : SlotName
  pub addresses : List ℕ
  pub asked : ℕ

abbrev pub question_of : Request → Question
question_of request = record {
  federation = request.federation;
  to = request.to;
  target = request.target;
  slot = request.slot.now;
  addresses = request.addresses.now;
  asked = request.asked;
}

-- the folder of a path is deposited, or the slot's bag is asked for
abbrev pub body_of : Option (List ℕ) → Body
body_of (Some path) = Deposit path
body_of None = Query

-- the datagram that says so
unfoldable pub datagram_to : Question → Option (List ℕ) → List ℕ
datagram_to q path = datagram_of q.federation (record { slot = q.slot; body = body_of path })

-- ---- what is replied

-- the replies to deposits are wanted, and those to queries
abbrev pub wants_deposits : Wanted → Bool
wants_deposits wanted.ToDeposit = true
wants_deposits wanted.ToQuery = false
wants_deposits wanted.Any = true

abbrev pub wants_queries : Wanted → Bool
wants_queries wanted.ToDeposit = false
wants_queries wanted.ToQuery = true
wants_queries wanted.Any = true

-- the reply of this site in what a message says, if it is a wanted one
abbrev pub reply_by : (to : ℕ) → Wanted → Body → Option ClientReply
reply_by to kind (DepositReply from answer) =
    if from == to && wants_deposits kind then Some (ToDeposit answer) else None
reply_by to kind (QueryReply from answer) =
    if from == to && wants_queries kind then Some (ToQuery answer) else None
reply_by to kind body = None

-- the same in a message, if there is one, and it is about the slot
abbrev pub reply_of : Question → Wanted → Option Message → Option ClientReply
reply_of q kind None = None
reply_of q kind (Some m) = if same_slot m.slot q.slot then reply_by q.to kind m.body else None

-- the same in the bytes of a datagram
abbrev pub reply_in : Question → Wanted → List ℕ → Option ClientReply
reply_in q kind bytes = reply_of q kind (message_of q.federation bytes)

-- the same in a datagram that comes from this port: one from another than was asked has none
abbrev pub reply_from : Question → Wanted → (port : ℕ) → List ℕ → Option ClientReply
reply_from q kind port bytes = if port == q.target then reply_in q kind bytes else None

-- the same in what the client's port does
abbrev pub reply_at : Question → Wanted → Move → Option ClientReply
reply_at q kind (Took (From port bytes)) = reply_from q kind port bytes
reply_at q kind (Took Nothing) = None
reply_at q kind Failed = None
reply_at q kind (Handed post) = None

-- the first that a port takes in
abbrev pub first_reply : Question → Wanted → List Move → Option ClientReply
first_reply q kind [] = None
first_reply q kind (move ∷ moves) = option_or (reply_at q kind move) (first_reply q kind moves)
