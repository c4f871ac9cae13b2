-- What a datagram is a sign of.
use Rattle.std.specs.Prelude.{ℕ, ◌+◌, ◌==◌, ◌&&◌, ◌||◌, if◌then◌else◌, Bool, List, get_or}
use Rattle.std.specs.Prelude.{Option, Some, None}
use Rattle.dgram.specs.Encoding.{body_from}
use Rattle.dgram.specs.Numbers.{PREPARE, ACCEPT, ACCEPTED, DEPOSIT, QUERY, RECOVER, DEPOSIT_REPLY}
use Rattle.dgram.specs.Numbers.{REGISTERED, QUERY_REPLY, IS_PENDING}
use Rattle.dgram.specs.declared.body.Body.{Body}
use Rattle.dgram.specs.declared.body.Body.TheVariants as bodies
use Rattle.dgram.specs.declared.message.Message.{Message}
use Rattle.udp_site.specs.declared.movement.Sign.{Sign}
use Rattle.udp_site.specs.declared.movement.Sign.TheVariants.{Still, Moves, Decides}
use Rattle.udp_site.specs.declared.movement.Signal.{Signal}

-- A proposal got its promises; a vote, or a known bag; or nothing moves. What a client says moves
-- nothing, since the site may refuse it: see the replies below, which say what it did. That a site
-- recovers for a client shows in the Prepare that it says to itself.
-- Promises are none: two of five sites that are up promise each other at each proposal, and would
-- keep their first wait, and write records, as long as there is no majority. A vote of another site
-- is taken for the end of a proposal, though it may be the first of several that are needed: the
-- next idle turn may then outbid it, which costs a round.
abbrev pub sign_by : Body → Sign
sign_by (bodies.Accept vote) = Moves
sign_by (bodies.Accepted from vote) = Decides
sign_by (bodies.Known from bag) = Decides
sign_by body = Still

-- what a site says to itself: only its vote for a proposal of its own is a sign
abbrev pub own_sign_by : Body → Sign
own_sign_by (bodies.Accepted from vote) = if vote.ballot.site == from then Decides else Still
own_sign_by body = Still

-- what another says is a sign, and the site that says it is heard, if a site does
abbrev pub signal_by : Body → Signal
signal_by body = record { sign = sign_by body; sender = body_from body }

-- what a site says to itself; nobody else is heard
abbrev pub own_signal_by : Body → Signal
own_signal_by body = record { sign = own_sign_by body; sender = None }

-- what came to a port from one; nothing is learned from what is no message of the federation
abbrev pub signal_at : (own from : ℕ) → Option Message → Signal
signal_at own from None = record { sign = Still; sender = None }
signal_at own from (Some message) =
    if own == from then own_signal_by message.body else signal_by message.body

-- the place of the kind's byte in a datagram: after the magic number and the layout
abbrev pub KIND_PLACE : ℕ
KIND_PLACE = 3

-- it, or 0 where there is none
abbrev pub kind_byte : List ℕ → ℕ
kind_byte bytes = get_or bytes KIND_PLACE 0

-- a datagram is a Prepare, an Accept, a vote, or a client's request to deposit a folder or to
-- recover, by its kind
abbrev pub is_prepare : List ℕ → Bool
is_prepare bytes = kind_byte bytes == PREPARE

abbrev pub is_accept : List ℕ → Bool
is_accept bytes = kind_byte bytes == ACCEPT

abbrev pub is_vote : List ℕ → Bool
is_vote bytes = kind_byte bytes == ACCEPTED

abbrev pub is_deposit : List ℕ → Bool
is_deposit bytes = kind_byte bytes == DEPOSIT

abbrev pub is_recover : List ℕ → Bool
is_recover bytes = kind_byte bytes == RECOVER

-- it is one of the three requests that a client has
abbrev pub is_request : List ℕ → Bool
is_request bytes = is_deposit bytes || (is_recover bytes || kind_byte bytes == QUERY)

-- the place of the byte that says how long the object's name is; before it is the sender's
abbrev pub LENGTH_PLACE : ℕ
LENGTH_PLACE = 13

-- the first byte of the body: after the name and four bytes of the version
abbrev pub body_byte : List ℕ → ℕ
body_byte bytes = get_or bytes (LENGTH_PLACE + 5 + get_or bytes LENGTH_PLACE 0) 0

-- it is the reply to a deposit, by its kind, and says that the bag is registered
abbrev pub is_registered : List ℕ → Bool
is_registered bytes = kind_byte bytes == DEPOSIT_REPLY && body_byte bytes == REGISTERED

-- it is the reply to a query, by its kind, and says that the bag is pending
abbrev pub is_pending : List ℕ → Bool
is_pending bytes = kind_byte bytes == QUERY_REPLY && body_byte bytes == IS_PENDING
