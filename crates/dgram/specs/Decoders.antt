-- Reading a message from left to right.
use Rattle.std.specs.Prelude.{ℕ, ◌-◌, ◌+◌, List, [], ◌∷◌, length, drop, get_or}
use Rattle.std.specs.Prelude.{Option, Some, None, nat_lt, nat_le}
use Rattle.std.specs.Prelude.{Bool, ◌==◌, ◌&&◌, bytes_eq, if◌then◌else◌}
use Rattle.std.specs.Int.{w16}
use Rattle.fed_types.specs.declared.bag_id.BagId.{BagId}
use Rattle.fed_types.specs.declared.vote.Vote.{Vote}
use Rattle.fed_types.specs.Ballots.{BallotNumber}
use Rattle.fields.specs.Decoders.{◌>>=◌, Decoder, both, meant, nothing_at, byte_at, number_at}
use Rattle.fields.specs.Decoders.{site_of, ballot_at, bag_at, vote_at, text_at, slot_at}
use Rattle.fields.specs.Checksums.{without_checksum}
use Rattle.dgram.specs.Numbers.{FRONT, NO_SITE, NO_PRIOR, PRIOR, LONGEST_PATH, NO_BAG}
use Rattle.dgram.specs.Numbers.{PREPARE, PROMISE, ACCEPT, ACCEPTED, REFUSED, ASK, KNOWN, DEPOSIT}
use Rattle.dgram.specs.Numbers.{QUERY, RECOVER, DEPOSIT_REPLY, QUERY_REPLY}
use Rattle.dgram.specs.Numbers.{REGISTERED, OTHER_DEPOSIT, OTHER_KNOWN, DEVICE, MEMORY, NEEDS_OPEN}
use Rattle.dgram.specs.Numbers.{BEFORE_TREE_FAULTS, GREATEST_TREE_FAULT}
use Rattle.dgram.specs.Numbers.{BEFORE_BAG_FAULTS, GREATEST_BAG_FAULT}
use Rattle.dgram.specs.Numbers.{IS_KNOWN, IS_PENDING, IS_NOTHING}
use Rattle.dgram.specs.declared.answers.DepositAnswer.{DepositAnswer}
use Rattle.dgram.specs.declared.answers.DepositAnswer.TheVariants as deposit
use Rattle.dgram.specs.declared.answers.QueryAnswer.{QueryAnswer}
use Rattle.dgram.specs.declared.answers.QueryAnswer.TheVariants as query
use Rattle.dgram.specs.declared.body.Body.{Body}
use Rattle.dgram.specs.declared.body.Body.TheVariants.{Prepare, Promise, Accept, Accepted, Refused}
use Rattle.dgram.specs.declared.body.Body.TheVariants.{Ask, Known, Deposit, Query, Recover}
use Rattle.dgram.specs.declared.body.Body.TheVariants.{DepositReply, QueryReply}
use Rattle.dgram.specs.declared.message.Message.{Message}

-- ---- the parts of bodies

-- after a flag: a prior vote where the flag says so
abbrev pub prior_after : ℕ → Decoder (Option Vote)
prior_after flag rest =
    if flag == NO_PRIOR then Some (None, rest) else
    (if flag == PRIOR then meant vote_at (λ v. Some (Some v)) rest else None)

unfoldable pub prior_at : Decoder (Option Vote)
prior_at bytes = byte_at bytes >>= λ b. prior_after b.0 b.1

-- a path, by its length in two bytes
unfoldable pub path_at : Decoder (List ℕ)
path_at bytes = number_at w16 bytes >>= λ n. text_at LONGEST_PATH n.0 n.1

-- whether the code is low and the number of a fault, 1 to the greatest
abbrev pub is_fault : ℕ → ℕ → ℕ → Bool
is_fault low greatest code = nat_lt low code && nat_le code (low + greatest)

-- an answer to a deposit that is a fault
abbrev pub fault_answer : ℕ → Option DepositAnswer
fault_answer code =
    if is_fault BEFORE_TREE_FAULTS GREATEST_TREE_FAULT code
    then Some (deposit.Tree (code - BEFORE_TREE_FAULTS)) else
    (if is_fault BEFORE_BAG_FAULTS GREATEST_BAG_FAULT code
    then Some (deposit.Bag (code - BEFORE_BAG_FAULTS)) else None)

-- an answer to a deposit that names no bag
abbrev pub unnamed_answer : ℕ → Option DepositAnswer
unnamed_answer code =
    if code == DEVICE then Some deposit.Device else
    (if code == MEMORY then Some deposit.Memory else
    (if code == NEEDS_OPEN then Some deposit.NeedsOpen else fault_answer code))

-- an answer to a deposit; where it names no bag, zeros are in the bag's place
abbrev pub deposit_answer : ℕ → BagId → Option DepositAnswer
deposit_answer code bag =
    if code == REGISTERED then Some (deposit.Registered bag) else
    (if code == OTHER_DEPOSIT then Some (deposit.OtherDeposit bag) else
    (if code == OTHER_KNOWN then Some (deposit.OtherKnown bag) else
    (if bytes_eq bag.0 NO_BAG then unnamed_answer code else None)))

-- the same of an answer to a query
abbrev pub unnamed_query : ℕ → Option QueryAnswer
unnamed_query code =
    if code == IS_NOTHING then Some query.Nothing else
    (if code == NEEDS_OPEN then Some query.NeedsOpen else None)

abbrev pub query_answer : ℕ → BagId → Option QueryAnswer
query_answer code bag =
    if code == IS_KNOWN then Some (query.Known bag) else
    (if code == IS_PENDING then Some (query.Pending bag) else
    (if bytes_eq bag.0 NO_BAG then unnamed_query code else None))

-- ---- bodies: each by the sender's byte, which comes before the slot, and its own bytes

-- no site sends
abbrev pub from_none : {A : Type 0} → ℕ → A → Option A
from_none from x = if from == NO_SITE then Some x else None

-- the site of the ballot sends
abbrev pub from_ballot : {A : Type 0} → ℕ → BallotNumber → A → Option A
from_ballot from b x = if b.site == from then Some x else None

-- a site sends
abbrev pub from_site : {A : Type 0} → ℕ → (ℕ → A) → Option A
from_site from body = site_of from >>= λ s. Some (body s)

unfoldable pub prepare_at : ℕ → Decoder Body
prepare_at from bytes = meant ballot_at (λ b. from_ballot from b (Prepare b)) bytes

unfoldable pub promise_at : ℕ → Decoder Body
promise_at from bytes =
    meant (both ballot_at prior_at) (λ p. from_site from (λ s. Promise s p.0 p.1)) bytes

unfoldable pub accept_at : ℕ → Decoder Body
accept_at from bytes = meant vote_at (λ v. from_ballot from v.ballot (Accept v)) bytes

unfoldable pub accepted_at : ℕ → Decoder Body
accepted_at from bytes = meant vote_at (λ v. from_site from (λ s. Accepted s v)) bytes

unfoldable pub refused_at : ℕ → Decoder Body
refused_at from bytes =
    meant (both ballot_at ballot_at) (λ p. from_site from (λ s. Refused s p.0 p.1)) bytes

unfoldable pub ask_at : ℕ → Decoder Body
ask_at from bytes = meant nothing_at (λ _. from_site from (λ s. Ask s)) bytes

unfoldable pub known_at : ℕ → Decoder Body
known_at from bytes = meant bag_at (λ b. from_site from (λ s. Known s b)) bytes

unfoldable pub deposit_at : ℕ → Decoder Body
deposit_at from bytes = meant path_at (λ p. from_none from (Deposit p)) bytes

unfoldable pub query_at : ℕ → Decoder Body
query_at from bytes = meant nothing_at (λ _. from_none from Query) bytes

unfoldable pub recover_at : ℕ → Decoder Body
recover_at from bytes = meant nothing_at (λ _. from_none from Recover) bytes

unfoldable pub deposit_reply_at : ℕ → Decoder Body
deposit_reply_at from bytes =
    meant (both byte_at bag_at)
    (λ p. site_of from >>= λ s. deposit_answer p.0 p.1 >>= λ a. Some (DepositReply s a)) bytes

unfoldable pub query_reply_at : ℕ → Decoder Body
query_reply_at from bytes =
    meant (both byte_at bag_at)
    (λ p. site_of from >>= λ s. query_answer p.0 p.1 >>= λ a. Some (QueryReply s a)) bytes

-- ---- messages

-- a kind's byte, and how a body of this kind is read
pub record KindDecoder : Type 0 where
  pub kind : ℕ
  pub body : ℕ → Decoder Body

abbrev pub kinds : List KindDecoder
kinds =
    record { kind = PREPARE; body = prepare_at }
    ∷ record { kind = PROMISE; body = promise_at }
    ∷ record { kind = ACCEPT; body = accept_at }
    ∷ record { kind = ACCEPTED; body = accepted_at }
    ∷ record { kind = REFUSED; body = refused_at }
    ∷ record { kind = ASK; body = ask_at }
    ∷ record { kind = KNOWN; body = known_at }
    ∷ record { kind = DEPOSIT; body = deposit_at }
    ∷ record { kind = QUERY; body = query_at }
    ∷ record { kind = RECOVER; body = recover_at }
    ∷ record { kind = DEPOSIT_REPLY; body = deposit_reply_at }
    ∷ record { kind = QUERY_REPLY; body = query_reply_at }
    ∷ []

-- a body, by the kind among these that has this byte
unfoldable pub body_of : List KindDecoder → ℕ → ℕ → Decoder Body
body_of [] kind from bytes = None
body_of (k ∷ ks) kind from bytes =
    if kind == k.kind then k.body from bytes else body_of ks kind from bytes

-- the body of the kind that has this byte
unfoldable pub body_at : ℕ → ℕ → Decoder Body
body_at kind from bytes = body_of kinds kind from bytes

-- nothing follows
abbrev pub ended : {A : Type 0} → A × List ℕ → Option A
ended p = if length p.1 == 0 then Some p.0 else None

-- a value, and nothing after it
abbrev pub alone : {A : Type 0} → Decoder A → List ℕ → Option A
alone field bytes = field bytes >>= ended

-- the body of a kind, and nothing after it
abbrev pub last_body_at : ℕ → ℕ → List ℕ → Option Body
last_body_at kind from bytes = alone (body_at kind from) bytes

-- the message of the kind that has this byte, from its sender's byte on
unfoldable pub message_at : ℕ → List ℕ → Option Message
message_at kind bytes = do
  from ← byte_at bytes
  slot ← slot_at from.1
  body ← last_body_at kind from.0 slot.1
  Some (record { slot = slot.0; body = body })

-- the message of the bytes before a datagram's checksum; the fourth is the kind's
abbrev pub whole_at : List ℕ → Option Message
whole_at bytes =
    if nat_lt (length bytes) FRONT then None else message_at (get_or bytes 3 0) (drop FRONT bytes)

-- the message of a datagram, if its checksum is right
unfoldable pub datagram_at : List ℕ → Option Message
datagram_at bytes = without_checksum bytes >>= whole_at
