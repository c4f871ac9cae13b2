-- How many bytes a datagram has.
use Rattle.std.proofs.Common.{◌≡◌, ℕ, ◌+◌, ◌≤◌, ◌∷◌, ◌++◌, length, Option, Some, None, arith}
use Rattle.std.proofs.Common.{length-append}
use Rattle.std.specs.Int.{w16, w32, to_be_bytes}
use Rattle.fed_types.specs.Slots.{SlotName}
use Rattle.fed_types.specs.Values.{IsSlot, IsVote}
use Rattle.fields.specs.Encoding.{ballot_bytes, bag_bytes, vote_bytes, slot_bytes}
use Rattle.dgram.specs.Numbers.{LONGEST_DATAGRAM, LONGEST_PATH}
use Rattle.fed_types.specs.declared.vote.Vote.{Vote}
use Rattle.dgram.specs.declared.body.Body.{Body}
use Rattle.dgram.specs.declared.body.Body.TheVariants.{Promise, Accept, Accepted, Known, Deposit}
use Rattle.dgram.specs.declared.body.Body.TheVariants.{DepositReply, QueryReply}
use Rattle.dgram.specs.declared.message.Message.{Message}
use Rattle.dgram.specs.Messages.{IsPrior, IsBody, IsMessage}
use Rattle.dgram.specs.Encoding.{kind_of, body_from, from_byte, prior_bytes, body_bytes}
use Rattle.dgram.specs.Encoding.{front_bytes, datagram_of}
use Rattle.fields.specs.Checksums.{checksum}
use Rattle.fields.proofs.Checksums.{checksum_size}
use Rattle.dgram.proofs.Codes.{deposit_again, query_again}

vote_length : (v : Vote) → IsVote v → length (vote_bytes v) ≡ 69
vote_length v h = omega (arith, h.1, length-append (ballot_bytes v.ballot) (bag_bytes v.bag))

prior_length : (o : Option Vote) → IsPrior o → length (prior_bytes o) ≤ 70
prior_length None h = omega arith
prior_length (Some v) h = omega (arith, vote_length v h)

slot_length : (s : SlotName) → IsSlot s → length (slot_bytes s) ≤ 205
slot_length s h = omega (arith, h.0.0.1, length-append s.object (to_be_bytes w32 s.version))

body_length : (b : Body) → IsBody b → length (body_bytes b) ≤ 2 + LONGEST_PATH
body_length (Promise from ballot prior) h =
    omega (arith, prior_length prior h.2, length-append (ballot_bytes ballot) (prior_bytes prior))
body_length (Accept vote) h = omega (arith, vote_length vote h)
body_length (Accepted from vote) h = omega (arith, vote_length vote h.1)
body_length (Known from bag) h = omega (arith, h.1)
body_length (Deposit path) h =
    omega (arith, h.0.1, length-append (to_be_bytes w16 (length path)) path)
body_length (DepositReply from answer) h = omega (arith, (deposit_again answer h.1).1)
body_length (QueryReply from answer) h = omega (arith, (query_again answer h.1).1)
body_length _ h = omega arith

pub no_longer : (federation : ℕ) (m : Message) → IsMessage m
    → length (datagram_of federation m) ≤ LONGEST_DATAGRAM
no_longer federation m h =
    let front = front_bytes federation (kind_of m.body) in
    let rest = from_byte (body_from m.body) ∷ (slot_bytes m.slot ++ body_bytes m.body) in
    let all = length-append (front ++ rest) (checksum (front ++ rest)) in
    let before = length-append front rest in
    let after = length-append (slot_bytes m.slot) (body_bytes m.body) in
    omega (arith, checksum_size (front ++ rest), slot_length m.slot h.0, body_length m.body h.1)
