-- The bytes of datagrams are bytes.
use Rattle.std.proofs.Common.{ℕ, zero, suc, ◌≡◌, ◌<◌, List, [], ◌∷◌, ◌++◌, take, Option, None, Some}
use Rattle.std.proofs.Common.{arith}
use Rattle.std.specs.Prelude.{Ok, slice_index}
use Rattle.std.specs.Int.{w32, w64, to_be_bytes, bytes_high_first, byte_at}
use Rattle.std.specs.List.{AllByRecursion}
use Rattle.sha2.specs.Sha256 as sha256
use Rattle.sha2.specs.Sha512 as sha512
use Rattle.fed_types.specs.declared.bag_id.BagId.{BagId}
use Rattle.fields.specs.Checksums.{checksum}
use Rattle.fields.specs.Encoding.{slot_bytes}
use Rattle.bag_tree.specs.Facts.{TreeFacts}
use Rattle.bag_check.specs.declared.fault.BagFault.{BagFault}
use Rattle.bag_check.specs.Check.{check_of, answer, first_fault, identity_of}
use Rattle.dgram.specs.declared.message.Message.{Message}
use Rattle.dgram.specs.Encoding.{kind_of, from_byte, body_from, body_bytes, message_bytes}
use Rattle.dgram.specs.Encoding.{datagram_of}
use Rattle.serving_law.specs.Rules.{AreBytes}

abbrev pub Bytes : List ℕ → Type 0
Bytes bytes = AllByRecursion (λ (b : ℕ). b < 256) bytes

pub each_is : (bytes : List ℕ) → Bytes bytes → AreBytes bytes
each_is [] all i = omega arith
each_is (b ∷ bytes) all zero = all.0
each_is (b ∷ bytes) all (suc i) = each_is bytes all.1 i

pub joined : (xs ys : List ℕ) → Bytes xs → Bytes ys → Bytes (xs ++ ys)
joined [] ys all more = more
joined (x ∷ xs) ys all more = (all.0, joined xs ys all.1 more)

first_of_them : (n : ℕ) (xs : List ℕ) → Bytes xs → Bytes (take n xs)
first_of_them zero xs all = tt
first_of_them (suc n) [] all = tt
first_of_them (suc n) (x ∷ xs) all = (all.0, first_of_them n xs all.1)

a_byte : (k n : ℕ) → byte_at k n < 256
a_byte zero n = omega arith
a_byte (suc k) n = omega arith

pub of_number : (k n : ℕ) → Bytes (bytes_high_first k n)
of_number zero n = tt
of_number (suc k) n = (a_byte k n, of_number k n)

digest256 : (h : List ℕ) (n : ℕ) → Bytes (sha256.digest_bytes h n)
unfolding sha256.digest_bytes
digest256 h zero = tt
digest256 h (suc n) =
    joined (sha256.digest_bytes h n) (to_be_bytes w32 (slice_index h n)) (digest256 h n)
    (of_number 4 (slice_index h n))

digest512 : (h : List ℕ) (n : ℕ) → Bytes (sha512.digest_bytes h n)
unfolding sha512.digest_bytes
digest512 h zero = tt
digest512 h (suc n) =
    joined (sha512.digest_bytes h n) (to_be_bytes w64 (slice_index h n)) (digest512 h n)
    (of_number 8 (slice_index h n))

of_checksum : (bytes : List ℕ) → Bytes (checksum bytes)
unfolding checksum sha256.sha256
of_checksum bytes = first_of_them 8 (sha256.sha256 bytes) (digest256 _ 8)

of_sha512 : (bytes : List ℕ) → Bytes (sha512.sha512 bytes)
unfolding sha512.sha512
of_sha512 bytes = digest512 _ 8

pub of_bag : (facts : TreeFacts) (bag : BagId) → check_of facts ≡ Ok bag → Bytes bag.0
unfolding check_of
of_bag facts bag = go (first_fault facts)
  where
    go : (o : Option BagFault) → answer facts o ≡ Ok bag → Bytes bag.0
    go None e = let same : identity_of facts ≡ bag = cc in rw (← same) (of_sha512 _)
    go (Some fault) e = absurd (cc e)

-- a message's, if its fields' are
pub of_message : (federation : ℕ) (m : Message) → kind_of m.body < 256
    → from_byte (body_from m.body) < 256 → Bytes (slot_bytes m.slot) → Bytes (body_bytes m.body)
    → AreBytes (datagram_of federation m)
of_message federation m kind from slot body =
    let front : Bytes (66 ∷ 80 ∷ 2 ∷ kind_of m.body ∷ []) =
    (omega arith, (omega arith, (omega arith, (kind, tt)))) in
    let sender : Bytes (from_byte (body_from m.body) ∷ []) = (from, tt) in
    let begin : List ℕ = 66 ∷ 80 ∷ 2 ∷ kind_of m.body ∷ [] in
    let number : List ℕ = bytes_high_first 8 federation in
    let site : List ℕ = from_byte (body_from m.body) ∷ [] in
    let its_slot : List ℕ = slot_bytes m.slot in
    let its_body : List ℕ = body_bytes m.body in
    each_is (datagram_of federation m)
    (joined (((begin ++ number) ++ site) ++ (its_slot ++ its_body))
    (checksum (message_bytes federation m))
    (joined ((begin ++ number) ++ site) (its_slot ++ its_body)
    (joined (begin ++ number) site (joined begin number front (of_number 8 federation)) sender)
    (joined its_slot its_body slot body)) (of_checksum (message_bytes federation m)))
