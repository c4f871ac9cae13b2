-- The message of bytes is the one whose datagram they are.
use Rattle.std.proofs.Common.{◌≡◌, ℕ, ◌≤◌, ◌<◌, ◌↔◌, List, ◌++◌, length, get_or, take, Option, None}
use Rattle.std.proofs.Common.{Some, Result, refl, ap, subst, arith, length-append}
use Rattle.std.specs.Str.{bytes_eq}
use Rattle.std.proofs.lemmas.Slice.Eq.{bytes_eq-Decides}
use Rattle.std.proofs.lemmas.List.{take-append-drop, length-take}
use Rattle.fields.specs.declared.fault.FieldFault.{FieldFault}
use Rattle.fields.specs.declared.fault.FieldFault.TheVariants as field_faults
use Rattle.fields.specs.Checksums.{checksum}
use Rattle.fields.proofs.Bytes.{IsBytes, in_test}
use Rattle.dgram.specs.Numbers.{FRONT}
use Rattle.dgram.specs.declared.fault.DgramFault.{DgramFault}
use Rattle.dgram.specs.declared.message.Message.{Message}
use Rattle.dgram.specs.Messages.{IsMessage}
use Rattle.dgram.specs.Encoding.{kind_of, front_bytes, datagram_of}
use Rattle.dgram.specs.Decoders.{datagram_at}
use Rattle.dgram.specs.Decoded.{IsOurs, IsDatagramOf, message_of, Decodes}
use Rattle.dgram.proofs.Whole.{rest_of, Faulted, is_read, is_found, datagram_read, memory_found}

-- the message of a message's datagram
pub message_of-again : (federation : ℕ) (m : Message) → IsMessage m
    → message_of federation (datagram_of federation m) ≡ Some m
unfolding message_of
message_of-again federation m h =
    let front = take 12 (datagram_of federation m) in
    rw ((bytes_eq-Decides front front).1 refl) (datagram_read federation m h)

-- what begins with a front is long enough, and ours
long_by : (federation kind : ℕ) (bytes : List ℕ) → take 12 bytes ≡ front_bytes federation kind
    → FRONT ≤ length bytes
long_by federation kind bytes e = omega (arith, ap length e, length-take 12 bytes)

ours_by : (federation kind : ℕ) (bytes : List ℕ) → take 12 bytes ≡ front_bytes federation kind
    → IsOurs federation bytes
ours_by federation kind bytes e =
    subst (IsOurs federation) (rw e at (take-append-drop 12 bytes)) (refl, refl)

-- bytes that have a message are its datagram
pub message_of-found : (federation : ℕ) (bytes : List ℕ) (m : Message) → IsBytes bytes
    → message_of federation bytes ≡ Some m → IsDatagramOf federation bytes m
unfolding message_of
message_of-found federation bytes m fits e =
    let kind = get_or bytes 3 0 in
    let front = front_bytes federation kind in
    let t = in_test (bytes_eq (take 12 bytes) front) (datagram_at bytes) m e in
    let same = (bytes_eq-Decides (take 12 bytes) front).0 t.0 in
    is_found federation bytes m fits (long_by federation kind bytes same)
    (ours_by federation kind bytes same) t.1

pub message_of-is : (federation : ℕ) (bytes : List ℕ) → IsBytes bytes → (m : Message)
    → IsDatagramOf federation bytes m ↔ (message_of federation bytes ≡ Some m)
message_of-is federation bytes fits m = (
  λ d. rw d.1 (message_of-again federation m d.0),
  message_of-found federation bytes m fits,
)

-- bytes that are no datagram have no message
pub no_message : (federation : ℕ) (bytes : List ℕ) → IsBytes bytes
    → ((m : Message) → IsDatagramOf federation bytes m → ⊥) → message_of federation bytes ≡ None
no_message federation bytes fits none = go (message_of federation bytes) refl
  where
    go : (o : Option Message) → message_of federation bytes ≡ o → o ≡ None
    go None e = refl
    go (Some m) e = absurd (none m (message_of-found federation bytes m fits e))

-- bytes that are too short are none
pub short_message : (federation : ℕ) (bytes : List ℕ) → length bytes < FRONT → (m : Message)
    → IsDatagramOf federation bytes m → ⊥
short_message federation bytes short m d =
    let front = front_bytes federation (kind_of m.body) in
    let rest = rest_of m in
    let all = length-append (front ++ rest) (checksum (front ++ rest)) in
    omega (arith, ap length d.1, length-append front rest)

-- where reading ended in a fault of a field
pub err_message : (federation : ℕ) (bytes : List ℕ) (f : FieldFault) (r : Result Message DgramFault)
    → Faulted federation bytes f r → Decodes r (message_of federation bytes)
err_message federation bytes field_faults.Malformed r h =
    rw h.answer
    (no_message federation bytes h.fits (λ m d. cc (h.gives, is_read federation bytes m d)))
err_message federation bytes field_faults.Memory r h =
    let found = memory_found federation bytes r h in
    rw (h.answer, (message_of-is federation bytes h.fits found.0).0 found.1)
