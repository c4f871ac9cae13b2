-- A datagram is decoded as it is encoded.
use Rattle.std.proofs.Common.{◌≡◌, ℕ, ◌≤◌, inl, inr, eqb, ◌↔◌, List, [], ◌∷◌, ◌++◌, length, get_or}
use Rattle.std.proofs.Common.{drop, Option, Some, None, Result, Ok, Err, refl, sym, ap, subst, ◌∙◌}
use Rattle.std.proofs.Common.{arith, false, ltb, length-append}
use Rattle.std.specs.Prelude.{IsErrOf, IsSome}
use Rattle.std.specs.Result.{IsErrAnd}
use Rattle.std.specs.Int.{w64, to_be_bytes}
use Rattle.std.proofs.lemmas.Bool.{eqb-true, le-ltb, ltb-false}
use Rattle.std.proofs.lemmas.List.{append-nil, nil_from_length, take-append-drop, length-drop}
use Rattle.std.proofs.lemmas.List.{take-append-le, drop-append-le}
use Rattle.fields.specs.declared.fault.FieldFault.{FieldFault}
use Rattle.fields.specs.declared.fault.FieldFault.TheVariants as field_faults
use Rattle.fields.specs.Encoding.{slot_bytes}
use Rattle.fields.specs.Decoders.{◌>>=◌, Fails, byte_at, slot_at}
use Rattle.fields.specs.Checksums.{checksum, with_checksum, without_checksum}
use Rattle.fields.proofs.Checksums.{without_again, without_taken}
use Rattle.fields.proofs.Bytes.{IsBytes, IsBytes-rest, IsBytes-prefix, past_test, bind_some}
use Rattle.fields.proofs.Bytes.{in_test}
use Rattle.fields.proofs.Fields.{byte_read, slot_read}
use Rattle.dgram.specs.Numbers.{FRONT}
use Rattle.dgram.specs.declared.fault.DgramFault.{DgramFault}
use Rattle.dgram.specs.declared.fault.DgramFault.TheVariants as faults
use Rattle.fed_types.specs.Faults.{IsOrFault}
use Rattle.fed_types.specs.Slots.{SlotName}
use Rattle.dgram.specs.declared.body.Body.{Body}
use Rattle.dgram.specs.declared.message.Message.{Message}
use Rattle.dgram.specs.Faults.{fault_of_field}
use Rattle.dgram.specs.Messages.{IsMessage}
use Rattle.dgram.specs.Encoding.{kind_of, body_from, from_byte, body_bytes, front_bytes}
use Rattle.dgram.specs.Encoding.{message_bytes, datagram_of}
use Rattle.dgram.specs.Decoders.{body_at, ended, last_body_at, message_at, whole_at, datagram_at}
use Rattle.dgram.specs.Decoded.{IsOurs, IsDatagramOf, IsDatagram, IsMalformed}
use Rattle.dgram.proofs.Bodies.{body_taken, body_again}

-- all after the federation
abbrev pub rest_of : Message → List ℕ
rest_of m = from_byte (body_from m.body) ∷ (slot_bytes m.slot ++ body_bytes m.body)

-- the steps of reading after the kind, the sender and the slot
abbrev whole : SlotName → Body → Option Message
whole slot body = Some (record { slot = slot; body = body })

abbrev from_body : ℕ → ℕ → SlotName × List ℕ → Option Message
from_body kind from slot = last_body_at kind from slot.1 >>= λ body. whole slot.0 body

abbrev from_sender : ℕ → ℕ × List ℕ → Option Message
from_sender kind from = slot_at from.1 >>= λ slot. from_body kind from.0 slot

-- the message was read from these bytes, and this kind's byte
abbrev pub IsTaken : ℕ → List ℕ → Message → Type 0
IsTaken code bytes m =
    (code ≡ kind_of m.body) × (bytes ≡ rest_of m) × IsMessage m

pub message_taken : (code : ℕ) (bytes : List ℕ) (m : Message) → IsBytes bytes
    → message_at code bytes ≡ Some m → IsTaken code bytes m
unfolding message_at
message_taken code bytes m fits e =
    let f = bind_some (byte_at bytes) (λ from. from_sender code from) m e in
    let s = bind_some (slot_at f.0.1) (λ slot. from_body code f.0.0 slot) m f.2 in
    let l = bind_some (last_body_at code f.0.0 s.0.1) (λ body. whole s.0.0 body) m s.2 in
    let b = bind_some (body_at code f.0.0 s.0.1) ended l.0 l.1 in
    let g = in_test (eqb (length b.0.1) 0) (Some b.0.0) l.0 b.2 in
    let made : Message = record { slot = s.0.0; body = b.0.0 } in
    let same : made ≡ m = cc (g.1, l.2) in
    let none : b.0.1 ≡ [] = nil_from_length b.0.1 (eqb-true _ _ g.0) in
    let tf = byte_read.taken bytes f.0.0 f.0.1 fits f.1 in
    let ts = slot_read.taken f.0.1 s.0.0 s.0.1 tf.0.rest_fits s.1 in
    let tb = body_taken code f.0.0 s.0.1 b.0.0 b.0.1 ts.0.rest_fits b.1 in
    let all : bytes ≡ rest_of made =
    cc (tf.0.parts, ts.0.parts, tb.0.parts, none, append-nil (body_bytes b.0.0), tb.2) in
    subst (IsTaken code bytes) same (tb.1, all, (ts.1, tb.3))

pub message_again : (m : Message) → IsMessage m → message_at (kind_of m.body) (rest_of m) ≡ Some m
unfolding message_at
message_again m h =
    let b = rw (append-nil (body_bytes m.body)) at (body_again m.body [] h.1) in
    rw (slot_read.again m.slot (body_bytes m.body) h.0, b)

-- the bytes up to the sender's
pub front_parts : (federation : ℕ) (bytes : List ℕ) → FRONT ≤ length bytes → IsOurs federation bytes
    → bytes ≡ front_bytes federation (get_or bytes 3 0) ++ drop 12 bytes
front_parts federation (a ∷ b ∷ c ∷ k ∷ rest) long ours =
    let after : rest ≡ to_be_bytes w64 federation ++ drop 8 rest =
    sym (take-append-drop 8 rest) ∙ ap (λ (xs : List ℕ). xs ++ drop 8 rest) ours.1 in
    cc (ours.0, after)
front_parts federation _ long ours = absurd (omega arith)

-- the bytes before the checksum, and the message that was read of them
whole_found : (federation : ℕ) (bytes : List ℕ) (m : Message) → IsBytes bytes
    → FRONT ≤ length bytes → IsOurs federation bytes
    → message_at (get_or bytes 3 0) (drop 12 bytes) ≡ Some m
    → IsMessage m × (bytes ≡ message_bytes federation m)
whole_found federation bytes m fits long ours given =
    let parts = front_parts federation bytes long ours in
    let back = IsBytes-rest (front_bytes federation (get_or bytes 3 0)) (drop 12 bytes)
    (subst IsBytes parts fits) in
    let t = message_taken (get_or bytes 3 0) (drop 12 bytes) m back given in
    (t.2, cc (parts, t.0, t.1))

-- where bytes are ours, a long enough prefix of them is
prefix_is_ours : (federation : ℕ) (bytes more : List ℕ) → FRONT ≤ length bytes
    → IsOurs federation (bytes ++ more) → IsOurs federation bytes
prefix_is_ours federation bytes more long ours =
    let after = rw (drop-append-le 4 bytes more (omega arith)) at ours.1 in (
      rw (take-append-le 3 bytes more (omega arith)) at ours.0,
      rw (take-append-le 8 (drop 4 bytes) more (omega (arith, length-drop 4 bytes))) at after,
    )

pub is_found : (federation : ℕ) (bytes : List ℕ) (m : Message) → IsBytes bytes
    → FRONT ≤ length bytes → IsOurs federation bytes → datagram_at bytes ≡ Some m
    → IsDatagramOf federation bytes m
unfolding datagram_at
is_found federation bytes m fits long ours given =
    let f = bind_some (without_checksum bytes) whole_at m given in
    let front = f.0 in
    let parts = without_taken front bytes f.1 in
    let t = past_test (ltb (length front) 12) (message_at (get_or front 3 0) (drop 12 front)) m f.2
    in
    let enough = ltb-false (length front) 12 t.0 in
    let fits' = IsBytes-prefix front (checksum front) (subst IsBytes parts fits) in
    let ours' = prefix_is_ours federation front (checksum front) enough
    (subst (IsOurs federation) parts ours) in
    let found = whole_found federation front m fits' enough ours' t.1 in
    (found.0, parts ∙ ap with_checksum found.1)

-- something was read
of_some : (read : Option Message) → IsSome read → (m : Message) × (read ≡ Some m)
of_some (Some m) h = (m, refl)
of_some None h = absurd cc

-- what reading a message's datagram gives
pub datagram_read : (federation : ℕ) (m : Message) → IsMessage m
    → datagram_at (datagram_of federation m) ≡ Some m
unfolding datagram_at
datagram_read federation m h =
    let bytes = message_bytes federation m in
    let front = front_bytes federation (kind_of m.body) in
    let long : ltb (length bytes) 12 ≡ false =
    le-ltb (length bytes) 12 (omega (arith, length-append front (rest_of m))) in
    rw (without_again bytes, long) (message_again m h)

pub is_read : (federation : ℕ) (bytes : List ℕ) (m : Message) → IsDatagramOf federation bytes m
    → datagram_at bytes ≡ Some m
is_read federation bytes m h = rw h.1 (datagram_read federation m h.0)

-- where a message was read
pub ok_only : (federation : ℕ) (bytes : List ℕ) (x : Message) → datagram_at bytes ≡ Some x
    → (m : Message) → IsDatagramOf federation bytes m → IsOrFault faults.Memory (Ok x) (Ok m)
ok_only federation bytes x given m h =
    inl (cc (given, is_read federation bytes m h))

pub ok_malformed : (federation : ℕ) (bytes : List ℕ) (x : Message) → FRONT ≤ length bytes
    → IsDatagramOf federation bytes x
    → IsErrOf (Ok x) faults.Malformed ↔ IsMalformed federation bytes
ok_malformed federation bytes x long found = (
  λ e. absurd (cc e),
  λ bad. elim bad [
    | inl short ↦ absurd (omega arith)
    | inr none ↦ absurd (none.1 x found.0 found.1)
  ],
)

-- what is known where reading what begins as it has to ended in a fault of a field, which gave the
-- answer r
pub record Faulted (federation : ℕ) (bytes : List ℕ) (f : FieldFault)
    (r : Result Message DgramFault) : Type 0 where
  pub fits : IsBytes bytes
  pub long : FRONT ≤ length bytes
  pub ours : IsOurs federation bytes
  pub gives : Fails f (datagram_at bytes)
  pub memory : f ≡ field_faults.Memory → IsSome (datagram_at bytes)
  pub answer : r ≡ Err (fault_of_field f)

pub answer_of : (f : FieldFault) (r : Result Message DgramFault)
    → IsErrAnd r (λ d. d ≡ fault_of_field f) → r ≡ Err (fault_of_field f)
answer_of f (Ok x) h = absurd h
answer_of f (Err d) h = rw h

pub err_only : (federation : ℕ) (bytes : List ℕ) (f : FieldFault) (r : Result Message DgramFault)
    → Faulted federation bytes f r → (m : Message) → IsDatagramOf federation bytes m
    → IsOrFault faults.Memory r (Ok m)
err_only federation bytes field_faults.Malformed r h m d =
    absurd (cc (h.gives, is_read federation bytes m d))
err_only federation bytes field_faults.Memory r h m d = inr h.answer

-- where memory ran out, there is a message
pub memory_found : (federation : ℕ) (bytes : List ℕ) (r : Result Message DgramFault)
    → Faulted federation bytes field_faults.Memory r → IsDatagram federation bytes
memory_found federation bytes r h =
    let m = of_some (datagram_at bytes) (h.memory refl) in
    (m.0, is_found federation bytes m.0 h.fits h.long h.ours m.1)

pub err_memory : (federation : ℕ) (bytes : List ℕ) (f : FieldFault) (r : Result Message DgramFault)
    → Faulted federation bytes f r → IsErrOf r faults.Memory → IsDatagram federation bytes
err_memory federation bytes field_faults.Malformed r h e = absurd (cc h.answer)
err_memory federation bytes field_faults.Memory r h e = memory_found federation bytes r h

pub err_malformed : (federation : ℕ) (bytes : List ℕ) (f : FieldFault)
    (r : Result Message DgramFault) → Faulted federation bytes f r
    → IsErrOf r faults.Malformed ↔ IsMalformed federation bytes
err_malformed federation bytes field_faults.Malformed r h = (
  λ e. inr (h.ours, λ m is same. cc (h.gives, is_read federation bytes m (is, same))),
  λ bad. h.answer,
)
err_malformed federation bytes field_faults.Memory r h =
    let found = memory_found federation bytes r h in (
      λ e. absurd (cc h.answer),
      λ bad. elim bad [
        | inl short ↦ absurd (omega (arith, h.long))
        | inr none ↦ absurd (none.1 found.0 found.1.0 found.1.1)
      ],
    )

-- two messages that have one datagram
pub same_message : (federation : ℕ) (a b : Message) → IsMessage a → IsMessage b
    → datagram_of federation a ≡ datagram_of federation b → a ≡ b
same_message federation a b h h' e =
    cc (datagram_read federation a h, datagram_read federation b h')
