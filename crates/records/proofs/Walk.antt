-- The records are read one after another.
use Rattle.std.proofs.Common.{◌≡◌, ℕ, zero, suc, ◌≤◌, ◌+◌, ◌-◌, List, [], ◌∷◌, ◌++◌, length}
use Rattle.std.proofs.Common.{take, drop, Option, Some, None, refl, sym, ap, subst, ◌∙◌}
use Rattle.std.proofs.Common.{arith, inr, length-append}
use Rattle.std.specs.Prelude.{IsSome}
use Rattle.std.specs.Int.{w16, to_be_bytes, from_be_bytes}
use Rattle.std.proofs.lemmas.List.{append-nil, take-append-drop, length-drop, length-take}
use Rattle.std.proofs.lemmas.List.{take-append-le}
use Rattle.std.proofs.lemmas.Nat.{be_bytes_2}
use Rattle.std.proofs.Math.Seq.{take-length, take-add}
use Rattle.fields.specs.Checksums.{checksum}
use Rattle.fields.proofs.Bytes.{IsBytes, IsBytes-prefix, IsBytes-rest, bind_some, some_is, not_some}
use Rattle.records.specs.declared.layout.Layout.{Layout}
use Rattle.records.specs.declared.layout.Layout.TheVariants.{First, Second}
use Rattle.records.specs.declared.record.Record.{Record}
use Rattle.records.specs.Layout.{content_bytes, checksum_size, sealed, framed, encoded, all_encoded}
use Rattle.records.specs.Records.{IsRecord}
use Rattle.records.specs.Journals.{length_field, IsNoRecord}
use Rattle.records.specs.inner.Decoders.{content_at}
use Rattle.records.specs.inner.Steps.{unsealed, record_in, IsWhole, IsSized, IsPassed}
use Rattle.records.proofs.RoundTrip.{content_taken, content_again}
use Rattle.records.proofs.Prefixes.{record_size, content_size}
use Rattle.records.proofs.Texts.{records-push, whole-push}
use Rattle.fields.proofs.Checksums.{without_again, without_taken, checksum_size as sum_size}
use Rattle.records.specs.declared.journal.Find.TheVariants as finds

-- the bytes from a place on
abbrev pub from : List ℕ → ℕ → List ℕ
from bytes place = take (length bytes - place) (drop place bytes)

pub from_is : (bytes : List ℕ) (place : ℕ) → from bytes place ≡ drop place bytes
from_is bytes place = rw (← length-drop place bytes) (take-length (drop place bytes))

-- ---- a whole record is read as it is written

sealed_again : (l : Layout) (u : List ℕ) → unsealed l (sealed l u) ≡ Some u
sealed_again First u = refl
sealed_again Second u = without_again u

sealed_taken : (l : Layout) (w u : List ℕ) → unsealed l w ≡ Some u → w ≡ sealed l u
sealed_taken First w u e = some_is w u e
sealed_taken Second w u e = without_taken u w e

pub sealed_begins : (l : Layout) (u : List ℕ) → (more : List ℕ) × (sealed l u ≡ u ++ more)
sealed_begins First u = ([], sym (append-nil u))
sealed_begins Second u = (checksum u, refl)

pub sealed_size : (l : Layout) (u : List ℕ) → length (sealed l u) ≡ length u + checksum_size l
sealed_size First u = omega arith
sealed_size Second u = omega (arith, length-append u (checksum u), sum_size u)

pub record_again : (l : Layout) (r : Record) → IsRecord r → record_in l (encoded l r) ≡ Some r
unfolding record_in encoded
record_again l r h =
    let content : drop 2 (framed l r) ≡ content_bytes r = refl in
    rw (sealed_again l (framed l r), content) (content_again r h)

-- the first two bytes, and the rest
two_and : (u : List ℕ) → 2 ≤ length u → u ≡ take 2 u ++ drop 2 u
two_and u two = sym (take-append-drop 2 u)

pub record_taken : (l : Layout) (w : List ℕ) (r : Record) → IsBytes w
    → length w ≡ 2 + length_field w → 19 ≤ length w + 8 → record_in l w ≡ Some r
    → IsRecord r × (w ≡ encoded l r)
unfolding record_in encoded
record_taken l w r fits size least e =
    let o = bind_some (unsealed l w) (λ u. content_at (drop 2 u)) r e in
    let u = o.0 in
    let whole : w ≡ sealed l u = sealed_taken l w u o.1 in
    let begins = sealed_begins l u in
    let its : IsBytes u = IsBytes-prefix u begins.0 (subst IsBytes (whole ∙ begins.1) fits) in
    let behind : IsBytes (drop 2 u) = IsBytes-rest (take 2 u) (drop 2 u)
    (subst IsBytes (sym (take-append-drop 2 u)) its) in
    let t = content_taken (drop 2 u) r behind o.2 in
    let sizes : length w ≡ length u + checksum_size l = ap length whole ∙ sealed_size l u in
    let content : 11 ≤ length (content_bytes r) = (content_size r t.1).0 in
    let more : length (drop 2 u) ≡ length (content_bytes r) = ap length t.0 in
    let long : 2 ≤ length u = omega (arith, more, content, length-drop 2 u) in
    let n : length_field w ≡ length (content_bytes r) + checksum_size l =
    omega (arith, size, sizes, more, length-drop 2 u, long) in
    let first : take 2 w ≡ take 2 u = ap (take 2) (whole ∙ begins.1)
    ∙ take-append-le 2 u begins.0 long in
    let two : IsBytes (take 2 u) = IsBytes-prefix (take 2 u) (drop 2 u)
    (subst IsBytes (sym (take-append-drop 2 u)) its) in
    let field : to_be_bytes w16 (length (content_bytes r) + checksum_size l) ≡ take 2 u =
    be_bytes_2 (take 2 u) (length (content_bytes r) + checksum_size l)
    (omega (arith, length-take 2 u, long)) two
    (sym n ∙ ap (λ (b : List ℕ). from_be_bytes w16 b) first) in
    let parts : u ≡ framed l r = two_and u long ∙ ap (λ (b : List ℕ). b ++ drop 2 u)
    (sym field) ∙ ap (λ (b : List ℕ). to_be_bytes w16 (length (content_bytes r)
    + checksum_size l) ++ b) t.0 in
    (t.1, whole ∙ ap (sealed l) parts)

-- ---- the bytes that a size finds

module _ (l : Layout) (bytes : List ℕ) (size : ℕ) (sized : IsSized l bytes (finds.Whole size)) where
  whole_size : length (take size bytes) ≡ size
  whole_size = omega (arith, length-take size bytes, sized.2)

  field_again : length_field (take size bytes) ≡ length_field bytes
  field_again = ap (λ (b : List ℕ). from_be_bytes w16 b) (by size bytes least)
    where
      least : 2 ≤ size
      least = omega (arith, sized.1)

      by : (n : ℕ) (xs : List ℕ) → 2 ≤ n → take 2 (take n xs) ≡ take 2 xs
      by zero xs two = absurd (omega (arith, two))
      by (suc zero) xs two = absurd (omega (arith, two))
      by (suc (suc n)) [] two = refl
      by (suc (suc n)) (x ∷ []) two = refl
      by (suc (suc n)) (x ∷ y ∷ xs) two = refl

  pub sized_whole : (r : Record) → IsBytes bytes
      → record_in l (take size bytes) ≡ Some r → IsWhole l bytes r size
  sized_whole r fits e =
      let its : IsBytes (take size bytes) = IsBytes-prefix (take size bytes) (drop size bytes)
      (subst IsBytes (sym (take-append-drop size bytes)) fits) in
      let t = record_taken l (take size bytes) r its
      (whole_size ∙ sized.1 ∙ ap (λ (n : ℕ). 2 + n) (sym field_again))
      (omega (arith, whole_size, sized.3)) e in
      (t.0, sized.2, t.1)

  pub sized_none : record_in l (take size bytes) ≡ None → IsNoRecord l bytes
  sized_none e = (
    sized.0,
    inr (
      omega (arith, sized.1, sized.2),
      λ r h same. not_some (record_in l (take size bytes)) r e
          (ap (λ (n : ℕ). record_in l (take n bytes)) sized.1 ∙ ap (record_in l) same
          ∙ record_again l r h),
    ),
  )

-- a record, or none
pub some_of : (o : Option Record) → IsSome o → (r : Record) × (o ≡ Some r)
some_of (Some r) some = (r, refl)
some_of None some = absurd (cc some)

pub none_of : (o : Option Record) → (IsSome o → ⊥) → o ≡ None
none_of (Some r) none = absurd (none refl)
none_of None none = refl

-- ---- one after another

pub whole_least : (l : Layout) (bytes : List ℕ) (r : Record) (size : ℕ) → IsWhole l bytes r size
    → 13 ≤ size
whole_least l bytes r size (is, fits, e) =
    omega (
      arith,
      length-take size bytes,
      fits,
      ap length e,
      record_size l r [],
      ap length (append-nil (encoded l r)),
      (content_size r is).0,
    )

pub passed_none : (l : Layout) (bytes : List ℕ) → IsPassed l bytes [] 0
unfolding all_encoded
passed_none l bytes = (tt, omega arith, refl)

pub passed_next : (l : Layout) (bytes : List ℕ) (rs : List Record) (len size : ℕ) (r : Record)
    → IsPassed l bytes rs len → IsWhole l (from bytes len) r size
    → IsPassed l bytes (rs ++ r ∷ []) (len + size)
passed_next l bytes rs len size r p w =
    let whole : IsWhole l (drop len bytes) r size = rw (← from_is bytes len) w in (
      whole-push rs r p.0 whole.0,
      omega (arith, whole.1, length-drop len bytes, p.1),
      rw (take-add len size bytes, p.2, whole.2, records-push l rs r),
    )
