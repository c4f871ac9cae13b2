-- The bytes of records are prefix-free, those of both layouts together, so bytes have one list of
-- records of a layout.
use Rattle.std.proofs.Common.{◌≡◌, ◌≢◌, ◌⊎◌, ℕ, ◌≤◌, ◌+◌, eqb, cond, List, [], ◌∷◌, ◌++◌, length}
use Rattle.std.proofs.Common.{take, drop, get_or, refl, sym, ap, ◌∙◌, arith, inl, inr}
use Rattle.std.proofs.Common.{append_assoc, length-append}
use Rattle.std.specs.Int.{w16, w32, to_be_bytes}
use Rattle.std.proofs.lemmas.Nat.{from_be_bytes-to_be_bytes_2}
use Rattle.std.proofs.lemmas.List.{append-nil, take_at, drop_at}
use Rattle.fields.specs.Checksums.{checksum}
use Rattle.fields.specs.Encoding.{slot_bytes}
use Rattle.fields.proofs.Bytes.{some_is}
use Rattle.records.specs.declared.entry.Entry.{Entry}
use Rattle.records.specs.declared.entry.Entry.TheVariants.{Deposit, Round, Promise, Vote, Known}
use Rattle.records.specs.declared.layout.Layout.{Layout}
use Rattle.records.specs.declared.layout.Layout.TheVariants.{First, Second}
use Rattle.records.specs.declared.record.Record.{Record}
use Rattle.records.specs.Layout.{kind_code, entry_bytes, content_bytes, checksum_size, framed}
use Rattle.records.specs.Layout.{encoded, all_encoded}
use Rattle.records.specs.Numbers.{shortest_entry, longest_entry, shortest_content, longest_content}
use Rattle.records.specs.Records.{IsEntry, IsRecord, AreRecords}
use Rattle.records.specs.Journals.{IsRecordLength, length_field, IsTornRecord, IsNoRecord}
use Rattle.records.specs.inner.Decoders.{content_at}
use Rattle.records.proofs.RoundTrip.{content_again}
use Rattle.fields.proofs.Checksums as checked

entry_size : (e : Entry) → IsEntry e → (shortest_entry ≤ length (entry_bytes e))
    × (length (entry_bytes e) ≤ longest_entry)
entry_size (Deposit bag) h = (omega (arith, h), omega (arith, h))
entry_size (Round round) h = (omega arith, omega arith)
entry_size (Promise ballot) h = (omega arith, omega arith)
entry_size (Vote vote) h = (omega (arith, h.1), omega (arith, h.1))
entry_size (Known bag) h = (omega (arith, h), omega (arith, h))

-- a kind has entries of one size
size_of_kind : ℕ → ℕ
size_of_kind k = cond (eqb k 2) 4 (cond (eqb k 3) 5 (cond (eqb k 4) 69 64))

entry_by_kind : (e : Entry) → IsEntry e
    → length (entry_bytes e) ≡ size_of_kind (kind_code e)
unfolding size_of_kind
entry_by_kind (Deposit bag) h = h
entry_by_kind (Round round) h = refl
entry_by_kind (Promise ballot) h = refl
entry_by_kind (Vote vote) h = omega (arith, h.1)
entry_by_kind (Known bag) h = h

content_parts : (r : Record) → length (content_bytes r) ≡ 6 + length r.slot.object
    + length (entry_bytes r.body)
content_parts r = omega (
  arith,
  length-append (slot_bytes r.slot) (entry_bytes r.body),
  length-append (length r.slot.object ∷ r.slot.object) (to_be_bytes w32 r.slot.version),
)

-- a record's content has a size that it can have
pub content_size : (r : Record) → IsRecord r → (shortest_content ≤ length (content_bytes r))
    × (length (content_bytes r) ≤ longest_content)
content_size r h =
    let e = entry_size r.body h.1 in
    let object = h.0.0.0 in
    let size = content_parts r in
    (omega (arith, e.0, size, object.0), omega (arith, e.1, size, object.1))

-- what follows the content
pub end_of : Layout → Record → List ℕ
end_of First r = []
end_of Second r = checksum (framed Second r)

pub end_size : (l : Layout) (r : Record) → length (end_of l r) ≡ checksum_size l
unfolding end_of
end_size First r = refl
end_size Second r = checked.checksum_size (framed Second r)

-- the length that the length field says
abbrev pub size_said : Layout → Record → ℕ
size_said l r = length (content_bytes r) + checksum_size l

pub encoded_is : (l : Layout) (r : Record) → encoded l r ≡ to_be_bytes w16 (size_said l r)
    ++ (content_bytes r ++ end_of l r)
unfolding encoded end_of
encoded_is First r = rw (append-nil (content_bytes r)) refl
encoded_is Second r =
    append_assoc (to_be_bytes w16 (size_said Second r)) (content_bytes r)
    (checksum (framed Second r))

encoded_and : (l : Layout) (r : Record) (x : List ℕ) → encoded l r ++ x
    ≡ to_be_bytes w16 (size_said l r) ++ ((content_bytes r ++ end_of l r) ++ x)
encoded_and l r x = rw (encoded_is l r)
    (append_assoc (to_be_bytes w16 (size_said l r)) (content_bytes r ++ end_of l r) x)

two_bytes : (n : ℕ) (b : List ℕ) → n ≤ 65535 → length_field (to_be_bytes w16 n ++ b) ≡ n
two_bytes n b le = from_be_bytes-to_be_bytes_2 n (omega (arith, le))

pub said_size : (l : Layout) (r : Record) → IsRecord r → IsRecordLength l (size_said l r)
    × (size_said l r ≤ 283)
said_size First r h = let c = content_size r h in
    ((omega (arith, c.0), omega (arith, c.1)), omega (arith, c.1))
said_size Second r h = let c = content_size r h in
    ((omega (arith, c.0), omega (arith, c.1)), omega (arith, c.1))

-- it is in the first two bytes
pub length_is : (l : Layout) (r : Record) (x : List ℕ) → IsRecord r
    → length_field (encoded l r ++ x) ≡ size_said l r
length_is l r x h = ap length_field (encoded_and l r x)
    ∙ two_bytes (size_said l r) ((content_bytes r ++ end_of l r) ++ x)
    (omega (arith, (said_size l r h).1))

pub record_size : (l : Layout) (r : Record) (x : List ℕ)
    → length (encoded l r ++ x) ≡ 2 + size_said l r + length x
record_size l r x = ap length (encoded_and l r x) ∙ omega (
  arith,
  length-append (content_bytes r ++ end_of l r) x,
  length-append (content_bytes r) (end_of l r),
  end_size l r,
)

after_length : (l : Layout) (r : Record) (x : List ℕ)
    → drop 2 (encoded l r ++ x) ≡ (content_bytes r ++ end_of l r) ++ x
after_length l r x = ap (drop 2) (encoded_and l r x)

-- the content, and what follows all
pub content_of : (l : Layout) (r : Record) (x : List ℕ) (n : ℕ) → length (content_bytes r) ≡ n
    → take n (drop 2 (encoded l r ++ x)) ≡ content_bytes r
content_of l r x n is = ap (take n) (after_length l r x ∙ append_assoc (content_bytes r)
    (end_of l r) x) ∙ take_at (content_bytes r) (end_of l r ++ x) n is

pub after : (l : Layout) (r : Record) (x : List ℕ) (n : ℕ) → size_said l r ≡ n
    → drop n (drop 2 (encoded l r ++ x)) ≡ x
after l r x n is = ap (drop n) (after_length l r x)
    ∙ drop_at (content_bytes r ++ end_of l r) x n
    (omega (arith, length-append (content_bytes r) (end_of l r), end_size l r, is))

-- the kind, and the length of the object
kind_is : (l : Layout) (r : Record) (x : List ℕ) → get_or (encoded l r ++ x) 2 0 ≡ kind_code r.body
kind_is l r x = ap (λ (b : List ℕ). get_or b 2 0) (encoded_and l r x)

object_is : (l : Layout) (r : Record) (x : List ℕ)
    → get_or (encoded l r ++ x) 3 0 ≡ length r.slot.object
object_is l r x = ap (λ (b : List ℕ). get_or b 3 0) (encoded_and l r x)

-- records that begin alike have contents of one size
same_content_size : (l m : Layout) (r s : Record) (x y : List ℕ) → IsRecord r → IsRecord s
    → encoded l r ++ x ≡ encoded m s ++ y → length (content_bytes r) ≡ length (content_bytes s)
same_content_size l m r s x y h k e =
    let kind : kind_code r.body ≡ kind_code s.body = sym (kind_is l r x)
    ∙ ap (λ (b : List ℕ). get_or b 2 0) e ∙ kind_is m s y in
    let object : length r.slot.object ≡ length s.slot.object = sym (object_is l r x)
    ∙ ap (λ (b : List ℕ). get_or b 3 0) e ∙ object_is m s y in
    let entry : length (entry_bytes r.body) ≡ length (entry_bytes s.body) =
    entry_by_kind r.body h.1 ∙ ap size_of_kind kind ∙ sym (entry_by_kind s.body k.1) in
    omega (arith, object, entry, content_parts r, content_parts s)

same_layout : (l m : Layout) → checksum_size l ≡ checksum_size m → l ≡ m
same_layout First First e = refl
same_layout Second Second e = refl
same_layout _ _ e = absurd (cc e)

-- the bytes of records are prefix-free
pub same_record : (l m : Layout) (r s : Record) (x y : List ℕ) → IsRecord r → IsRecord s
    → encoded l r ++ x ≡ encoded m s ++ y → (l ≡ m) × (r ≡ s) × (x ≡ y)
same_record l m r s x y h k e =
    let sizes = same_content_size l m r s x y h k e in
    let said : size_said l r ≡ size_said m s = sym (length_is l r x h) ∙ ap length_field e
    ∙ length_is m s y k in
    let n = length (content_bytes r) in
    let content : content_bytes r ≡ content_bytes s = sym (content_of l r x n refl)
    ∙ ap (λ (b : List ℕ). take n (drop 2 b)) e ∙ content_of m s y n (sym sizes) in
    let rest : x ≡ y = sym (after l r x (size_said l r) refl)
    ∙ ap (λ (b : List ℕ). drop (size_said l r) (drop 2 b)) e
    ∙ after m s y (size_said l r) (sym said) in (
      same_layout l m (omega (arith, sizes, said)),
      some_is r s (sym (content_again r h) ∙ ap content_at content ∙ content_again s k),
      rest,
    )

-- the bytes begin with no record of the layout
abbrev pub BeginsWithNone : Layout → List ℕ → Type 0
BeginsWithNone l x = (r : Record) (y : List ℕ) → IsRecord r → x ≢ encoded l r ++ y

pub none_of_nothing : (l : Layout) → BeginsWithNone l []
none_of_nothing l r y h e = omega (arith, record_size l r y, ap length e)

pub none_of_torn : (l : Layout) (x : List ℕ) → IsTornRecord l x → BeginsWithNone l x
none_of_torn l x (inl one) r y h e =
    omega (arith, record_size l r y, ap length e, one, (content_size r h).0)
none_of_torn l x (inr t) r y h e =
    omega (arith, record_size l r y, ap length e, length_is l r y h, ap length_field e, t.2)

pub whole_prefix : (l : Layout) (r : Record) (x : List ℕ)
    → take (2 + size_said l r) (encoded l r ++ x) ≡ encoded l r
whole_prefix l r x = take_at (encoded l r) x (2 + size_said l r) (let s =
    record_size l r [] in omega (arith, s, ap length (append-nil (encoded l r))))

pub none_of_damage : (l : Layout) (x : List ℕ) → IsNoRecord l x → BeginsWithNone l x
none_of_damage l x (two, inl out) r y h e =
    let is : length_field x ≡ size_said l r = ap length_field e ∙ length_is l r y h in
    out (rw is (said_size l r h).0)
none_of_damage l x (two, inr t) r y h e =
    let is : length_field x ≡ size_said l r = ap length_field e ∙ length_is l r y h in
    t.1 r h (ap (λ (n : ℕ). take (2 + n) x) is ∙ ap (take (2 + size_said l r)) e
    ∙ whole_prefix l r y)

-- bytes are one list of records of a layout and one rest
pub same_records : (l : Layout) (rs ss : List Record) (x y : List ℕ) → AreRecords rs
    → AreRecords ss → BeginsWithNone l x → BeginsWithNone l y
    → all_encoded l rs ++ x ≡ all_encoded l ss ++ y → (rs ≡ ss) × (x ≡ y)
unfolding all_encoded
same_records l [] [] x y h k sx sy e = (refl, e)
same_records l [] (s ∷ ss) x y h k sx sy e =
    absurd (sx s (all_encoded l ss ++ y) k.0 (simp append_assoc at e))
same_records l (r ∷ rs) [] x y h k sx sy e =
    absurd (sy r (all_encoded l rs ++ x) h.0 (simp append_assoc at (sym e)))
same_records l (r ∷ rs) (s ∷ ss) x y h k sx sy e =
    let one = same_record l l r s (all_encoded l rs ++ x) (all_encoded l ss ++ y) h.0 k.0
    (simp append_assoc at e) in
    let more = same_records l rs ss x y h.1 k.1 sx sy one.2 in
    ((λ i. one.1 i ∷ more.0 i), more.1)

-- an end is no damage
pub no_both : (l : Layout) (x : List ℕ) → (x ≡ []) ⊎ IsTornRecord l x → IsNoRecord l x → ⊥
no_both l x (inl none) (two, bad) = omega (arith, ap length none, two)
no_both l x (inr (inl one)) (two, bad) = omega (arith, one, two)
no_both l x (inr (inr t)) (two, inl out) = out t.1
no_both l x (inr (inr t)) (two, inr b) = omega (arith, t.2, b.0)
