-- Bytes that are known to be records are read without a look at their checksums.
use Rattle.std.proofs.Common.{◌≡◌, ◌⊎◌, ℕ, ◌≤◌, ◌+◌, ◌-◌, List, [], ◌∷◌, ◌++◌, length, take, drop}
use Rattle.std.proofs.Common.{Some, None, refl, sym, ap, ◌∙◌, arith, inl, inr}
use Rattle.std.proofs.Common.{append_assoc}
use Rattle.std.proofs.lemmas.List.{append-nil, take_at, drop_at, drop-drop, nil_from_length}
use Rattle.fields.proofs.Bytes.{some_is, not_some}
use Rattle.records.specs.declared.layout.Layout.{Layout}
use Rattle.records.specs.declared.journal.Find.TheVariants as finds
use Rattle.records.specs.declared.record.Record.{Record}
use Rattle.records.specs.Layout.{checksum_size, sealed, framed, encoded, all_encoded}
use Rattle.records.specs.Records.{IsRecord, AreRecords}
use Rattle.records.specs.Journals.{length_field, IsNoRecord}
use Rattle.records.specs.inner.Steps.{record_before, IsShort, IsSized, IsNext}
use Rattle.records.proofs.RoundTrip.{content_again}
use Rattle.records.proofs.Prefixes.{BeginsWithNone, none_of_nothing, none_of_torn, none_of_damage}
use Rattle.records.proofs.Prefixes.{size_said, length_is, record_size, whole_prefix}
use Rattle.records.proofs.Walk.{from, from_is, sealed_begins, sealed_size}

begins_none : (l : Layout) (x : List ℕ) → IsShort l x ⊎ IsNoRecord l x → BeginsWithNone l x
begins_none l x (inl (inl none)) =
    rw (nil_from_length x none) (none_of_nothing l)
begins_none l x (inl (inr torn)) = none_of_torn l x torn
begins_none l x (inr bad) = none_of_damage l x bad

before_again : (l : Layout) (r : Record) → IsRecord r → record_before l (encoded l r) ≡ Some r
unfolding record_before encoded
before_again l r h =
    let u = framed l r in
    let n = length (sealed l u) - checksum_size l in
    let begins = sealed_begins l u in
    let front : take n (sealed l u) ≡ u =
    ap (take n) begins.1 ∙ take_at u begins.0 n (omega (arith, sealed_size l u)) in
    rw front (content_again r h)

record_length : (l : Layout) (r : Record) → length (encoded l r) ≡ 2 + size_said l r
record_length l r = omega (arith, record_size l r [], ap length (append-nil (encoded l r)))

-- ---- one record

-- where none begins
pub none_next : (l : Layout) (bytes : List ℕ) → IsShort l bytes ⊎ IsNoRecord l bytes
    → IsNext l bytes None
none_next l bytes none = record {
  first = λ r more is e. absurd (begins_none l bytes none r more is e);
  none = λ e. refl;
  in_range = λ n e. absurd (cc e);
}

module _ (l : Layout) (bytes : List ℕ) (size : ℕ) (sized : IsSized l bytes (finds.Whole size)) where
  -- a record that begins the bytes has this size
  size_of : (r : Record) (more : List ℕ) → IsRecord r → bytes ≡ encoded l r ++ more
      → size ≡ 2 + size_said l r
  size_of r more is e = omega (arith, sized.1, ap length_field e, length_is l r more is)

  its_bytes : (r : Record) (more : List ℕ) → IsRecord r → bytes ≡ encoded l r ++ more
      → record_before l (take size bytes) ≡ Some r
  its_bytes r more is e = rw (size_of r more is e, e, whole_prefix l r more) (before_again l r is)

  pub whole_next : (r : Record) → record_before l (take size bytes) ≡ Some r
      → IsNext l bytes (Some (r, size))
  whole_next r read = record {
    first = λ s more is e.
        let same : r ≡ s = some_is r s (sym read ∙ its_bytes s more is e) in
        rw (record_length l s, ← size_of s more is e, same) refl;
    none = λ e. absurd (omega (arith, ap length e, sized.2, sized.3));
    in_range = λ n e. rw (← some_is (r, size) n e) (omega (arith, sized.3), sized.2);
  }

  -- bytes that say no record begin with none
  pub unread_next : record_before l (take size bytes) ≡ None → IsNext l bytes None
  unread_next none = record {
    first = λ r more is e. absurd (not_some (record_before l (take size bytes)) r none
        (its_bytes r more is e));
    none = λ e. refl;
    in_range = λ n e. absurd (cc e);
  }

pub next_range : (l : Layout) (bytes : List ℕ) (r : Record) (size : ℕ)
    → IsNext l bytes (Some (r, size)) → (1 ≤ size) × (size ≤ length bytes)
next_range l bytes r size next = next.in_range (r, size) refl

-- ---- one after another

-- so many of the records were read, as far as a place
pub record IsReadTo (l : Layout) (bytes : List ℕ) (records : List Record) (place : ℕ)
    (old new : List Record) : Type 0 where
  pub read : List Record
  pub rest : List Record
  pub all : records ≡ read ++ rest
  pub are : AreRecords rest
  pub left : drop place bytes ≡ all_encoded l rest
  pub items : new ≡ old ++ read

pub read_none : (l : Layout) (bytes : List ℕ) (records old : List Record) → AreRecords records
    → bytes ≡ all_encoded l records → IsReadTo l bytes records 0 old old
read_none l bytes records old are is = record {
  read = [];
  rest = records;
  all = refl;
  are = are;
  left = is;
  items = sym (append-nil old);
}

module _ (l : Layout) (bytes : List ℕ) (records : List Record) (place : ℕ) (old new : List Record)
  where
    pub read_end : IsReadTo l bytes records place old new → IsNext l (from bytes place) None
        → new ≡ old ++ records
    unfolding all_encoded
    read_end t next = by t.read t.rest t.all t.are t.left t.items
      where
        by : (read rest : List Record) → records ≡ read ++ rest → AreRecords rest
            → drop place bytes ≡ all_encoded l rest → new ≡ old ++ read → new ≡ old ++ records
        by read [] all are left items = rw (items, all, append-nil) refl
        by read (r ∷ rest) all are left items =
            absurd (cc (next.first r (all_encoded l rest) are.0 (from_is bytes place ∙ left)))

    pub read_step : (r : Record) (size : ℕ) → IsReadTo l bytes records place old new
        → IsNext l (from bytes place) (Some (r, size))
        → IsReadTo l bytes records (place + size) old (new ++ r ∷ [])
    unfolding all_encoded
    read_step r size t next = by t.read t.rest t.all t.are t.left t.items
      where
        by : (read rest : List Record) → records ≡ read ++ rest → AreRecords rest
            → drop place bytes ≡ all_encoded l rest → new ≡ old ++ read
            → IsReadTo l bytes records (place + size) old (new ++ r ∷ [])
        by read [] all are left items = absurd (cc (next.none (from_is bytes place ∙ left)))
        by read (s ∷ rest) all are left items =
            let same = some_is (r, size) (s, length (encoded l s))
            (next.first s (all_encoded l rest) are.0 (from_is bytes place ∙ left)) in
            let one : r ≡ s = ap (λ (n : Record × ℕ). n.0) same in
            let long : size ≡ length (encoded l s) = ap (λ (n : Record × ℕ). n.1) same in
            record {
              read = read ++ s ∷ [];
              rest = rest;
              all = all ∙ sym (append_assoc read (s ∷ []) rest);
              are = are.1;
              left = rw (← drop-drop size place bytes, left)
                  (drop_at (encoded l s) (all_encoded l rest) size (sym long));
              items = rw (items, one) (append_assoc old read (s ∷ []));
            }
