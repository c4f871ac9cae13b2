-- Records are passed by their sizes.
use Rattle.std.proofs.Common.{◌≡◌, ℕ, ◌+◌, List, [], ◌∷◌, ◌++◌, length, drop, sym, ap}
use Rattle.std.proofs.Common.{◌∙◌, arith, inl, inr, append_assoc, length-append, Some, None}
use Rattle.std.proofs.lemmas.List.{append-nil, drop_at, drop-drop}
use Rattle.records.specs.declared.layout.Layout.{Layout}
use Rattle.records.specs.declared.owner.Owner.{Owner}
use Rattle.records.specs.declared.record.Record.{Record}
use Rattle.records.specs.Layout.{encoded, all_encoded, header_of}
use Rattle.records.specs.Records.{IsRecord, AreRecords}
use Rattle.records.specs.Starts.{Start, Old, layout_after}
use Rattle.records.specs.Journals.{length_field, IsTornRecord, IsTornHeader, IsHeaderPart, IsEnd}
use Rattle.records.proofs.Prefixes.{said_size, length_is, record_size}
use Rattle.records.proofs.Apart.{header_field}
use Rattle.ledger.specs.inner.Sizes.{Stops, IsSizeAt}

-- the records that are left at a place
pub record Left (l : Layout) (bytes : List ℕ) (records : List Record) (rest : List ℕ) (len : ℕ)
    : Type 0 where
  pub more : List Record
  pub are : AreRecords more
  pub bytes_are : drop len bytes ≡ all_encoded l more ++ rest
  pub sum : len + length (all_encoded l more) ≡ length (all_encoded l records)

-- a size is found exactly where a record comes next
no_size : (rest x : List ℕ) (size : ℕ) → Stops rest → x ≡ rest → IsSizeAt x (Some size) → ⊥
no_size rest x size (inl few) e h = omega (arith, few, ap length e, h.0)
no_size rest x size (inr (inl long)) e h = omega (arith, long, ap length_field e, h.1)
no_size rest x size (inr (inr few)) e h =
    omega (arith, few, ap length_field e, ap length e, h.2, h.3)

some_size : (l : Layout) (r : Record) (x bytes : List ℕ) → IsRecord r → bytes ≡ encoded l r ++ x
    → Stops bytes → ⊥
some_size l r x bytes is e (inl few) = omega (arith, few, ap length e, record_size l r x)
some_size l r x bytes is e (inr (inl long)) =
    omega (arith, long, ap length_field e, length_is l r x is, (said_size l r is).1)
some_size l r x bytes is e (inr (inr few)) =
    omega (arith, few, ap length e, record_size l r x, ap length_field e, length_is l r x is)

encoded_size : (l : Layout) (r : Record) (x : List ℕ) → IsRecord r
    → length (encoded l r) ≡ 2 + length_field (encoded l r ++ x)
encoded_size l r x is =
    omega (arith, record_size l r x, length-append (encoded l r) x, length_is l r x is)

pub left_next : (l : Layout) (bytes : List ℕ) (records : List Record) (rest : List ℕ) (len size : ℕ)
    → Stops rest → Left l bytes records rest len → IsSizeAt (drop len bytes) (Some size)
    → Left l bytes records rest (len + size)
unfolding all_encoded
left_next l bytes records rest len size stops h at = by h.more h.are h.bytes_are h.sum
  where
    by : (more : List Record) → AreRecords more → drop len bytes ≡ all_encoded l more ++ rest
        → len + length (all_encoded l more) ≡ length (all_encoded l records)
        → Left l bytes records rest (len + size)
    by [] are is sum = absurd (no_size rest (drop len bytes) size stops is at)
    by (r ∷ more) are is sum =
        let x = all_encoded l more ++ rest in
        let e : drop len bytes ≡ encoded l r ++ x = rw append_assoc at is in
        let long : length (encoded l r) ≡ size =
        rw (at.2, e) (encoded_size l r x are.0) in
        record {
          more = more;
          are = are.1;
          bytes_are = rw (← drop-drop size len bytes, e) (drop_at (encoded l r) x size long);
          sum = omega (arith, long, sum, length-append (encoded l r) (all_encoded l more));
        }

pub left_end : (l : Layout) (bytes : List ℕ) (records : List Record) (rest : List ℕ) (len : ℕ)
    → Left l bytes records rest len → IsSizeAt (drop len bytes) None
    → len ≡ length (all_encoded l records)
unfolding all_encoded
left_end l bytes records rest len h stops = by h.more h.are h.bytes_are h.sum
  where
    by : (more : List Record) → AreRecords more → drop len bytes ≡ all_encoded l more ++ rest
        → len + length (all_encoded l more) ≡ length (all_encoded l records)
        → len ≡ length (all_encoded l records)
    by [] are is sum = omega (arith, sum)
    by (r ∷ more) are is sum =
        absurd (some_size l r (all_encoded l more ++ rest) (drop len bytes) are.0
        (rw append_assoc at is) stops)

-- ---- what no record is

torn_stops : (l : Layout) (x : List ℕ) → IsTornRecord l x → Stops x
torn_stops l x (inl one) = inl (omega (arith, one))
torn_stops l x (inr torn) = inr (inr torn.2)

pub header_stops : (owner : Owner) (ws x : List ℕ) → Stops (header_of owner ws ++ x)
header_stops owner ws x = inr (inl (omega (arith, header_field owner ws x)))

-- a part of a header has fewer bytes than its first two would say of a record
part_stops : (owner : Owner) (x : List ℕ) → IsHeaderPart owner x → Stops x
part_stops owner [] (ws, rest, are, some, is) = inl (omega arith)
part_stops owner (a ∷ []) (ws, rest, are, some, is) = inl (omega arith)
part_stops owner (a ∷ b ∷ x) (ws, rest, are, some, is) =
    let field : length_field (a ∷ b ∷ x) ≡ 16976 = ap length_field (is
    ∙ sym (append-nil (header_of owner ws))) ∙ header_field owner ws [] in
    inr (inl (omega (arith, field)))

torn_header_stops : (owner : Owner) (start : Start) (x : List ℕ) → IsTornHeader owner start x
    → Stops x
torn_header_stops owner Old x h = part_stops owner x h
torn_header_stops owner _ x h = absurd h

pub end_stops : (owner : Owner) (start : Start) (x : List ℕ) → IsEnd owner start x → Stops x
end_stops owner start x (inl none) = inl (omega (arith, ap length none))
end_stops owner start x (inr (inl torn)) = torn_stops (layout_after start) x torn
end_stops owner start x (inr (inr part)) = torn_header_stops owner start x part
