-- The records that the first bytes of a text say are the first of its records.
use Rattle.std.proofs.Common.{◌≡◌, ◌≤◌, ℕ, List, [], ◌∷◌, ◌++◌, length, take, drop, Ok, refl, sym}
use Rattle.std.proofs.Common.{ap, ◌∙◌, inl, inr, append_assoc, append-nil}
use Rattle.std.proofs.lemmas.List.{take-append-drop, take-append-le}
use Rattle.cell_device.specs.Images.{Image, Leaves, at_rest}
use Rattle.records.specs.declared.layout.Layout.{Layout}
use Rattle.records.specs.declared.layout.Layout.TheVariants.{First, Second}
use Rattle.records.specs.declared.owner.Owner.{Owner}
use Rattle.records.specs.declared.record.Record.{Record}
use Rattle.records.specs.Layout.{all_encoded, old_header, record_bytes}
use Rattle.records.specs.Records.{AreRecords}
use Rattle.records.specs.Starts.{Start, Old, New, Carried, IsCurrent, records_of}
use Rattle.records.specs.Journals.{DecodesTo, Reaches}
use Rattle.records.specs.Texts.{IsTextOf}
use Rattle.records.proofs.Prefixes.{BeginsWithNone, none_of_nothing, same_record, same_records}
use Rattle.records.proofs.Apart.{same_weights, none_of_header}
use Rattle.records.proofs.OneReading.{same_records_said}
use Rattle.records.proofs.Texts.{old_or_new}
use Rattle.ledger.proofs.ToldParts.{longer_reached}
use Rattle.book.specs.Batches.{IsInUseBy, with_records, all_bytes}
use Rattle.book.proofs.AtRest.{keeps_appended}
use Rattle.book.proofs.Prefixes.{prefix_left}

-- these are the first of those
abbrev Begins : (first all : List Record) → Type 0
Begins first all = (more : List Record) × (all ≡ first ++ more)

-- after records of a layout there is none; others that come before more bytes are the first of them
first_records : (l : Layout) (all first : List Record) (x y : List ℕ) → AreRecords all
    → AreRecords first → BeginsWithNone l x
    → all_encoded l all ++ x ≡ all_encoded l first ++ y → Begins first all
unfolding all_encoded
first_records l all [] x y are some none e = (all, refl)
first_records l [] (s ∷ first) x y are some none e =
    absurd (none s (all_encoded l first ++ y) some.0 (simp append_assoc at e))
first_records l (r ∷ all) (s ∷ first) x y are some none e =
    let one = same_record l l r s (all_encoded l all ++ x) (all_encoded l first ++ y) are.0 some.0
    (simp append_assoc at e) in
    let rest = first_records l all first x y are.1 some.1 none one.2 in
    (rest.0, cc (one.1, rest.1))

module _ (owner : Owner) where
  after_old : (x y : List ℕ) → old_header owner ++ x ≡ old_header owner ++ y → x ≡ y
  unfolding old_header
  after_old x y e = ap (drop 13) e

  -- a whole text, and a start and records with which the same bytes begin
  first_of : (s t : Start) (ws bytes : List ℕ) (all first : List Record) (y : List ℕ)
      → IsCurrent ws s → Reaches owner bytes s all [] → Reaches owner bytes t first y
      → Begins (records_of t first) (records_of s all)
  first_of Old t ws bytes all first y current whole part = absurd current
  first_of (New vs) (New us) ws bytes all first y current whole part =
      let e = simp append_assoc at (sym whole.bytes_are ∙ part.bytes_are) in
      first_records Second all first [] y whole.are_records part.are_records
      (none_of_nothing Second) (same_weights owner vs us _ _ e).1
  first_of (New vs) _ ws bytes all first y current whole part =
      let e = simp append_assoc at (sym part.bytes_are ∙ whole.bytes_are) in
      absurd (old_or_new owner vs _ _ e)
  first_of (Carried os vs) Old ws bytes all first y current whole part =
      let e = simp append_assoc at (sym whole.bytes_are ∙ part.bytes_are) in
      let begun = first_records First os first _ y whole.is_start.0 part.are_records
      (none_of_header First owner vs _) (after_old _ _ e) in
      (begun.0 ++ all, cc (begun.1, append_assoc first begun.0 all))
  first_of (Carried os vs) (New us) ws bytes all first y current whole part =
      let e = simp append_assoc at (sym whole.bytes_are ∙ part.bytes_are) in
      absurd (old_or_new owner us _ _ e)
  first_of (Carried os vs) (Carried ps us) ws bytes all first y current whole part =
      let e = simp append_assoc at (sym whole.bytes_are ∙ part.bytes_are) in
      let old = same_records First os ps _ _ whole.is_start.0 part.is_start.0
      (none_of_header First owner vs _) (none_of_header First owner us _)
      (after_old _ _ e) in
      let begun = first_records Second all first [] y whole.are_records part.are_records
      (none_of_nothing Second) (same_weights owner vs us _ _ old.1).1 in
      (begun.0, cc (old.0, begun.1, append_assoc ps first begun.0))

  -- a text, and what its first bytes say
  first_bytes : (records : List Record) (text : List ℕ) (k : ℕ) (found : List Record)
      → IsTextOf owner records text → DecodesTo owner (take k text) (Ok found)
      → Begins found records
  unfolding IsTextOf DecodesTo
  first_bytes records text k found is (inl (none, new)) = (records, rw none)
  first_bytes records text k found is (inr said) =
      let its = said.text in
      let whole : Reaches owner text is.start is.records [] =
      record {
        is_start = is.is_start;
        are_records = is.are_records;
        bytes_are = rw append-nil is.bytes_are;
      } in
      let part = longer_reached owner (take k text) its.start its.records its.end (drop k text)
      its.reaches in
      rw (is.all_are, said.all_are)
      (first_of is.start its.start owner.members.weights text is.records its.records
      (its.end ++ drop k text) is.current whole (rw take-append-drop at part))

-- ---- a cell in use

-- after appends with no sync between them
appended : (synced bytes : List ℕ) (new : List Record)
    → with_records new (record { synced = synced; newest = bytes; seen = bytes })
    ≡ record { synced = synced; newest = bytes ++ all_bytes new; seen = bytes ++ all_bytes new }
unfolding with_records
appended synced bytes [] = rw append-nil
appended synced bytes (r ∷ rs) = rw (appended synced (bytes ++ record_bytes r) rs, append_assoc)

-- the first synced bytes are those of the text
first_synced : (k : ℕ) (text seen : List ℕ) (new : List Record)
    → k ≤ length (with_records new (at_rest text)).synced
    → Leaves (with_records new (at_rest text)) seen → take k seen ≡ take k text
first_synced k text seen new within (j, is) =
    let short : k ≤ length text = rw (appended text text new) at within in
    rw (is, appended text text new, keeps_appended, take-append-le)

pub synced_first : (n k : ℕ) (owner : Owner) (i : Image) (seen left : List ℕ)
    (found kept : List Record) → IsInUseBy n owner i → k ≤ length i.synced → Leaves i seen
    → Leaves i left → DecodesTo owner (take k seen) (Ok found) → DecodesTo owner left (Ok kept)
    → (others : List Record) × (kept ≡ found ++ others)
synced_first n k owner i seen left found kept (records, text, new, is, fine, few, image) within a b
    says keeps_them =
    let first = first_synced k text seen new (rw image at within) (rw image at a) in
    let begun = first_bytes owner records text k found is (rw first at says) in
    let other = prefix_left owner records new text left is fine (rw image at b) in
    let rest = take other.0 new in
    let all = same_records_said owner kept (records ++ rest) left keeps_them other.1 in
    (begun.0 ++ rest, cc (all, begun.1, append_assoc found begun.0 rest))
