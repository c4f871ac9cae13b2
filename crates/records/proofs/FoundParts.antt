-- The parts that are found are those of a text.
use Rattle.std.proofs.Common.{◌≡◌, ◌≢◌, ◌⊎◌, ℕ, ◌≤◌, ◌<◌, ◌+◌, Bool, true, false, List, [], ◌∷◌}
use Rattle.std.proofs.Common.{◌++◌, length, take, drop, Ok, Err, refl, sym, ap, ◌∙◌, arith}
use Rattle.std.proofs.Common.{inl, inr, append_assoc, length-append}
use Rattle.std.specs.Prelude.{Result, MatchResult, bytes_eq}
use Rattle.std.proofs.lemmas.Slice.Eq.{bytes_eq-Decides}
use Rattle.records.specs.declared.fault.JournalFault.{JournalFault}
use Rattle.records.specs.declared.parts.Parts.{Parts}
use Rattle.records.specs.inner.Found.{IsFoundPart, IsFoundParts, ArePartsOf, Allows}
use Rattle.records.specs.inner.Parts.{IsOldPart, IsRun, IsParts, first_records, second_records}
use Rattle.records.specs.inner.Parts.{weights_in}
use Rattle.records.proofs.Apart.{header_size, old_header_size}
use Rattle.std.specs.List.{All}
use Rattle.std.proofs.lemmas.List.{append-nil, take_at, take-append-drop, length-drop, drop-drop}
use Rattle.std.proofs.lemmas.List.{nil_from_length, drop_more}
use Rattle.fed_types.specs.Sites.{AreWeights}
use Rattle.records.specs.declared.layout.Layout.{Layout}
use Rattle.records.specs.declared.layout.Layout.TheVariants.{First, Second}
use Rattle.records.specs.declared.owner.Owner.{Owner}
use Rattle.records.specs.declared.record.Record.{Record}
use Rattle.records.specs.Answers.{EndsAt, SaysRecords}
use Rattle.records.specs.Layout.{all_encoded, header_of, old_header, owner_bytes}
use Rattle.records.specs.Records.{AreRecords}
use Rattle.records.specs.Starts.{Start, Old, New, Carried, IsStart, layout_after, HasWeights}
use Rattle.records.specs.Starts.{text_bytes, records_of, is_current}
use Rattle.records.specs.Journals.{Reaches, IsEnd, HasEnd, IsHeaderPart, HasHeader, DecodesTo}
use Rattle.records.specs.Journals.{IsNew, NamesOwner, IsOfOwner, IsDamage, IsNoHeader}
use Rattle.records.specs.inner.Steps.{IsShort, IsHeaderAt, HasReadBoth}
use Rattle.records.proofs.Prefixes.{record_size}
use Rattle.records.specs.Numbers.{magic, old_magic}
use Rattle.records.specs.declared.fault.JournalFault.TheVariants as faults
use Rattle.records.specs.declared.headers.HeaderAt.TheVariants as headers
use Rattle.std.proofs.Math.Seq.{take-add}
use Rattle.records.proofs.Texts.{both_nil}
use Rattle.records.proofs.Apart.{header_weights}

-- ---- ends and damage

pub short_end : (owner : Owner) (start : Start) (x : List ℕ) → IsShort (layout_after start) x
    → IsEnd owner start x
short_end owner start x (inl none) = inl (nil_from_length x none)
short_end owner start x (inr torn) = inr (inl torn)

damaged_at : {owner : Owner} {bytes : List ℕ} {start : Start} {rs : List Record} (end : ℕ)
    → Reaches owner bytes start rs (drop end bytes) → end ≤ length bytes
    → IsDamage owner start (drop end bytes) → DecodesTo owner bytes (Err (faults.Damaged end))
unfolding DecodesTo
damaged_at {owner} {bytes} {start} {rs} end reaches le damage = inr (record {
  start = start;
  records = rs;
  rest = drop end bytes;
  reaches = reaches;
  damage = damage;
  place_is = omega (
    arith,
    ap length reaches.bytes_are,
    length-append (text_bytes owner start rs) (drop end bytes),
    length-drop end bytes,
  );
})

-- ---- a header of the second layout at a place

pub record HeaderHere (owner : Owner) (bytes : List ℕ) (at count : ℕ) : Type 0 where
  pub weights : List ℕ
  pub are : AreWeights weights
  pub said : take count (drop (at + 14) bytes) ≡ weights
  pub bytes_are : drop at bytes ≡ header_of owner weights ++ drop (at + 14 + count) bytes

pub header_here : (owner : Owner) (bytes : List ℕ) (at count : ℕ)
    → IsHeaderAt owner (drop at bytes) (headers.Whole count) → HeaderHere owner bytes at count
header_here owner bytes at count (ws, are, size, is) =
    let rest = drop (14 + count) (drop at bytes) in
    let behind : rest ≡ drop (at + 14 + count) bytes =
    drop-drop (14 + count) at bytes ∙ ap (λ (n : ℕ). drop n bytes) (omega arith) in
    record {
      weights = ws;
      are = are;
      said = rw (← drop-drop 14 at bytes, is, header_weights) (take_at ws rest count size);
      bytes_are = rw (← behind) is;
    }

-- ---- what is reached

module _ {owner : Owner} {bytes new : List ℕ} {count end : ℕ} {damaged : Bool}
    (h : HeaderHere owner bytes 0 count)
    (r : IsRun Second bytes (14 + count) new end damaged) where
  new_reaches : Reaches owner bytes (New h.weights) r.records (drop end bytes)
  new_reaches = record {
    is_start = h.are;
    are_records = r.are_records;
    bytes_are = rw (append_assoc, ← r.bytes_are) h.bytes_are;
  }

  pub new_parts : damaged ≡ false
      → IsParts owner bytes [] (take count (drop 14 bytes)) new end
  unfolding all_encoded
  new_parts none = record {
    start = New h.weights;
    records = r.records;
    reaches = new_reaches;
    ends = short_end owner (New h.weights) (drop end bytes) (rw none at r.follows);
    in_range = r.in_range;
    old_is = refl;
    weights_are = h.said;
    new_is = r.run_is;
  }

  pub new_damage : damaged ≡ true → DecodesTo owner bytes (Err (faults.Damaged end))
  new_damage bad = damaged_at end new_reaches r.in_range (rw bad at r.follows, tt)

module _ (owner : Owner) {bytes old : List ℕ} {mid : ℕ} {damaged : Bool}
    (front : bytes ≡ old_header owner ++ drop 13 bytes)
    (o : IsRun First bytes 13 old mid damaged) where
  old_reaches : Reaches owner bytes Old o.records (drop mid bytes)
  old_reaches = record {
    is_start = tt;
    are_records = o.are_records;
    bytes_are = rw (append_assoc, ← o.bytes_are) front;
  }

  old_by : IsEnd owner Old (drop mid bytes) → IsParts owner bytes old [] [] mid
  unfolding all_encoded
  old_by ends = record {
    start = Old;
    records = o.records;
    reaches = old_reaches;
    ends = ends;
    in_range = o.in_range;
    old_is = o.run_is;
    weights_are = refl;
    new_is = refl;
  }

  pub begun_parts : IsHeaderPart owner (drop mid bytes) → IsParts owner bytes old [] [] mid
  begun_parts part = old_by (inr (inr part))

  pub old_parts : damaged ≡ false → IsParts owner bytes old [] [] mid
  old_parts none = old_by (short_end owner Old (drop mid bytes) (rw none at o.follows))

  pub old_damage : damaged ≡ true → IsNoHeader owner Old (drop mid bytes)
      → DecodesTo owner bytes (Err (faults.Damaged mid))
  old_damage bad other = damaged_at mid old_reaches o.in_range (rw bad at o.follows, other)

  module _ {new : List ℕ} {count end : ℕ} {torn : Bool} (h : HeaderHere owner bytes mid count)
      (r : IsRun Second bytes (mid + 14 + count) new end torn) where
    carried_reaches : Reaches owner bytes (Carried o.records h.weights) r.records (drop end bytes)
    carried_reaches = record {
      is_start = (o.are_records, h.are);
      are_records = r.are_records;
      bytes_are = rw (append_assoc, append_assoc, ← r.bytes_are, ← h.bytes_are)
          old_reaches.bytes_are;
    }

    pub carried_parts : torn ≡ false
        → IsParts owner bytes old (take count (drop (mid + 14) bytes)) new end
    carried_parts none = record {
      start = Carried o.records h.weights;
      records = r.records;
      reaches = carried_reaches;
      ends = short_end owner (Carried o.records h.weights) (drop end bytes)
          (rw none at r.follows);
      in_range = r.in_range;
      old_is = o.run_is;
      weights_are = h.said;
      new_is = r.run_is;
    }

    pub carried_damage : torn ≡ true → DecodesTo owner bytes (Err (faults.Damaged end))
    carried_damage bad = damaged_at end carried_reaches r.in_range (rw bad at r.follows, tt)

-- ---- records read from their bytes

-- the records of both layouts, in order
pub in_order : (start : Start) (rs : List Record)
    → first_records start rs ++ second_records start rs ≡ records_of start rs
in_order Old rs = append-nil rs
in_order (New ws) rs = refl
in_order (Carried os ws) rs = refl

first_are : (start : Start) (rs : List Record) → IsStart start → AreRecords rs
    → AreRecords (first_records start rs) × AreRecords (second_records start rs)
first_are Old rs is are = (are, tt)
first_are (New ws) rs is are = (tt, are)
first_are (Carried os ws) rs is are = (is.0, are)

module _ {owner : Owner} {bytes old weights new : List ℕ} {end : ℕ}
    (p : IsParts owner bytes old weights new end) where
  pub all_read : (all : List Record) → HasReadBoth old new all → all ≡ records_of p.start p.records
  all_read all (none, mid, nil, first, second) =
      let are = first_are p.start p.records p.reaches.is_start p.reaches.are_records in
      let a = first (first_records p.start p.records) are.0 p.old_is in
      let b = second (second_records p.start p.records) are.1 p.new_is in
      rw (b, a, nil) (in_order p.start p.records)

  -- there are no records where there are no bytes of any
  pub no_bytes : length old ≡ 0 → length new ≡ 0 → records_of p.start p.records ≡ []
  unfolding all_encoded
  no_bytes a b =
      let f = none First (first_records p.start p.records) (rw p.old_is at a) in
      let s = none Second (second_records p.start p.records) (rw p.new_is at b) in
      rw (← in_order p.start p.records, f, s)
    where
      none : (l : Layout) (rs : List Record) → length (all_encoded l rs) ≡ 0 → rs ≡ []
      none l [] e = refl
      none l (r ∷ rs) e = absurd (omega (arith, record_size l r (all_encoded l rs)))

  pub some_bytes : (1 ≤ length old) ⊎ (1 ≤ length new) → records_of p.start p.records ≢ []
  unfolding all_encoded
  some_bytes h e =
      let both = both_nil (first_records p.start p.records) (second_records p.start p.records)
      (in_order p.start p.records ∙ e) in
      elim h [
        | inl some ↦ omega (arith, ap length (p.old_is ∙ ap (all_encoded First) both.0))
        | inr some ↦ omega (arith, ap length (p.new_is ∙ ap (all_encoded Second) both.1))
      ]

  abbrev parts_text : HasEnd owner bytes
  parts_text = record {
    start = p.start;
    records = p.records;
    end = drop end bytes;
    reaches = p.reaches;
    ends = p.ends;
  }

  -- what the parts say, by whether the weights are the owner's
  pub parts_say : (all : List Record) → all ≡ records_of p.start p.records
      → (all ≡ []) ⊎ HasWeights owner.members.weights p.start → DecodesTo owner bytes (Ok all)
  unfolding DecodesTo
  parts_say all is weights =
      inr (record { text = parts_text; all_are = is; weights = weights })

  pub parts_refuse : records_of p.start p.records ≢ []
      → ¬ HasWeights owner.members.weights p.start
      → DecodesTo owner bytes (Err faults.OtherWeights)
  unfolding DecodesTo
  parts_refuse some other = record { text = parts_text; some = some; weights = other }

  pub parts_end : (all : List Record) (current : Bool) → all ≡ records_of p.start p.records
      → HasWeights owner.members.weights p.start → is_current p.start ≡ current
      → EndsAt owner bytes all end current
  parts_end all current is has now = record {
    start = p.start;
    records = p.records;
    reaches = p.reaches;
    ends = p.ends;
    all_are = is;
    weights = has;
    in_range = p.in_range;
    current_is = now;
  }

-- the first 13 bytes, by their parts
pub old_whole : (owner : Owner) (bytes : List ℕ) → 13 ≤ length bytes
    → take 4 bytes ≡ old_magic → IsOfOwner owner bytes
    → bytes ≡ old_header owner ++ drop 13 bytes
unfolding old_header
old_whole owner bytes long m (f, s) =
    let last : take 1 (drop 8 (drop 4 bytes)) ≡ owner.site ∷ [] =
    rw (drop-drop 8 4 bytes, drop_more bytes 12 0 (omega arith), s) refl in
    let behind : take 9 (drop 4 bytes) ≡ owner_bytes owner =
    rw (take-add 8 1 (drop 4 bytes), last, f) refl in
    let first : take 13 bytes ≡ old_header owner = rw (take-add 4 9 bytes, m, behind) refl in
    sym (rw first at (take-append-drop {A = ℕ} 13 bytes))

-- no header at all
pub unnamed : (owner : Owner) (bytes : List ℕ) → ¬ IsNew owner bytes → ¬ NamesOwner bytes
    → DecodesTo owner bytes (Err (faults.Damaged 0))
unfolding DecodesTo
unnamed owner bytes new other = inl (refl, (new, inl other))

pub out_of_range : (owner : Owner) (bytes : List ℕ) → ¬ IsNew owner bytes
    → ¬ HasHeader owner bytes → take 4 bytes ≡ magic → IsOfOwner owner bytes
    → DecodesTo owner bytes (Err (faults.Damaged 0))
unfolding DecodesTo
out_of_range owner bytes new none m its = inl (refl, (new, inr (m, its, none)))

pub short_unnamed : (bytes : List ℕ) → length bytes < 13 → ¬ NamesOwner bytes
short_unnamed bytes short (inl n) = omega (arith, short, n.0)
short_unnamed bytes short (inr n) = omega (arith, short, n.0)

pub old_checked : (owner : Owner) (bytes : List ℕ) (result : Result (Unit {0}) JournalFault)
    → 13 ≤ length bytes → take 4 bytes ≡ old_magic
    → MatchResult result (λ u. IsOfOwner owner bytes) (λ f. DecodesTo owner bytes (Err f))
    → MatchResult result (λ u. bytes ≡ old_header owner ++ drop 13 bytes)
    (λ f. DecodesTo owner bytes (Err f))
unfolding DecodesTo
old_checked owner bytes (Ok u) long m its = old_whole owner bytes long m its
old_checked owner bytes (Err f) long m said = said

-- ---- a part of the header of the first layout

pub old_part : (owner : Owner) (bytes : List ℕ) → length bytes < 13
    → take (length bytes) (old_header owner) ≡ bytes → IsOldPart owner bytes
old_part owner bytes short e =
    let n = length bytes in
    let h = old_header owner in (
      drop n h,
      λ none. omega (arith, short, old_header_size owner, length-drop n h, ap length none),
      rw e at (take-append-drop {A = ℕ} n h),
    )

pub part_begins : (owner : Owner) (bytes : List ℕ) → IsOldPart owner bytes
    → take (length bytes) (old_header owner) ≡ bytes
part_begins owner bytes (rest, some, e) = rw (← e) (take_at bytes rest (length bytes) refl)

pub part_short : (owner : Owner) (bytes : List ℕ) → IsOldPart owner bytes → length bytes < 13
part_short owner bytes ([], some, e) = absurd (some refl)
part_short owner bytes (r ∷ rest, some, e) =
    omega (arith, length-append bytes (r ∷ rest), ap length e, old_header_size owner)

-- what the code compares
pub part_decided : (owner : Owner) (bytes header : List ℕ) (b : Bool) → length bytes < 13
    → header ≡ old_header owner → b ≡ bytes_eq (take (length bytes) header) bytes
    → (b ≡ true → IsOldPart owner bytes) × (IsOldPart owner bytes → b ≡ true)
part_decided owner bytes header b short is test =
    let d = bytes_eq-Decides (take (length bytes) header) bytes in (
      λ t. old_part owner bytes short (rw is at (d.0 (sym test ∙ t))),
      λ part. test ∙ d.1 (rw is (part_begins owner bytes part)),
    )

-- ---- what the parts after a header are

pub first_found : (owner : Owner) (bytes : List ℕ) (count : ℕ) (result : Result Parts JournalFault)
    → IsHeaderAt owner bytes (headers.Whole count) → IsFoundPart bytes [] 0 count result
    → IsFoundParts owner bytes result
first_found owner bytes count (Ok p) h (old, ws, run) =
    rw (old, ws) (new_parts (header_here owner bytes 0 count h) run refl)
first_found owner bytes count (Err (faults.Damaged place)) h (run, r) =
    new_damage (header_here owner bytes 0 count h) r refl
first_found owner bytes count (Err _) h never = absurd never

pub next_found : (owner : Owner) (bytes old : List ℕ) (mid count : ℕ) (damaged : Bool)
    (result : Result Parts JournalFault) → bytes ≡ old_header owner ++ drop 13 bytes
    → IsRun First bytes 13 old mid damaged
    → IsHeaderAt owner (drop mid bytes) (headers.Whole count)
    → IsFoundPart bytes old mid count result → IsFoundParts owner bytes result
next_found owner bytes old mid count damaged (Ok p) front o h (same, ws, run) =
    rw (same, ws) (carried_parts owner front o (header_here owner bytes mid count h) run refl)
next_found owner bytes old mid count damaged (Err (faults.Damaged place)) front o h (run, r) =
    carried_damage owner front o (header_here owner bytes mid count h) r refl
next_found owner bytes old mid count damaged (Err _) front o h never = absurd never

-- a whole header fits the bytes
pub whole_fits : (owner : Owner) (bytes : List ℕ) (count : ℕ)
    → IsHeaderAt owner bytes (headers.Whole count) → 14 + count ≤ length bytes
whole_fits owner bytes count (ws, are, size, is) =
    omega (
      arith,
      size,
      ap length is,
      length-append (header_of owner ws) (drop (14 + count) bytes),
      header_size owner ws,
    )

-- the parts without a header of the second layout, as the code has them
pub parts_are : {owner : Owner} {bytes old : List ℕ} {mid : ℕ} (p : Parts)
    → IsParts owner bytes old [] [] mid → (p.old.now ≡ old) × (p.end ≡ mid)
    → (p.weights.now ≡ []) × (p.new.now ≡ []) → ArePartsOf owner bytes p
parts_are p is a b = rw (a.0, b.0, b.1, a.1) is

pub old_long : (owner : Owner) (bytes : List ℕ) → bytes ≡ old_header owner ++ drop 13 bytes
    → 13 ≤ length bytes
old_long owner bytes is = omega (
  arith,
  ap length is,
  length-append (old_header owner) (drop 13 bytes),
  old_header_size owner,
)

pub at_start : (owner : Owner) (bytes : List ℕ) (mid count : ℕ)
    → mid ≤ length bytes → IsHeaderAt owner (drop mid bytes) (headers.Whole count)
    → mid + 14 + count ≤ length bytes
at_start owner bytes mid count le h = omega (
  arith,
  le,
  length-drop mid bytes,
  whole_fits owner (drop mid bytes) count h,
)

pub has_of : (owner : Owner) (bytes : List ℕ) (count : ℕ)
    → IsHeaderAt owner bytes (headers.Whole count) → HasHeader owner bytes
has_of owner bytes count (ws, are, size, is) = (ws, drop (14 + count) bytes, are, is)

-- ---- the weights

-- as the code tells them: none said are all 1
pub has_by : (owner : Owner) (start : Start) (weights : List ℕ) (b : Bool) → IsStart start
    → weights ≡ weights_in start
    → (length weights ≡ 0 → (b ≡ true → All (λ w. w ≡ 1) owner.members.weights)
    × (All (λ w. w ≡ 1) owner.members.weights → b ≡ true))
    → (1 ≤ length weights → (b ≡ true → weights ≡ owner.members.weights)
    × (weights ≡ owner.members.weights → b ≡ true))
    → (b ≡ true → HasWeights owner.members.weights start)
    × (HasWeights owner.members.weights start → b ≡ true)
has_by owner Old weights b is said none some = none (ap length said)
has_by owner (New ws) weights b is said none some =
    let s = some (omega (arith, ap length said, is.0.0)) in
    (λ t. sym said ∙ s.0 t, λ h. s.1 (said ∙ h))
has_by owner (Carried os ws) weights b is said none some =
    let s = some (omega (arith, ap length said, is.1.0.0)) in
    (λ t. sym said ∙ s.0 t, λ h. s.1 (said ∙ h))

-- what a reading of parts is
module _ {owner : Owner} {bytes : List ℕ} (p : Parts) (is : ArePartsOf owner bytes p)
    (all : List Record) (read : HasReadBoth p.old.now p.new.now all)
    (allowed : (records_of is.start is.records ≡ []) ⊎ HasWeights owner.members.weights is.start)
  where
    read_is : all ≡ records_of is.start is.records
    read_is = all_read is all read

    pub reading_says : DecodesTo owner bytes (Ok all)
    reading_says = parts_say is all read_is (rw (← read_is) at allowed)

    current_of : (start : Start) → IsStart start → (current : Bool)
        → (current ≡ true → 1 ≤ length (weights_in start))
        → (current ≡ false → length (weights_in start) ≡ 0) → is_current start ≡ current
    current_of Old h true there away = absurd (omega (arith, there refl))
    current_of Old h false there away = refl
    current_of (New ws) h true there away = refl
    current_of (New ws) h false there away = absurd (omega (arith, away refl, h.0.0))
    current_of (Carried os ws) h true there away = refl
    current_of (Carried os ws) h false there away = absurd (omega (arith, away refl, h.1.0.0))

    pub reading_end : (current : Bool) → (current ≡ true → 1 ≤ length p.weights.now)
        → (current ≡ false → length p.weights.now ≡ 0)
        → (all ≡ []) ⊎ EndsAt owner bytes all p.end current
    reading_end current there away = elim allowed [
      | inl empty ↦ inl (read_is ∙ empty)
      | inr has ↦ inr (parts_end is all current read_is has
          (current_of is.start is.reaches.is_start current (rw is.weights_are at there)
          (rw is.weights_are at away)))
    ]

pub says_some : {owner : Owner} {bytes : List ℕ} (p : Parts) (is : ArePartsOf owner bytes p)
    → (records_of is.start is.records ≡ []) ⊎ HasWeights owner.members.weights is.start
    → SaysRecords owner bytes
says_some p is allowed = (
  records_of is.start is.records,
  parts_say is (records_of is.start is.records) refl allowed,
)

-- without records the weights don't count
pub allowed_none : {owner : Owner} {bytes : List ℕ} (p : Parts) (is : ArePartsOf owner bytes p)
    → length p.old.now ≡ 0 → length p.new.now ≡ 0 → Allows owner bytes p is true
allowed_none p is a b = record { yes = λ t. inl (no_bytes is a b); not = λ f. absurd (cc f) }

pub allowed_some : {owner : Owner} {bytes : List ℕ} (p : Parts) (is : ArePartsOf owner bytes p)
    (b : Bool) → (1 ≤ length p.old.now) ⊎ (1 ≤ length p.new.now)
    → (length p.weights.now ≡ 0 → (b ≡ true → All (λ w. w ≡ 1) owner.members.weights)
    × (All (λ w. w ≡ 1) owner.members.weights → b ≡ true))
    → (1 ≤ length p.weights.now → (b ≡ true → p.weights.now ≡ owner.members.weights)
    × (p.weights.now ≡ owner.members.weights → b ≡ true))
    → Allows owner bytes p is b
allowed_some {owner} p is b some none has =
    let h = has_by owner is.start p.weights.now b is.reaches.is_start is.weights_are none has in
    record {
      yes = λ t. inr (h.0 t);
      not = λ f. (some_bytes is some, λ w. absurd (cc (f, h.1 w)));
    }
