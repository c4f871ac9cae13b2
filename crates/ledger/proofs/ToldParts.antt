-- What a cell says, piece by piece.
use Rattle.std.proofs.Common.{◌≡◌, ◌⊎◌, ℕ, ◌+◌, ◌-◌, ◌≤◌, List, [], ◌++◌, length, take, drop}
use Rattle.std.proofs.Common.{Option, None, Some, Bool, true, false, refl, sym, ap, ◌∙◌}
use Rattle.std.proofs.Common.{arith, inl, inr, append_assoc, length-append, ◌≢◌}
use Rattle.std.specs.Int.{w16, from_be_bytes}
use Rattle.std.specs.Option.{option_or}
use Rattle.std.specs.Prelude.{IfOk, Result, Ok, Err}
use Rattle.std.specs.declared.alloc.AllocError.{AllocError}
use Rattle.std.proofs.lemmas.List.{append-nil, drop_at, take-append-le}
use Rattle.records.specs.declared.layout.Layout.{Layout}
use Rattle.records.specs.declared.layout.Layout.TheVariants.{Second}
use Rattle.records.specs.declared.more_records.MoreRecords.{MoreRecords}
use Rattle.records.specs.declared.owner.Owner.{Owner}
use Rattle.records.specs.declared.record.Record.{Record}
use Rattle.records.specs.Layout.{all_encoded, encoded}
use Rattle.records.specs.More.{BeginsWith}
use Rattle.records.specs.Records.{AreRecords, IsRecord}
use Rattle.records.specs.Starts.{Start, Old, layout_after, records_in}
use Rattle.records.specs.Starts.{records_of, start_bytes, text_bytes}
use Rattle.records.specs.Journals.{length_field, Reaches, IsNoRecord, IsNoHeader}
use Rattle.records.specs.Journals.{IsRecordLength}
use Rattle.ledger.specs.declared.contents.Contents.{Contents}
use Rattle.ledger.specs.declared.ending.Ending.{Ending}
use Rattle.ledger.specs.declared.ending.Ending.TheVariants.{Whole, Torn, Damaged}
use Rattle.ledger.specs.declared.part.Head.{Head}
use Rattle.ledger.specs.declared.part.LastPart.{LastPart}
use Rattle.ledger.specs.declared.part.Part.{Part}
use Rattle.ledger.specs.declared.steps.Kept.{Kept}
use Rattle.ledger.specs.Cells.{NamesWeights, EndsWith, Said, IsSaid, said_in, IsCell}
use Rattle.ledger.specs.Parts.{Told, nothing, and_part, told_of, Fits, IsTold, HasToldBy, IsDamaged}
use Rattle.ledger.specs.Parts.{IsEmpty, TellsLast}
use Rattle.ledger.specs.inner.Steps.{ending_by, ending_after, text_end, IsPartOf, IsNextPart}
use Rattle.ledger.specs.inner.Steps.{IsLastPart, KeepsFirst, KeepsNext}
use Rattle.records.proofs.Texts.{both_encoded, both_records}
use Rattle.records.proofs.FoundParts.{short_end}
use Rattle.ledger.proofs.CellContents.{ends_with}

-- ---- records after records

-- a text goes on with records of its layout
more_reached : (owner : Owner) (taken : List ℕ) (start : Start) (rs more : List Record)
    (left rest : List ℕ) → Reaches owner taken start rs left → AreRecords more
    → left ≡ all_encoded (layout_after start) more ++ rest
    → Reaches owner taken start (rs ++ more) rest
more_reached owner taken start rs more left rest r are is =
    let l = layout_after start in
    let s = start_bytes owner start in record {
      is_start = r.is_start;
      are_records = both_records rs more r.are_records are;
      bytes_are = rw (
        both_encoded l rs more,
        append_assoc,
        append_assoc,
        ← is,
        ← append_assoc s (all_encoded l rs) left,
      ) r.bytes_are;
    }

-- and with any bytes after its rest
pub longer_reached : (owner : Owner) (taken : List ℕ) (start : Start) (rs : List Record)
    (rest piece : List ℕ) → Reaches owner taken start rs rest
    → Reaches owner (taken ++ piece) start rs (rest ++ piece)
longer_reached owner taken start rs rest piece r = record {
  is_start = r.is_start;
  are_records = r.are_records;
  bytes_are = rw (r.bytes_are, append_assoc);
}

-- ---- a start that names the weights

named_layout : (start : Start) (ws : List ℕ) → NamesWeights start ws true
    → layout_after start ≡ Second
named_layout Old ws h = absurd (cc h.1)
named_layout _ ws h = refl

named_no_header : (owner : Owner) (start : Start) (ws rest : List ℕ) → NamesWeights start ws true
    → IsNoHeader owner start rest
named_no_header owner Old ws rest h = absurd (cc h.1)
named_no_header owner _ ws rest h = tt

-- ---- how it ends

-- what is no record isn't one with more bytes after it
no_record_longer : (l : Layout) (bytes more : List ℕ) → IsNoRecord l bytes
    → IsNoRecord l (bytes ++ more)
no_record_longer l bytes more (two, why) = (long, by why)
  where
    long : 2 ≤ length (bytes ++ more)
    long = omega (arith, two, length-append bytes more)

    field : length_field (bytes ++ more) ≡ length_field bytes
    field = ap (from_be_bytes w16) (take-append-le 2 bytes more two)

    by : ¬ IsRecordLength l (length_field bytes)
        ⊎ ((2 + length_field bytes ≤ length bytes)
        × ((r : Record) → IsRecord r → take (2 + length_field bytes) bytes ≢ encoded l r))
        → ¬ IsRecordLength l (length_field (bytes ++ more))
        ⊎ ((2 + length_field (bytes ++ more) ≤ length (bytes ++ more))
        × ((r : Record) → IsRecord r
        → take (2 + length_field (bytes ++ more)) (bytes ++ more) ≢ encoded l r))
    by (inl other) = inl (rw field other)
    by (inr fits) = inr (
      omega (arith, fits.0, field, length-append bytes more),
      λ r is e. fits.1 r is
          (rw (field, take-append-le (2 + length_field bytes) bytes more fits.0) at e),
    )

damage : (owner : Owner) (bytes : List ℕ) (start : Start) (ws rest : List ℕ) (place : ℕ)
    → NamesWeights start ws true → IsNoRecord Second rest → place + length rest ≡ length bytes
    → EndsWith owner bytes start rest (Damaged place)
damage owner bytes start ws rest place h none is =
    ((rw (named_layout start ws h) none, named_no_header owner start ws rest h), is)

-- ---- what was told

some_is : {n m : ℕ} → ◌≡◌ {A = Option ℕ} (Some n) (Some m) → n ≡ m
some_is e = cc e

told_is : (a b : Told) → a.head ≡ b.head → a.records ≡ b.records → a ≡ b
told_is a b head records = λ i. record { head = head i; records = records i }

-- a part that says nothing
pub told_nothing : (told : Told) (part : Part) → IsEmpty part → and_part told part ≡ told
told_nothing told part empty = told_is (and_part told part) told (heads told.head)
    (rw (empty.1, append-nil))
  where
    heads : (h : Option Head) → option_or h part.head ≡ h
    heads None = empty.0
    heads (Some head) = refl

-- ---- more records after what was told

module _ (owner : Owner) (passed : ℕ) (kept taken : List ℕ) (told : Told)
    (given : IsTold owner passed kept taken told) (more : MoreRecords)
    (is : BeginsWith kept more) where
  second : layout_after given.start ≡ Second
  second = named_layout given.start owner.members.weights given.weights_are

  abbrev all : List Record
  all = given.records ++ more.records.items

  reached : Reaches owner taken given.start all is.rest
  reached = more_reached owner taken given.start given.records more.records.items kept
      is.rest given.reaches is.are_records (rw second is.bytes_are)

  -- the place in the cell where they end
  place : passed + more.end + length is.rest ≡ length taken
  place = omega (arith, given.passed_is, is.end_is)

  left : drop more.end kept ≡ is.rest
  left =
      let front = all_encoded Second more.records.items in
      ap (drop more.end) is.bytes_are
      ∙ drop_at front is.rest more.end (omega (
        arith,
        is.end_is,
        ap length is.bytes_are,
        length-append front is.rest,
      ))

  records_are : records_of given.start all
      ≡ records_of given.start given.records ++ more.records.items
  records_are = sym (append_assoc (records_in given.start) given.records more.records.items)

  -- after them
  head_after : (part : Part) → (and_part told part).head
      ≡ Some (record { owner = owner; names_weights = true })
  head_after part = rw given.head_is

  records_after : (part : Part) → IsNextPart more part
      → (and_part told part).records ≡ records_of given.start all
  records_after part next = rw (given.told_is, next.1) (sym records_are)

  pub told_more : (it : Kept)
      → KeepsNext owner more (passed + more.end) (drop more.end kept) it
      → Fits told it.part × IsTold it.owner it.passed it.bytes.items taken (and_part told it.part)
  told_more it k = (
    inr k.0.0,
    rw (k.1.owner_is, k.1.bytes_are, left) (record {
      start = given.start;
      records = all;
      owner_is = given.owner_is;
      reaches = reached;
      weights_are = given.weights_are;
      passed_is = rw k.1.passed_is place;
      head_is = head_after it.part;
      told_is = records_after it.part k.0;
    }),
  )

  -- ---- where the cell ends after it

  abbrev said : Ending → Said
  said ending = record {
    owner = owner;
    names_weights = true;
    records = records_of given.start all;
    ending = ending;
  }

  is_said : (later : List ℕ) (ending : Ending)
      → EndsWith owner (taken ++ later) given.start (is.rest ++ later) ending
      → IsSaid (taken ++ later) (said ending)
  is_said later ending ends = record {
    start = given.start;
    records = all;
    rest = is.rest ++ later;
    owner_is = given.owner_is;
    reaches = longer_reached owner taken given.start all is.rest later reached;
    records_are = refl;
    weights_are = given.weights_are;
    ends = ends;
  }

  whole : (later : List ℕ) (last : LastPart)
      → EndsWith owner (taken ++ later) given.start (is.rest ++ later) last.ending
      → IsNextPart more last.part → TellsLast (taken ++ later) told last
  whole later last ends it = (
    inr it.0,
    inl (
      said last.ending,
      is_said later last.ending ends,
      refl,
      told_is (and_part told last.part) (told_of (said last.ending)) (head_after last.part)
          (records_after last.part it),
    ),
  )

  damaged_longer : (later : List ℕ) → more.is_damaged ≡ true
      → EndsWith owner (taken ++ later) given.start (is.rest ++ later)
      (Damaged (passed + more.end))
  damaged_longer later damaged =
      damage owner (taken ++ later) given.start owner.members.weights (is.rest ++ later)
      (passed + more.end) given.weights_are
      (no_record_longer Second is.rest later
      (simp damaged at is.follows))
      (omega (arith, place, length-append is.rest later, length-append taken later))

  -- damage is the last part, whatever follows
  pub damaged_part : (last : LastPart) → more.is_damaged ≡ true
      → IsLastPart more (ending_after passed more (length kept)) last
      → IsDamaged last.ending × ((later : List ℕ) → TellsLast (taken ++ later) told last)
  damaged_part last damaged end =
      let at : last.ending ≡ Damaged (passed + more.end) = rw damaged at end.1 in (
        (passed + more.end, at),
        λ later. whole later last (rw at (damaged_longer later damaged)) end.0,
      )

  ends_by : (b : Bool) → more.is_damaged ≡ b
      → EndsWith owner taken given.start is.rest
      (ending_by b (passed + more.end) (length kept - more.end))
  ends_by true damaged = simp append-nil at (damaged_longer [] damaged)
  ends_by false short =
      let left : length is.rest ≡ length kept - more.end = omega (arith, is.end_is) in
      rw (← left)
      (ends_with owner taken given.start is.rest
      (short_end owner given.start is.rest (rw second (simp short at is.follows))))

  -- the last part, where nothing follows
  pub last_told : (last : LastPart)
      → IsLastPart more (ending_after passed more (length kept)) last
      → TellsLast taken told last
  last_told last end =
      simp append-nil at
      (whole [] last (rw (append-nil, append-nil, end.1) (ends_by more.is_damaged refl)) end.0)

-- ---- the first bytes

module _ (bytes : List ℕ) (contents : Contents) (is : IsCell bytes contents)
    (named : contents.names_weights ≡ true) where
  names : NamesWeights is.start contents.owner.members.weights true
  names = rw named at is.weights_are

  damaged_by : (ending : Ending) → EndsWith contents.owner bytes is.start is.rest ending
      → text_end ending (length bytes) ≡ None → (more : List ℕ)
      → EndsWith contents.owner (bytes ++ more) is.start (is.rest ++ more) ending
  damaged_by (Damaged place) h e more =
      damage contents.owner (bytes ++ more) is.start contents.owner.members.weights
      (is.rest ++ more) place names
      (no_record_longer Second is.rest more
      (rw (named_layout is.start contents.owner.members.weights names) at h.0.0))
      (omega (arith, h.1, length-append is.rest more, length-append bytes more))
  damaged_by _ h e more = absurd (cc e)

  longer_first : text_end contents.ending (length bytes) ≡ None → (last : LastPart)
      → IsPartOf contents last.part × (last.ending ≡ contents.ending) → (more : List ℕ)
      → TellsLast (bytes ++ more) nothing last
  longer_first e last it more = (
    inl refl,
    inl (
      said_in contents,
      record {
        start = is.start;
        records = is.records;
        rest = is.rest ++ more;
        owner_is = is.owner_is;
        reaches = longer_reached contents.owner bytes is.start is.records is.rest more
            is.reaches;
        records_are = is.records_are;
        weights_are = is.weights_are;
        ends = damaged_by contents.ending is.ends e more;
      },
      sym it.1,
      told_is (and_part nothing last.part) (told_of (said_in contents)) it.0.0 it.0.1,
    ),
  )

  is_damaged : (ending : Ending) → text_end ending (length bytes) ≡ None → IsDamaged ending
  is_damaged (Damaged place) e = (place, refl)
  is_damaged _ e = absurd (cc e)

  -- damage that the first bytes have, whatever follows
  pub damaged_first : text_end contents.ending (length bytes) ≡ None → (last : LastPart)
      → IsPartOf contents last.part × (last.ending ≡ contents.ending)
      → IsDamaged last.ending × ((more : List ℕ) → TellsLast (bytes ++ more) nothing last)
  damaged_first e last it =
      (rw it.1 (is_damaged contents.ending e), longer_first e last it)

  -- where its headers and records end
  end_at : (ending : Ending) (end : ℕ)
      → EndsWith contents.owner bytes is.start is.rest ending
      → text_end ending (length bytes) ≡ Some end → end + length is.rest ≡ length bytes
  end_at Whole end h e =
      omega (arith, some_is e, ap length h)
  end_at (Torn count) end h e =
      omega (
        arith,
        some_is e,
        h.2,
        ap length is.reaches.bytes_are,
        length-append (text_bytes contents.owner is.start is.records) is.rest,
      )
  end_at (Damaged place) end h e = absurd (cc e)

  -- the first part of a cell that isn't damaged
  pub begun : (end : ℕ) → text_end contents.ending (length bytes) ≡ Some end → (it : Kept)
      → KeepsFirst contents end (drop end bytes) it
      → Fits nothing it.part
      × IsTold it.owner it.passed it.bytes.items bytes (and_part nothing it.part)
  begun end e it k = (
    inl refl,
    rw (k.1.owner_is, k.1.bytes_are, left_over) (record {
      start = is.start;
      records = is.records;
      owner_is = is.owner_is;
      reaches = is.reaches;
      weights_are = names;
      passed_is = rw k.1.passed_is (end_at contents.ending end is.ends e);
      head_is = rw named at k.0.0;
      told_is = k.0.1 ∙ is.records_are;
    }),
  )
    where
      front : List ℕ
      front = text_bytes contents.owner is.start is.records

      left_over : drop end bytes ≡ is.rest
      left_over =
          ap (drop end) is.reaches.bytes_are
          ∙ drop_at front is.rest end (omega (
            arith,
            end_at contents.ending end is.ends e,
            ap length is.reaches.bytes_are,
            length-append front is.rest,
          ))

-- ---- between pieces

-- with more bytes the same was told
pub told_longer : (o : Option Owner) (passed : ℕ) (kept taken : List ℕ) (told : Told)
    (piece : List ℕ) → HasToldBy o passed kept taken told
    → HasToldBy o passed (kept ++ piece) (taken ++ piece) told
told_longer None passed kept taken told piece h = (rw h.0, h.1)
told_longer (Some owner) passed kept taken told piece h = record {
  start = h.start;
  records = h.records;
  owner_is = h.owner_is;
  reaches = longer_reached owner taken h.start h.records kept piece h.reaches;
  weights_are = h.weights_are;
  passed_is = omega (arith, h.passed_is, length-append kept piece, length-append taken piece);
  head_is = h.head_is;
  told_is = h.told_is;
}

-- ---- what the steps answer

pub lasts : (owner : Owner) (passed : ℕ) (kept : List ℕ) (more : MoreRecords)
    → BeginsWith kept more → (result : Result LastPart AllocError)
    → IfOk result (IsLastPart more (ending_after passed more (length kept)))
    → IfOk result (λ last. (taken : List ℕ) (told : Told)
    → IsTold owner passed kept taken told → TellsLast taken told last)
lasts owner passed kept more is (Err e) h = tt
lasts owner passed kept more is (Ok last) h = λ taken told given.
    last_told owner passed kept taken told given more is last h

-- of a cell of which nothing was told
module _ (o : Option Owner) (passed : ℕ) (bytes : List ℕ) (none : o ≡ None) where
  nothing_told : (taken : List ℕ) (told : Told) → HasToldBy o passed bytes taken told
      → (bytes ≡ taken) × (told ≡ nothing)
  nothing_told taken told given = rw none at given

  -- what is so of all bytes is so of what is told
  pub from_all : {X : Type 0} (P : List ℕ → Told → X → Type 0) (result : Result X AllocError)
      → IfOk result (P bytes nothing)
      → IfOk result (λ x. (taken : List ℕ) (told : Told)
      → HasToldBy o passed bytes taken told → P taken told x)
  from_all P (Err e) h = tt
  from_all P (Ok x) h = λ taken told given.
      let none = nothing_told taken told given in rw (← none.0, none.1) h
