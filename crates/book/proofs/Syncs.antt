-- What a sync of the records of a batch answers and leaves, by how far it came.
use Rattle.std.proofs.Common.{◌≡◌, ◌≢◌, ℕ, false, List, [], ◌++◌, take, drop, Option, Some, None}
use Rattle.std.proofs.Common.{Result, Ok, Err, refl, sym, ap, ◌∙◌, Bool, true, eqb, ◌-◌}
use Rattle.std.proofs.Common.{◌∷◌, length}
use Rattle.std.proofs.lemmas.Bool.{eqb-true, eqb-false}
use Rattle.std.proofs.Math.Nat.{le_refl}
use Rattle.std.proofs.lemmas.List.{append-nil, take-append-drop, length-drop}
use Rattle.std.proofs.Math.Seq.{take-length}
use Rattle.std.specs.Prelude.{IsErrOf}
use Rattle.std.specs.Result.{IsErrAnd}
use Rattle.cell_device.specs.declared.fault.CellFault.{CellFault}
use Rattle.cell_device.specs.declared.fault.CellFault.TheVariants.{Device, Memory}
use Rattle.cell_device.specs.declared.fuse.FuseState.{FuseState}
use Rattle.cell_device.specs.declared.fuse.FuseState.TheVariants.{Clear, Burning, Stopped}
use Rattle.cell_device.specs.Calls.{HasCause}
use Rattle.cell_device.specs.Devices as devices
use Rattle.cell_device.specs.Images.{Image, MayLeave, IfKnown, AllowsAppend}
use Rattle.cell_device.specs.States.{CellState, IsIn, state_of}
use Rattle.cell_device.specs.Time.{LeavesOnly}
use Rattle.records.specs.declared.owner.Owner.{Owner}
use Rattle.records.specs.declared.record.Record.{Record}
use Rattle.records.specs.Journals.{DecodesTo}
use Rattle.records.specs.Records.{AreRecords}
use Rattle.records.specs.Texts.{IsTextOf}
use Rattle.records.proofs.Texts.{text_says}
use Rattle.book.specs.declared.fault.CommitFault.{CommitFault}
use Rattle.book.specs.declared.fault.CommitFault.TheVariants as commits
use Rattle.book.specs.Batches.{Syncs, SaysFirst, all_bytes, sync_outcome, read_after_firing}
use Rattle.book.specs.Batches.{after_syncing}
use Rattle.book.specs.Committed.{CameOut}
use Rattle.book.specs.Faults.{commit_fault}
use Rattle.book.specs.OpenBooks.{HoldsText, ReadSays}
use Rattle.book.specs.inner.Appended.{AppendCameOut, append_outcome, after_appending, book_of}
use Rattle.book.specs.inner.Appended.{bytes_kept, has_failed}
use Rattle.book.specs.inner.Sound.{RestsAt, seen_of}
use Rattle.book.specs.inner.Synced.{records_after}
use Rattle.book.proofs.AtRest.{rest_leaves}
use Rattle.book.proofs.Commits.{leaves_text, recovers, rests, holds}
use Rattle.book.proofs.Moments.{started, weaker}
use Rattle.book.proofs.Prefixes.{texts_longer, texts_atomic, says_first}
use Rattle.book.proofs.Commits.{device_failed, found_no_memory, failed_too}
use Rattle.std.proofs.lemmas.List.{nil_from_length}

-- ---- the records after the first so many, as the code takes them

abbrev after : List Record → ℕ → List Record
after all n = take (length all - n) (drop n all)

pub after_is : (all : List Record) (n : ℕ) → after all n ≡ drop n all
after_is all n = rw (← length-drop n all) (take-length (drop n all))

some_of : (xs : List Record) → eqb (length xs) 0 ≡ false → xs ≢ []
some_of [] e = absurd (eqb-false (length {A = Record} []) 0 e refl)
some_of (x ∷ xs) e = λ is. cc is

pub is_none : (all : List Record) (n : ℕ) (empty : Bool) → empty ≡ eqb (length (after all n)) 0
    → empty ≡ true → drop n all ≡ []
is_none all n empty is e =
    sym (after_is all n) ∙ nil_from_length (after all n) (eqb-true _ _ (sym is ∙ e))

pub is_some : (all : List Record) (n : ℕ) (empty : Bool) → empty ≡ eqb (length (after all n)) 0
    → empty ≡ false → drop n all ≢ []
is_some all n empty is e = λ none. some_of (after all n) (sym is ∙ e) (after_is all n ∙ none)

-- ---- a text, and what is after it

-- a cell that holds a text takes an append
pub allows : (owner : Owner) (records : List Record) (image : Option Image)
    → HoldsText owner records image → AllowsAppend image
allows owner records None held = tt
allows owner records (Some i) held =
    let is = held.1 in
    let one : i.synced ≡ i.seen = ap (λ (j : Image). j.synced) is in
    let other : i.newest ≡ i.seen = ap (λ (j : Image). j.newest) is in
    rw (one, other) (le_refl _)

module _ (owner : Owner) (records new : List Record) where
  old_says : (old : Option Image) (c : List ℕ) → HoldsText owner records old → MayLeave old c
      → IfKnown old (λ i. SaysFirst owner records new c)
  old_says None c held left = tt
  old_says (Some i) c held left =
      let said = text_says owner records i.seen held.0 in
      (0, rw (append-nil, rest_leaves i.seen i c held.1 left) said)

  new_says : (old : Option Image) (bytes c : List ℕ) → HoldsText owner records old → AreRecords new
      → bytes ≡ all_bytes new
      → IfKnown old (λ i. (k : ℕ) × (c ≡ seen_of old ++ take k bytes))
      → IfKnown old (λ i. SaysFirst owner records new c)
  new_says None bytes c held are e left = tt
  new_says (Some i) bytes c held are e (k, left) =
      rw (left, e) (says_first owner records new i.seen k held.0 are)

  -- what a read gives after the fuse has fired
  said_after : (f : FuseState) (text : List ℕ) → IsTextOf owner records text → AreRecords new
      → DecodesTo owner (text ++ take (bytes_kept f) (all_bytes new))
      (Ok (read_after_firing f records new))
  said_after (Burning f) text is are = texts_atomic owner records new text f.kept is are
  said_after Clear text is are = rw (append-nil text) (text_says owner records text is)
  said_after Stopped text is are = rw (append-nil text) (text_says owner records text is)

  seen_says : (f : FuseState) (bytes : List ℕ) (old now : Option Image)
      → HoldsText owner records old → AreRecords new
      → bytes ≡ all_bytes new → (old ≡ None → now ≡ None)
      → IfKnown now (λ i. i.seen ≡ seen_of old ++ take (bytes_kept f) bytes)
      → ReadSays owner now (Ok (read_after_firing f records new))
  seen_says f bytes old None held are e unknown seen = tt
  seen_says f bytes None (Some j) held are e unknown seen = absurd (cc (unknown refl))
  seen_says f bytes (Some i) (Some j) held are e unknown seen =
      rw (seen, e) (said_after f i.seen held.0 are)

  came_out : (old now : devices.Device) (e : CellFault) (f : FuseState) (bytes : List ℕ)
      → HoldsText owner records old.image → AreRecords new → bytes ≡ all_bytes new
      → (old.image ≡ None → now.image ≡ None)
      → AppendCameOut (append_outcome f (seen_of old.image) bytes) (Err e) old now
      → CameOut (sync_outcome f records new) owner (Err (commit_fault e)) old now
  came_out old now Device f bytes held are same unknown out = (
    out.0,
    out.1,
    seen_says f bytes old.image now.image held are same unknown out.2,
  )
  came_out old now Memory f bytes held are same unknown out = out

  -- the text of all, once they are synced
  pub holds_all : (old now : Option Image) (bytes : List ℕ) (all : List Record)
      → HoldsText owner records old → AreRecords new → bytes ≡ all_bytes new
      → records ++ new ≡ all → (old ≡ None → now ≡ None) → RestsAt (seen_of old ++ bytes) now
      → HoldsText owner all now
  holds_all None now bytes all held are e both unknown rest = rw (unknown refl) tt
  holds_all (Some i) now bytes all held are e both unknown rest =
      let longer : IsTextOf owner all (i.seen ++ bytes) =
      rw (← both, e) (texts_longer owner records new i.seen held.0 are) in
      holds owner all (i.seen ++ bytes) now longer rest

leaves_as : (e : CellFault) (new : List Record) (bytes : List ℕ) (s : CellState)
    (now : devices.Device) → bytes ≡ all_bytes new → IsIn (after_appending bytes (Err e) s) now
    → IsIn (after_syncing new (Err (commit_fault e)) s) now
leaves_as Device new bytes s now same is = rw same at is
leaves_as Memory new bytes s now same is = is

module _ {C : Type 0} (device : C → devices.Device)
    (only_now : (cell : C) (c : List ℕ) → (device cell).left_since (device cell).moment c
    → MayLeave (device cell).image c)
    (owner : Owner) (all : List Record) (n : ℕ) (old : C)
    (held : HoldsText owner (take n all) (device old).image) where
  -- the cell now, after this answer
  abbrev Answers : (now : C) → Result (Unit {0}) CommitFault → Type 0
  Answers now result =
      Syncs device (book_of old (take n all) owner false) (drop n all) result
      (book_of now (records_after result n all) owner (has_failed result))

  abbrev Says : List ℕ → Type 0
  Says c = IfKnown (device old).image (λ i. SaysFirst owner (take n all) (drop n all) c)

  not_begun : LeavesOnly (device old) (device old) Says
  not_begun = started device only_now old Says
      (λ c left. old_says owner (take n all) (drop n all) (device old).image c held left)

  -- no record waits
  pub none_waits : drop n all ≡ [] → Answers old (Ok tt)
  none_waits none =
      let same : all ≡ take n all =
      sym (rw (none, append-nil) at (take-append-drop {A = Record} n all)) in
      let there : HoldsText owner all (device old).image = rw (← same) at held in
      record {
        committed = (sym (take-append-drop n all), refl);
        durable = leaves_text owner all (device old).image there;
        recovers = recovers owner all (device old).image there;
        device_failed = λ e. absurd (cc e);
        memory = λ e. absurd (cc e);
        any_moment = not_begun;
        cause = record {
          later = le_refl (device old).failures;
          failed = λ e. absurd (cc e);
          same = λ no. refl;
        };
        fuse = λ some. absurd (some none);
        calls = λ some. absurd (some none);
        nothing = λ e. (refl, ap (λ (l : List Record). book_of old l owner false) same);
        whose = refl;
      }

  -- memory ran out before the cell was written
  pub not_tried : drop n all ≢ [] → (result : Result (Unit {0}) CommitFault)
      → IsErrAnd result (λ fault. fault ≡ commits.Memory) → Answers old result
  not_tried some (Ok x) is = absurd is
  not_tried some (Err fault) is =
      rw is (record {
        committed = tt;
        durable = tt;
        recovers = tt;
        device_failed = λ e. absurd (cc e);
        memory = λ e. record { records = refl; opened = refl; bytes = refl };
        any_moment = not_begun;
        cause = record {
          later = le_refl (device old).failures;
          failed = λ e. absurd (cc e);
          same = λ no. refl;
        };
        fuse = λ some f is. refl;
        calls = λ some f is. record { image = refl; fuse = is; failures = refl };
        nothing = λ none. absurd (some none);
        whose = refl;
      })

  module _ (some : drop n all ≢ []) (now : C) (bytes : List ℕ) (are : AreRecords (drop n all))
      (same : bytes ≡ all_bytes (drop n all))
      (run : (text : List ℕ) → RestsAt text (device old).image
      → LeavesOnly (device old) (device now)
      (λ c. IfKnown (device old).image (λ i. (k : ℕ) × (c ≡ text ++ take k bytes)))) where
    written : LeavesOnly (device old) (device now) Says
    written =
        let text = seen_of (device old).image in
        weaker device only_now old now
        (λ c. IfKnown (device old).image (λ i. (k : ℕ) × (c ≡ text ++ take k bytes))) Says
        (run text (rests owner (take n all) (device old).image held))
        (λ c left. new_says owner (take n all) (drop n all) (device old).image bytes c held are
        same left)

    -- the cell refused the append or the sync
    pub not_written : (e : CellFault) (result : Result (Unit {0}) CommitFault)
        → IsErrAnd result (λ fault. fault ≡ commit_fault e)
        → ((device old).image ≡ None → (device now).image ≡ None)
        → (IsErrOf {T = Unit {0}} (Err e) Memory → (device now).image ≡ (device old).image)
        → HasCause {T = Unit {0}} Device (device old).failures (device now).failures (Err e)
        → ((f : FuseState) (text : List ℕ) → (device old).fuse ≡ Some f
        → RestsAt text (device old).image
        → AppendCameOut (append_outcome f text bytes) (Err e) (device old) (device now))
        → ((f : FuseState) → (device old).fuse ≡ Some f
        → IsIn (after_appending bytes (Err e) (state_of (device old) f)) (device now))
        → Answers now result
    not_written e (Ok x) is unknown memory cause fuse calls = absurd is
    not_written e (Err fault) is unknown memory cause fuse calls =
        rw is (record {
          committed = tt;
          durable = tt;
          recovers = tt;
          device_failed = λ failed. (refl, ap has_failed failed);
          memory = λ no_memory. record {
            records = refl;
            opened = ap has_failed no_memory;
            bytes = memory (found_no_memory e no_memory);
          };
          any_moment = written;
          cause = record {
            later = cause.later;
            failed = λ failed. cause.failed (device_failed e failed);
            same = λ no. cause.same (λ failed. no (failed_too e failed));
          };
          fuse = λ some f at. came_out owner (take n all) (drop n all) (device old) (device now)
              e f bytes held are same unknown
              (fuse f (seen_of (device old).image) at
              (rests owner (take n all) (device old).image held));
          calls = λ some f at. leaves_as e (drop n all) bytes (state_of (device old) f)
              (device now) same (calls f at);
          nothing = λ none. absurd (some none);
          whose = refl;
        })

    -- all the records are in the cell, synced
    pub done : HoldsText owner all (device now).image
        → HasCause {T = Unit {0}} Device (device old).failures (device now).failures (Ok tt)
        → ((f : FuseState) (text : List ℕ) → (device old).fuse ≡ Some f
        → RestsAt text (device old).image
        → AppendCameOut (append_outcome f text bytes) (Ok tt) (device old) (device now))
        → ((f : FuseState) → (device old).fuse ≡ Some f
        → IsIn (after_appending bytes (Ok tt) (state_of (device old) f)) (device now))
        → Answers now (Ok tt)
    done there cause fuse calls = record {
      committed = (sym (take-append-drop n all), refl);
      durable = leaves_text owner all (device now).image there;
      recovers = recovers owner all (device now).image there;
      device_failed = λ e. absurd (cc e);
      memory = λ e. absurd (cc e);
      any_moment = written;
      cause = record {
        later = cause.later;
        failed = λ e. absurd (cc e);
        same = λ no. cause.same (λ e. cc e);
      };
      fuse = λ some f at. fuse f (seen_of (device old).image) at
          (rests owner (take n all) (device old).image held);
      calls = λ some f at. rw same at (calls f at);
      nothing = λ none. absurd (some none);
      whose = refl;
    }
