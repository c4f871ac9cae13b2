-- What a commit answers and leaves, by how far it came.
use Rattle.std.proofs.Common.{◌≡◌, ℕ, false, List, [], ◌∷◌, ◌++◌, take, Some, None}
use Rattle.std.proofs.Common.{Result, Ok, Err, refl, ap}
use Rattle.std.proofs.Math.Nat.{le_refl}
use Rattle.std.specs.Prelude.{IsErrOf}
use Rattle.std.specs.Result.{IsErrAnd}
use Rattle.cell_device.specs.declared.fault.CellFault.{CellFault}
use Rattle.cell_device.specs.declared.fault.CellFault.TheVariants.{Device, Memory}
use Rattle.cell_device.specs.declared.fuse.FuseState.{FuseState}
use Rattle.cell_device.specs.Calls.{HasCause}
use Rattle.cell_device.specs.Devices as devices
use Rattle.cell_device.specs.Images.{MayLeave, IfKnown}
use Rattle.cell_device.specs.States.{IsIn, state_of}
use Rattle.cell_device.specs.Time.{LeavesOnly}
use Rattle.records.specs.declared.owner.Owner.{Owner}
use Rattle.records.specs.declared.record.Record.{Record}
use Rattle.records.specs.Layout.{record_bytes}
use Rattle.records.specs.Records.{IsRecord}
use Rattle.book.specs.declared.fault.CommitFault.{CommitFault}
use Rattle.book.specs.declared.fault.CommitFault.TheVariants as commits
use Rattle.book.specs.Committed.{Commits}
use Rattle.book.specs.Faults.{commit_fault}
use Rattle.book.specs.OpenBooks.{HoldsText}
use Rattle.book.specs.inner.Appended.{AppendCameOut, append_outcome, after_appending, book_of}
use Rattle.book.specs.inner.Appended.{has_failed}
use Rattle.book.specs.inner.Sound.{IsSound, RestsAt, seen_of}
use Rattle.book.proofs.Commits.{leaves_text, sound_recovers, rests, commit_came_out, not_begun}
use Rattle.book.proofs.Commits.{written}
use Rattle.book.proofs.States.{commit_leaves}
use Rattle.book.proofs.Commits.{device_failed, found_no_memory, failed_too}

module _ {C : Type 0} (device : C → devices.Device)
    (only_now : (cell : C) (c : List ℕ) → (device cell).left_since (device cell).moment c
    → MayLeave (device cell).image c)
    (owner : Owner) (records : List Record) (r : Record) (old : C)
    (held : HoldsText owner records (device old).image) where
  -- the cell now, and the records, after this answer
  abbrev Answers : (new : C) → List Record → Result (Unit {0}) CommitFault → Type 0
  Answers new after result =
      Commits device (book_of old records owner false) r result
      (book_of new after owner (has_failed result))

  -- memory ran out before the cell was written
  pub not_tried : (after : List Record) → after ≡ records
      → (result : Result (Unit {0}) CommitFault)
      → IsErrAnd result (λ fault. fault ≡ commits.Memory) → Answers old after result
  not_tried after kept (Ok x) is = absurd is
  not_tried after kept (Err fault) is =
      rw is (record {
        committed = tt;
        durable = tt;
        recovers = tt;
        device_failed = λ e. absurd (cc e);
        memory = λ e. record { records = kept; opened = refl; bytes = refl };
        any_moment = not_begun owner records r device only_now old held;
        cause = record {
          later = le_refl (device old).failures;
          failed = λ e. absurd (cc e);
          same = λ no. refl;
        };
        fuse = λ f is. refl;
        calls = λ f is. record { image = refl; fuse = is; failures = refl };
        whose = refl;
      })

  module _ (new : C) (bytes : List ℕ) (is_record : IsRecord r) (same : bytes ≡ record_bytes r)
      (run : (text : List ℕ) → RestsAt text (device old).image
      → LeavesOnly (device old) (device new)
      (λ c. IfKnown (device old).image (λ i. (k : ℕ) × (c ≡ text ++ take k bytes)))) where
    -- the cell refused the append or the sync
    pub not_written : (after : List Record) → after ≡ records → (e : CellFault)
        (result : Result (Unit {0}) CommitFault)
        → IsErrAnd result (λ fault. fault ≡ commit_fault e)
        → ((device old).image ≡ None → (device new).image ≡ None)
        → (IsErrOf {T = Unit {0}} (Err e) Memory → (device new).image ≡ (device old).image)
        → HasCause {T = Unit {0}} Device (device old).failures (device new).failures (Err e)
        → ((f : FuseState) (text : List ℕ) → (device old).fuse ≡ Some f
        → RestsAt text (device old).image
        → AppendCameOut (append_outcome f text bytes) (Err e) (device old) (device new))
        → ((f : FuseState) → (device old).fuse ≡ Some f
        → IsIn (after_appending bytes (Err e) (state_of (device old) f)) (device new))
        → Answers new after result
    not_written after kept e (Ok x) is unknown memory cause fuse calls = absurd is
    not_written after kept e (Err fault) is unknown memory cause fuse calls =
        rw is (record {
          committed = tt;
          durable = tt;
          recovers = tt;
          device_failed = λ failed. (kept, ap has_failed failed);
          memory = λ no_memory. record {
            records = kept;
            opened = ap has_failed no_memory;
            bytes = memory (found_no_memory e no_memory);
          };
          any_moment = written owner records r device only_now old held new bytes is_record same
              run;
          cause = record {
            later = cause.later;
            failed = λ failed. cause.failed (device_failed e failed);
            same = λ no. cause.same (λ failed. no (failed_too e failed));
          };
          fuse = λ f at. commit_came_out owner records r (device old) (device new)
              (Err (commit_fault e)) e f bytes held is_record same unknown refl
              (fuse f (seen_of (device old).image) at
              (rests owner records (device old).image held));
          calls = λ f at. commit_leaves (Err (commit_fault e)) e bytes r
              (state_of (device old) f) (device new) same refl (calls f at);
          whose = refl;
        })

    -- the record is in the cell, synced
    pub done : (after : List Record) → after ≡ records ++ r ∷ []
        → IsSound false owner after (device new).image
        → HasCause {T = Unit {0}} Device (device old).failures (device new).failures (Ok tt)
        → ((f : FuseState) (text : List ℕ) → (device old).fuse ≡ Some f
        → RestsAt text (device old).image
        → AppendCameOut (append_outcome f text bytes) (Ok tt) (device old) (device new))
        → ((f : FuseState) → (device old).fuse ≡ Some f
        → IsIn (after_appending bytes (Ok tt) (state_of (device old) f)) (device new))
        → Answers new after (Ok tt)
    done after all sound cause fuse calls = record {
      committed = (all, refl);
      durable = leaves_text owner after (device new).image (sound.text refl);
      recovers = sound_recovers owner after (device new).image sound;
      device_failed = λ e. absurd (cc e);
      memory = λ e. absurd (cc e);
      any_moment = written owner records r device only_now old held new bytes is_record same run;
      cause = record {
        later = cause.later;
        failed = λ e. absurd (cc e);
        same = λ no. cause.same (λ e. cc e);
      };
      fuse = λ f at. fuse f (seen_of (device old).image) at
          (rests owner records (device old).image held);
      calls = λ f at. rw same at (calls f at);
      whose = refl;
    }
