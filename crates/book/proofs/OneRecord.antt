-- A sync of one record is its commit.
use Rattle.std.proofs.Common.{◌≡◌, inl, inr, ℕ, suc, zero, List, [], ◌∷◌, ◌++◌, length}
use Rattle.std.proofs.Common.{Option, Some, None, Result, Ok, Err, refl, subst, append-nil}
use Rattle.std.proofs.lemmas.Bool.Decides.{leb_tells}
use Rattle.cell_device.specs.declared.fuse.FuseState.{FuseState}
use Rattle.cell_device.specs.declared.fuse.FuseState.TheVariants.{Clear, Burning, Stopped}
use Rattle.cell_device.specs.Images.{Image, IfKnown}
use Rattle.cell_device.specs.States.{CellState, IsIn}
use Rattle.cell_device.specs.Time.{LeavesOnly}
use Rattle.records.specs.declared.owner.Owner.{Owner}
use Rattle.records.specs.declared.record.Record.{Record}
use Rattle.records.specs.Layout.{record_bytes}
use Rattle.records.specs.Texts.{kept_records}
use Rattle.book.specs.declared.fault.CommitFault.{CommitFault}
use Rattle.book.specs.Batches.{Syncs, SaysFirst, in_first, read_after_firing, sync_outcome}
use Rattle.book.specs.Batches.{after_syncing}
use Rattle.book.specs.Committed.{Commits, SaysWithOrWithout, read_after_fuse, commit_outcome}
use Rattle.book.specs.Committed.{after_commit}
use Rattle.book.specs.OpenBooks.{OpenBook}
use Rattle.cell_device.specs.Devices as devices
use Rattle.book.specs.declared.fault.CommitFault.TheVariants as commits
use Rattle.std.proofs.Math.Seq.{take-nil}

-- its first bytes hold it, or not
first_is : (k : ℕ) (records : List Record) (r : Record)
    → records ++ in_first k (r ∷ []) ≡ kept_records k records r
unfolding in_first
first_is k records r = elim (leb_tells (length (record_bytes r)) k) [
  | inl t ↦ rw t.0 refl
  | inr f ↦ rw f.0 refl
]

read_is : (f : FuseState) (records : List Record) (r : Record)
    → read_after_firing f records (r ∷ []) ≡ read_after_fuse f records r
read_is Clear records r = refl
read_is (Burning f) records r = first_is f.kept records r
read_is Stopped records r = refl

outcome_is : (f : FuseState) (records : List Record) (r : Record)
    → sync_outcome f records (r ∷ []) ≡ commit_outcome f records r
outcome_is f records r = rw (read_is f records r) refl

with_or_without : (owner : Owner) (records : List Record) (r : Record) (c : List ℕ)
    → SaysFirst owner records (r ∷ []) c → SaysWithOrWithout owner records r c
with_or_without owner records r c (zero, says) = inl (rw (append-nil records) at says)
with_or_without owner records r c (suc n, says) = inr (rw (take-nil n) at says)

says_so : (image : Option Image) (owner : Owner) (records : List Record) (r : Record) (c : List ℕ)
    → IfKnown image (λ i. SaysFirst owner records (r ∷ []) c)
    → IfKnown image (λ i. SaysWithOrWithout owner records r c)
says_so None owner records r c says = tt
says_so (Some i) owner records r c says = with_or_without owner records r c says

state_is : (r : Record) (result : Result (Unit {0}) CommitFault) (s : CellState)
    → after_syncing (r ∷ []) result s ≡ after_commit r result s
state_is r (Ok x) s = rw (append-nil (record_bytes r)) refl
state_is r (Err commits.Device) s = rw (append-nil (record_bytes r)) refl
state_is r (Err commits.Memory) s = refl
state_is r (Err commits.NeedsOpen) s = refl

weaker : (old new : devices.Device) (P Q : List ℕ → Type 0) → LeavesOnly old new P
    → ((c : List ℕ) → P c → Q c) → LeavesOnly old new Q
weaker old new P Q run so = record {
  later = run.later;
  each = λ c left. so c (run.each c left);
  before = λ t c le left. elim (run.before t c le left) [
    | inl past ↦ inl past
    | inr now ↦ inr (so c now)
  ];
}

pub is_commit : {C : Type 0} (device : C → devices.Device) (old new : OpenBook C) (r : Record)
    (result : Result (Unit {0}) CommitFault)
    → Syncs device old (r ∷ []) result new → Commits device old r result new
is_commit device old new r result syncs = record {
  committed = syncs.committed;
  durable = syncs.durable;
  recovers = syncs.recovers;
  device_failed = syncs.device_failed;
  memory = syncs.memory;
  any_moment = weaker (device old.cell) (device new.cell)
      (λ c. IfKnown (device old.cell).image (λ i. SaysFirst old.owner old.records (r ∷ []) c))
      (λ c. IfKnown (device old.cell).image (λ i. SaysWithOrWithout old.owner old.records r c))
      syncs.any_moment
      (λ c says. says_so (device old.cell).image old.owner old.records r c says);
  cause = syncs.cause;
  fuse = λ f is. rw (outcome_is f old.records r) at (syncs.fuse (λ e. cc e) f is);
  calls = λ f is. subst (λ (s : CellState). IsIn s (device new.cell)) (state_is r result _)
      (syncs.calls (λ e. cc e) f is);
  whose = syncs.whose;
}
