-- What a call does to a book whose records wait, it does to one on a disk of which all is known.
use Rattle.std.proofs.Common.{◌≡◌, inl, inr, true, false, List, [], ◌∷◌, ◌++◌, Option, Some, None}
use Rattle.std.proofs.Common.{Result, Ok, Err, refl, ap, ◌∙◌, le_refl}
use Rattle.std.specs.Prelude.{IsErrOf}
use Rattle.fed_types.specs.Sites.{AreWeights}
use Rattle.records.specs.declared.owner.Owner.{Owner}
use Rattle.records.specs.declared.record.Record.{Record}
use Rattle.records.specs.Records.{IsRecord, AreRecords}
use Rattle.book.specs.declared.fault.CommitFault.{CommitFault}
use Rattle.book.specs.declared.fault.CommitFault.TheVariants as commits
use Rattle.book.specs.declared.waiting.Waiting.{Waiting}
use Rattle.book.specs.Committed.{Commits}
use Rattle.book.specs.OpenBooks.{OpenBook}
use Rattle.book.proofs.AtRest.{keeps_same}
use Rattle.site.specs.declared.answer.Answer.{Answer}
use Rattle.site.specs.declared.fault.SiteFault.{SiteFault}
use Rattle.site.specs.declared.fault.SiteFault.TheVariants as faults
use Rattle.site.specs.Answered.{Keeps, commit_of}
use Rattle.site.specs.Batches.{no_cell}
use Rattle.serving_law.specs.Disks.{Disk, Holds, device}
use Rattle.serving_law.proofs.DiskJournals as disks
use Rattle.serving_law.proofs.DiskJournals.{holds, says, are_like_cells}

abbrev pub on_book : OpenBook Waiting → OpenBook Disk
on_book b = record {
  cell = Holds b.owner b.records;
  records = b.records;
  needs_opening = b.needs_opening;
  owner = b.owner;
}

-- so it is, where it needs no opening
pub on_open : (b : OpenBook Waiting) (owner : Owner) (records : List Record) → b.owner ≡ owner
    → b.records ≡ records → b.needs_opening ≡ false → holds owner records ≡ on_book b
on_open b owner records is are opened = rw (is, are, opened)

-- the records before the last, and the last
split : (rs : List Record) (r : Record) → AreRecords (rs ++ r ∷ []) → AreRecords rs × IsRecord r
split [] r (is, all) = (tt, is)
split (first ∷ rs) r (is, all) = let both = split rs r all in ((is, both.0), both.1)

-- a commit that is refused for memory changes nothing
refused : (owner : Owner) → AreWeights owner.members.weights → (records : List Record)
    → AreRecords records → (r : Record)
    → Commits device (holds owner records) r (Err commits.Memory) (holds owner records)
refused owner weights records are r = record {
  committed = tt;
  durable = tt;
  recovers = tt;
  device_failed = λ e. absurd (cc e);
  memory = λ e. record { records = refl; opened = refl; bytes = refl };
  any_moment = record {
    later = le_refl _;
    each = λ c left.
        let kept = are_like_cells.only_now (Holds owner records) c left in
        inl (rw (kept.1, keeps_same kept.0 _) (says owner weights records are));
    before = λ t c within left. inl left;
  };
  cause = record { later = le_refl _; failed = λ e. absurd (cc e); same = λ other. refl };
  fuse = λ f e. absurd (cc e);
  calls = λ f e. absurd (cc e);
  whose = refl;
}

-- only a site that needs opening says so of its commit
pub says_needs_open : (result : Result Answer SiteFault)
    → commit_of result ≡ Err commits.NeedsOpen → IsErrOf result faults.NeedsOpen
says_needs_open (Err faults.NeedsOpen) e = refl
says_needs_open (Err faults.Device) e = absurd (cc e)
says_needs_open _ e = absurd (cc e)

-- it needs no opening, and its owner's weights are those of a membership
pub record IsReady (b : OpenBook Waiting) : Type 0 where
  pub opened : b.needs_opening ≡ false
  pub weights : AreWeights b.owner.members.weights

module _ (old new : OpenBook Waiting) (ready : IsReady old) (are : AreRecords new.records) where
  old_is : holds old.owner old.records ≡ on_book old
  old_is = on_open old old.owner old.records refl refl ready.opened

  committed : (r : Record) → Commits no_cell old r (Ok tt) new
      → Commits device (on_book old) r (Ok tt) (on_book new)
  committed r does =
      let both = split old.records r (rw does.committed.0 at are) in
      let new_is = on_open new old.owner (old.records ++ r ∷ []) does.whose does.committed.0
      does.committed.1 in
      rw (← old_is, ← new_is) (disks.commits old.owner ready.weights old.records both.0 r both.1)

  unchanged : (r : Record) → Commits no_cell old r (Err commits.Memory) new
      → Commits device (on_book old) r (Err commits.Memory) (on_book new)
  unchanged r does =
      let same = does.memory refl in
      let new_is = on_open new old.owner old.records does.whose same.records
      (same.opened ∙ ready.opened) in
      rw (← old_is, ← new_is)
      (refused old.owner ready.weights old.records (rw same.records at are) r)

  -- the cell of a book whose records wait never fails
  true_is_other : false ≡ true → ⊥
  true_is_other e = absurd (cc e)

  pub keeps_on : (c : Option Record) (result : Result Answer SiteFault)
      → (IsErrOf result faults.NeedsOpen → ⊥)
      → Keeps no_cell c result old new → Keeps device c result (on_book old) (on_book new)
  keeps_on None result other keeps = ap on_book keeps
  keeps_on (Some r) result other (inl (memory, same)) = inl (memory, ap on_book same)
  keeps_on (Some r) result other (inr does) = inr (go (commit_of result) refl does)
    where
      go : (a : Result (Unit {0}) CommitFault) → commit_of result ≡ a
          → Commits no_cell old r a new → Commits device (on_book old) r a (on_book new)
      go (Ok x) is does_so = committed r does_so
      go (Err commits.Device) is does_so = absurd (true_is_other (does_so.fuse _ refl).0)
      go (Err commits.Memory) is does_so = unchanged r does_so
      go (Err commits.NeedsOpen) is does_so = absurd (other (says_needs_open result is))
