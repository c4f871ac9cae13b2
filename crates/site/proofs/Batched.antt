-- What a call of a site whose records wait leaves of its book.
use Rattle.std.proofs.Common.{◌≡◌, inl, inr, false, List, [], ◌∷◌, ◌++◌, length}
use Rattle.std.proofs.Common.{Option, Some, None, Result, Ok, Err, refl, sym, ap, ◌∙◌, arith}
use Rattle.std.proofs.Common.{length-append, append-nil, append_assoc}
use Rattle.std.proofs.lemmas.List.{take-append-le}
use Rattle.std.specs.Prelude.{IsErrOf, IsSome}
use Rattle.cell_device.specs.Devices.{Device}
use Rattle.records.specs.declared.record.Record.{Record}
use Rattle.book.specs.declared.fault.CommitFault.{CommitFault}
use Rattle.book.specs.declared.fault.CommitFault.TheVariants as commits
use Rattle.book.specs.declared.waiting.Waiting.{Waiting}
use Rattle.book.specs.Batches.{BatchCell, HoldsFirst}
use Rattle.book.specs.Committed.{Commits}
use Rattle.book.specs.OpenBooks.{OpenBook}
use Rattle.proposer.specs.VolatileStates.{VolatileState}
use Rattle.site.specs.declared.answer.Answer.{Answer}
use Rattle.site.specs.declared.fault.SiteFault.{SiteFault}
use Rattle.site.specs.declared.fault.SiteFault.TheVariants as faults
use Rattle.site.specs.Answered.{IsAnswered, Keeps, commit_of}
use Rattle.site.specs.Batches.{no_cell, OpenBatch, IsBatch}
use Rattle.site.specs.Effects.{Effect}
use Rattle.site.specs.Sites.{OpenSite, Represents}
use Rattle.site.specs.declared.sealed_answer.SealedAnswer.{SealedAnswer}
use Rattle.site.proofs.Refused.{needs_none}

-- the book has the records that it had, and maybe more
pub record Grows {W : Type 0} (old new : OpenBook W) : Type 0 where
  pub more : List Record
  pub records : new.records ≡ old.records ++ more
  pub opened : new.needs_opening ≡ old.needs_opening
  pub owner : new.owner ≡ old.owner

pub grows_not : {W : Type 0} (old new : OpenBook W) → new ≡ old → Grows old new
grows_not old new is = record {
  more = [];
  records = cc (is, append-nil old.records);
  opened = cc;
  owner = cc;
}

pub grows_twice : {W : Type 0} (a b c : OpenBook W) → Grows a b → Grows b c → Grows a c
grows_twice a b c first second = record {
  more = first.more ++ second.more;
  records = rw (second.records, first.records, append_assoc);
  opened = cc;
  owner = cc;
}

committed : (old new : OpenBook Waiting) (r : Record) (result : Result (Unit {0}) CommitFault)
    → old.needs_opening ≡ false → (result ≡ Err commits.NeedsOpen → ⊥)
    → Commits no_cell old r result new → Grows old new
committed old new r (Ok x) opened other does = record {
  more = r ∷ [];
  records = does.committed.0;
  opened = does.committed.1 ∙ sym opened;
  owner = does.whose;
}
committed old new r (Err commits.Device) opened other does =
    absurd (cc ((does.fuse _ refl).0))
committed old new r (Err commits.Memory) opened other does =
    let same = does.memory refl in
    record {
      more = [];
      records = same.records ∙ sym (append-nil old.records);
      opened = same.opened;
      owner = does.whose;
    }
committed old new r (Err commits.NeedsOpen) opened other does = absurd (other refl)

-- only a site that needs opening says so of its commit
says_needs_open : (result : Result Answer SiteFault) → commit_of result ≡ Err commits.NeedsOpen
    → IsErrOf result faults.NeedsOpen
says_needs_open (Ok a) e = absurd (cc e)
says_needs_open (Err faults.Device) e = absurd (cc e)
says_needs_open (Err faults.NeedsOpen) e = refl
says_needs_open (Err fault) e = absurd (cc e)

kept : (old new : OpenBook Waiting) (r : Option Record) (result : Result Answer SiteFault)
    → old.needs_opening ≡ false → (IsErrOf result faults.NeedsOpen → ⊥)
    → Keeps no_cell r result old new → Grows old new
kept old new None result opened other keeps = grows_not old new keeps
kept old new (Some r) result opened other (inl (memory, same)) = grows_not old new same
kept old new (Some r) result opened other (inr does) =
    committed old new r (commit_of result) opened (λ e. other (says_needs_open result e)) does

-- it never answers that its device failed: it has none
no_device : (old new : OpenBook Waiting) (r : Option Record)
    → Keeps no_cell r (Err faults.Device) old new → IsSome r → ⊥
no_device old new None keeps some = absurd (cc some)
no_device old new (Some r) (inl (memory, same)) some = absurd (cc memory)
no_device old new (Some r) (inr does) some = absurd (cc ((does.fuse _ refl).0))

-- so it represents a volatile state again
represents : (old new : OpenSite Waiting) (volatile : VolatileState) (e : Effect)
    (result : Result Answer SiteFault) → IsAnswered no_cell old new volatile e result
    → (after : VolatileState) × Represents new after
represents old new volatile e (Ok answer) answered = (e.volatile, answered.gives.2)
represents old new volatile e (Err faults.Memory) answered = (volatile, answered.gives)
represents old new volatile e (Err faults.Device) answered =
    absurd (no_device old.book new.book e.commits answered.keeps answered.gives)
represents old new volatile e (Err faults.NeedsOpen) answered = absurd answered.gives
represents old new volatile e (Err fault) answered = (volatile, answered.gives.1)

-- so does the book of a site that answered a call
pub grows_answered : (old new : OpenSite Waiting) (volatile : VolatileState) (e : Effect)
    (result : Result Answer SiteFault) → IsAnswered no_cell old new volatile e result
    → old.book.needs_opening ≡ false → Grows old.book new.book
grows_answered old new volatile e result answered opened =
    kept old.book new.book e.commits result opened
    (needs_none no_cell old new volatile e result answered) answered.keeps

module _ {C : Type 0} (device : C → Device) where
  -- so the cell still holds the first of its records
  pub still_holds : {W : Type 0} (held : BatchCell C) (old new : OpenBook W) → Grows old new
      → HoldsFirst device held old → HoldsFirst device held new
  still_holds held old new grows holds = record {
    within = omega (
      arith,
      holds.within,
      ap length grows.records,
      length-append old.records
          grows.more,
    );
    text = λ opened. rw (
      grows.owner,
      grows.records,
      take-append-le held.synced old.records grows.more holds.within,
    ) (holds.text opened);
  }

  -- the batch of a site that was called is one
  pub still_batch : (b : OpenBatch C) (is : IsBatch device b) (new : OpenSite Waiting)
      (sealed : List SealedAnswer) (e : Effect) (result : Result Answer SiteFault)
      → IsAnswered no_cell b.site new is.volatile.0 e result
      → IsBatch device (record { held = b.held; site = new; sealed = sealed })
  still_batch b is new sealed e result answered =
      let grows = grows_answered b.site new is.volatile.0 e result answered is.waits in
      record {
        held = still_holds b.held b.site.book new.book grows is.held;
        waits = grows.opened ∙ is.waits;
        volatile = represents b.site new is.volatile.0 e result answered;
      }
