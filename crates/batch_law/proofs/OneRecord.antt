-- A turn of a site whose records wait makes one record at most.
use Rattle.std.proofs.Common.{◌≡◌, ◌⊎◌, inl, inr, ℕ, false, List, [], ◌∷◌, ◌++◌, Option, Some, None}
use Rattle.std.proofs.Common.{Result, Ok, Err, refl}
use Rattle.std.specs.Prelude.{IsErrOf}
use Rattle.bag_tree.specs.declared.fault.TreeFault.{TreeFault}
use Rattle.bag_tree.specs.Facts.{TreeFacts}
use Rattle.records.specs.declared.record.Record.{Record}
use Rattle.book.specs.declared.fault.CommitFault.{CommitFault}
use Rattle.book.specs.declared.fault.CommitFault.TheVariants as commits
use Rattle.book.specs.declared.waiting.Waiting.{Waiting}
use Rattle.book.specs.Committed.{Commits}
use Rattle.book.specs.OpenBooks.{OpenBook}
use Rattle.site.specs.declared.answer.Answer.{Answer}
use Rattle.site.specs.declared.fault.SiteFault.{SiteFault}
use Rattle.site.specs.declared.fault.SiteFault.TheVariants as faults
use Rattle.site.specs.Answered.{Keeps, commit_of}
use Rattle.site.specs.Batches.{no_cell}
use Rattle.site.specs.Calls.{Input}
use Rattle.site.specs.Sites.{effect}
use Rattle.site.proofs.Refused.{needs_none}
use Rattle.udp_site.specs.Requests.{Request}
use Rattle.udp_site.specs.Turns.{Serving, Done, IsCalled, comes_of}
use Rattle.udp_site.proofs.TurnCalls.{came}
use Rattle.batch_law.proofs.DiskBooks.{says_needs_open}

-- the same records, or one more
abbrev pub OneMore : (old new : List Record) → Type 0
OneMore old new = (new ≡ old) ⊎ ((r : Record) × (new ≡ old ++ r ∷ []))

committed : (old new : OpenBook Waiting) (r : Record) (answer : Result (Unit {0}) CommitFault)
    → (answer ≡ Err commits.NeedsOpen → ⊥) → Commits no_cell old r answer new
    → OneMore old.records new.records
committed old new r (Ok x) other does = inr (r, does.committed.0)
committed old new r (Err commits.Device) other does = inl (does.device_failed refl).0
committed old new r (Err commits.Memory) other does = inl (does.memory refl).records
committed old new r (Err commits.NeedsOpen) other does = absurd (other refl)

kept : (old new : OpenBook Waiting) (r : Option Record) (result : Result Answer SiteFault)
    → (IsErrOf result faults.NeedsOpen → ⊥) → Keeps no_cell r result old new
    → OneMore old.records new.records
kept old new None result other keeps = inl (rw keeps)
kept old new (Some r) result other (inl (memory, is)) = inl (rw is)
kept old new (Some r) result other (inr does) =
    committed old new r (commit_of result) (λ e. other (says_needs_open result e)) does

called : (old new : Serving Waiting) (input : Input) (result : Result Answer SiteFault)
    → old.site.book.needs_opening ≡ false → IsCalled no_cell old input result new
    → OneMore old.site.book.records new.site.book.records
called old new input result opened is =
    let answered = is.answered opened in
    let e = effect old.site old.volatile input in
    kept old.site.book new.site.book e.commits result
    (needs_none no_cell old.site new.site old.volatile e result answered) answered.keeps

pub turned : (addresses : List ℕ) (gives : Option (List ℕ → Result TreeFacts TreeFault))
    (old new : Serving Waiting) (done : Done) → old.site.book.needs_opening ≡ false
    → (request : Request) → comes_of no_cell addresses gives old request done new
    → OneMore old.site.book.records new.site.book.records
turned addresses gives old new done opened request comes =
    elim (came no_cell addresses new done gives old request comes) [
      | inl c ↦ rw (← c.there) (called c.at new c.input c.result (rw c.there opened) c.called)
      | inr (unchanged, says) ↦ inl (rw unchanged)
    ]
