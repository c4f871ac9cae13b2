-- A site in a batch: its records wait until one sync, and what its calls answer is sealed until
-- then. A call sees the records of the calls before it, synced or not.
use Rattle.std.specs.Prelude.{◌≡◌, ◌⊎◌, List, [], ◌∷◌, ◌++◌, false, Result, Ok, Err, IfErr}
use Rattle.cell_device.specs.Devices.{Device}
use Rattle.fed_types.specs.Slots.{SlotName}
use Rattle.book.specs.declared.fault.CommitFault.{CommitFault}
use Rattle.book.specs.declared.waiting.Waiting.{Waiting}
use Rattle.book.specs.Batches.{BatchCell, HoldsFirst, keeps_nothing}
use Rattle.proposer.specs.VolatileStates.{VolatileState}
use Rattle.site.specs.declared.answer.Answer.{Answer}
use Rattle.site.specs.declared.sealed_answer.SealedAnswer.{SealedAnswer}
use Rattle.site.specs.declared.sealed_answer.SealedAnswer.TheVariants as sealed_answers
use Rattle.site.specs.declared.fault.SiteFault.{SiteFault}
use Rattle.site.specs.declared.fault.SiteFault.TheVariants as faults
use Rattle.site.specs.Answered.{IsAnswered}
use Rattle.site.specs.Calls.{Input, reply_of}
use Rattle.site.specs.Sites.{OpenSite, Represents, effect}

-- the cell, with how many of the site's records are synced in it; the site, with all records; and
-- the answers that aren't handed out yet, in order
pub record OpenBatch (C : Type 0) : Type 0 where
  pub held : BatchCell C
  pub site : OpenSite Waiting
  pub sealed : List SealedAnswer

-- what is true of every batch: the cell holds the first of its records, its site takes calls, and
-- represents some volatile state
pub record IsBatch {C : Type 0} (device : C → Device) (b : OpenBatch C) : Type 0 where
  pub held : HoldsFirst device b.held b.site.book
  pub waits : b.site.book.needs_opening ≡ false
  pub volatile : (volatile : VolatileState) × Represents b.site volatile

-- nothing is known of the cell of a book whose records wait
abbrev pub no_cell : Waiting → Device
no_cell cell = keeps_nothing

-- one answer more is sealed, and it is what the definitions say of the site's records; there is no
-- call on the cell
pub record Seals {C : Type 0} (old new : OpenBatch C) (input : Input)
    (answer : Result Answer SiteFault) : Type 0 where
  pub held : new.held ≡ old.held
  pub sealed : new.sealed ≡ old.sealed ++ sealed_answers.Called answer ∷ []
  pub answered : (volatile : VolatileState) → Represents old.site volatile
      → IsAnswered no_cell old.site new.site volatile (effect old.site volatile input) answer

-- a call: its answer is sealed, or the batch is as it was
abbrev pub Calls : {C : Type 0} → (old new : OpenBatch C) → Input → Result (Unit {0}) SiteFault
    → Type 0
Calls old new input (Ok x) = (answer : Result Answer SiteFault) × Seals old new input answer
Calls old new input (Err fault) = new ≡ old

-- a query: its reply is sealed, or the batch is as it was
abbrev pub Queries : {C : Type 0} → (old new : OpenBatch C) → SlotName
    → Result (Unit {0}) SiteFault → Type 0
Queries old new slot (Ok x) =
    (new.held ≡ old.held) × (new.site ≡ old.site)
    × (new.sealed ≡ old.sealed
    ++ sealed_answers.Replied (Ok (reply_of slot old.site.book.records)) ∷ [])
Queries old new slot (Err fault) = new ≡ old

-- a batch refuses a call since it needs opening, or since memory ran out before the call
abbrev pub RefusesOnly : Result (Unit {0}) SiteFault → Type 0
RefusesOnly result = IfErr result (λ f. (f ≡ faults.NeedsOpen) ⊎ (f ≡ faults.Memory))

-- whether a sync was done
abbrev pub done_of : {T : Type 0} → Result T CommitFault → Result (Unit {0}) CommitFault
done_of (Ok x) = Ok tt
done_of (Err fault) = Err fault
