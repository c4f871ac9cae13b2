-- No turn takes back a record, so that what is settled stays so.
use Rattle.udp_site.proofs.TurnCalls.{came}
use Rattle.std.proofs.Common.{◌≡◌, inl, inr, ℕ, Bool, true, false, List, [], ◌∷◌, ◌++◌, append-nil}
use Rattle.std.proofs.Common.{Option, Some, None, Result, Ok, Err, refl}
use Rattle.cell_device.specs.Devices.{Device}
use Rattle.bag_tree.specs.declared.fault.TreeFault.{TreeFault}
use Rattle.bag_tree.specs.Facts.{TreeFacts}
use Rattle.records.specs.declared.record.Record.{Record}
use Rattle.proposer.specs.VolatileStates.{VolatileState}
use Rattle.site.specs.declared.answer.Answer.{Answer}
use Rattle.site.specs.declared.fault.SiteFault.{SiteFault}
use Rattle.site.specs.declared.fault.SiteFault.TheVariants as faults
use Rattle.site.specs.Answered.{Keeps, Gives}
use Rattle.site.specs.Calls.{Input}
use Rattle.site.specs.Effects.{Effect}
use Rattle.site.specs.Sites.{OpenSite, effect}
use Rattle.udp_site.specs.Traffic.{Taken}
use Rattle.udp_site.specs.Requests.{Request, request_of}
use Rattle.udp_site.specs.Turns.{Serving, Done, IsCalled, members, comes_of, turn_of}
use Rattle.udp_site.specs.inner.Outcomes.{at}
use Rattle.udp_site.specs.inner.SlotRecords.{AreSettled}
use Rattle.udp_site.proofs.Settled.{are_still_settled}

-- the records of one are those of the other, and then more
abbrev pub GoesOn : {C : Type 0} → (old new : OpenSite C) → Type 0
GoesOn old new = (more : List Record) × (new.book.records ≡ old.book.records ++ more)

same_on : {C : Type 0} (old new : OpenSite C) → new.book.records ≡ old.book.records → GoesOn old new
same_on old new is = ([], rw (is, append-nil))

module _ {C : Type 0} (device : C → Device) where
  answered_on : (old new : OpenSite C) (volatile : VolatileState) (e : Effect)
      (result : Result Answer SiteFault) (r : Option Record)
      → Keeps device r result old.book new.book → Gives old new volatile e result → GoesOn old new
  answered_on old new volatile e result None kept gives = same_on old new (rw kept)
  answered_on old new volatile e result (Some r) (inl (is, same)) gives =
      same_on old new (rw same)
  answered_on old new volatile e (Ok answer) (Some r) (inr c) gives = (r ∷ [], c.committed.0)
  answered_on old new volatile e (Err faults.Device) (Some r) (inr c) gives =
      same_on old new (c.device_failed refl).0
  answered_on old new volatile e (Err faults.NeedsOpen) (Some r) (inr c) gives = absurd gives
  answered_on old new volatile e (Err fault) (Some r) (inr c) gives =
      same_on old new (c.memory refl).records

  called_on : (old new : Serving C) (input : Input) (result : Result Answer SiteFault)
      → IsCalled device old input result new → GoesOn old.site new.site
  called_on old new input result is = go old.site.book.needs_opening refl
    where
      go : (shut : Bool) → old.site.book.needs_opening ≡ shut → GoesOn old.site new.site
      go true shut = same_on old.site new.site (rw (is.refused shut).1)
      go false opened =
          answered_on old.site new.site old.volatile (effect old.site old.volatile input) result
          (effect old.site old.volatile input).commits (is.answered opened).keeps
          (is.answered opened).gives

  turned_on : (addresses : List ℕ) (new : Serving C) (done : Done)
      (gives : Option (List ℕ → Result TreeFacts TreeFault)) (old : Serving C) (request : Request)
      → comes_of device addresses gives old request done new → GoesOn old.site new.site
  turned_on addresses new done gives old request comes =
      elim (came device addresses new done gives old request comes) [
        | inl c ↦ rw (← c.there) (called_on c.at new c.input c.result c.called)
        | inr (same, says) ↦ same_on old.site new.site (rw same)
      ]

  -- what is settled before a turn is so after it
  pub settled_after : (addresses : List ℕ) (gives : Option (List ℕ → Result TreeFacts TreeFault))
      (old : Serving C) (took : Taken) (done : Done) (next : Serving C) (site : OpenSite C)
      (before : ℕ) → turn_of device addresses gives old took done next → next.site ≡ site
      → AreSettled old.site.book.records before → AreSettled site.book.records before
  settled_after addresses gives old took done next site before comes there are =
      let on =
      turned_on addresses next done gives old (request_of (members old).federation took) comes in
      rw (← there, on.1) (are_still_settled old.site.book.records on.0 before are)
