-- A site that is called between turns.
use Rattle.std.proofs.Common.{◌≡◌, ◌↔◌, Bool, true, false, inl, inr, Option, Some, None, IsSome}
use Rattle.std.proofs.Common.{Result, Ok, Err, refl, IsErrOf}
use Rattle.cell_device.specs.Devices.{Device}
use Rattle.records.specs.declared.record.Record.{Record}
use Rattle.proposer.specs.VolatileStates.{VolatileState}
use Rattle.site.specs.declared.answer.Answer.{Answer}
use Rattle.site.specs.declared.fault.SiteFault.{SiteFault}
use Rattle.site.specs.declared.fault.SiteFault.TheVariants as faults
use Rattle.site.specs.Answered.{IsAnswered, Keeps}
use Rattle.site.specs.Calls.{Input}
use Rattle.site.specs.Effects.{Effect}
use Rattle.site.specs.Sites.{OpenSite, Represents, effect}
use Rattle.udp_site.specs.Turns.{Serving, IsServing, IsCalled, volatile_after}

module _ {C : Type 0} (device : C → Device) (old : OpenSite C) (new : OpenSite C)
    (volatile : VolatileState) where
  -- a device that failed leaves a site that needs opening
  needs_opening_then : (r : Option Record) → IsSome r
      → Keeps device r (Err faults.Device) old.book new.book → new.book.needs_opening ≡ true
  needs_opening_then None is kept = absurd (cc is)
  needs_opening_then (Some r) is (inl unchanged) = absurd (cc unchanged.0)
  needs_opening_then (Some r) is (inr commits) = (commits.device_failed refl).1

  -- what was answered leaves a site that represents what it has heard then, unless it needs opening
  stands_then : (e : Effect) (result : Result Answer SiteFault)
      → IsAnswered device old new volatile e result → new.book.needs_opening ≡ false
      → Represents new (volatile_after e volatile result)
  stands_then e (Ok answer) answered opened = answered.gives.2
  stands_then e (Err faults.Memory) answered opened = answered.gives
  stands_then e (Err faults.Device) answered opened =
      absurd (cc (needs_opening_then e.commits answered.gives answered.keeps, opened))
  stands_then e (Err faults.NeedsOpen) answered opened = absurd answered.gives
  stands_then e (Err fault) answered opened = answered.gives.1

-- what a call's contract says, of a site that serves
module _ {C : Type 0} (device : C → Device) (input : Input) (result : Result Answer SiteFault)
    (start site : OpenSite C) where
  abbrev pub Answers : Type 0
  Answers =
      start.book.needs_opening ≡ false → (volatile : VolatileState) → Represents start volatile
      → IsAnswered device start site volatile (effect start volatile input) result

  abbrev pub NeedsOpen : Type 0
  NeedsOpen = IsErrOf result faults.NeedsOpen ↔ (start.book.needs_opening ≡ true)

  abbrev pub Untouched : Type 0
  Untouched = start.book.needs_opening ≡ true → site ≡ start

-- what is between turns after the call
abbrev pub called : {C : Type 0} → Serving C → Input → Result Answer SiteFault → OpenSite C
    → Serving C
called old input result site = record {
  site = site;
  volatile = volatile_after (effect old.site old.volatile input) old.volatile result;
  idle = old.idle;
  tried = old.tried;
}

-- a call of a site that serves
pub record Call
    {C : Type 0} (device : C → Device) (old : Serving C) (input : Input)
    (result : Result Answer SiteFault) (start site : OpenSite C)
    : Type 0 where
  pub there : old.site ≡ start
  pub serves : IsServing old
  pub answers : Answers device input result start site
  pub needs_open : NeedsOpen device input result start site
  pub untouched : Untouched device input result start site

module _ {C : Type 0} {device : C → Device} {old : Serving C} {input : Input}
    {result : Result Answer SiteFault} {start site : OpenSite C}
    (call : Call device old input result start site) where
  answers : Answers device input result old.site site
  answers = rw call.there call.answers

  untouched : Untouched device input result old.site site
  untouched = rw call.there call.untouched

  pub is_called : IsCalled device old input result (called old input result site)
  is_called =
      let needs_open : NeedsOpen device input result old.site site =
      rw call.there call.needs_open in
      record {
        answered = λ opened. answers opened old.volatile (call.serves opened);
        refused = λ shut. (needs_open.1 shut, untouched shut);
        volatile = refl;
        idle = refl;
        tried = refl;
      }

  pub still_serving : IsServing (called old input result site)
  still_serving = go old.site.book.needs_opening refl
    where
      go : (shut : Bool) → old.site.book.needs_opening ≡ shut
          → IsServing (called old input result site)
      go true shut opened = absurd (cc (untouched shut, shut, opened))
      go false before opened =
          stands_then device old.site site old.volatile (effect old.site old.volatile input) result
          (answers before old.volatile (call.serves before)) opened

-- a call that changes nothing: the site needs opening, or it refuses
module _ {C : Type 0} (device : C → Device) (old : Serving C) (input : Input) where
  refuses_call : (fault : SiteFault)
      → (old.site.book.needs_opening ≡ false
      → IsAnswered device old.site old.site old.volatile (effect old.site old.volatile input)
      (Err fault))
      → (old.site.book.needs_opening ≡ true → fault ≡ faults.NeedsOpen)
      → IsCalled device old input (Err fault) old
  refuses_call fault answered shut = record {
    answered = answered;
    refused = λ is. (rw (shut is), refl);
    volatile = refl;
    idle = refl;
    tried = refl;
  }

  -- there is one that refuses so where the site needs no opening
  pub could_be_called : (P : SiteFault → Type 0)
      → (old.site.book.needs_opening ≡ false
      → (fault : SiteFault)
      × IsAnswered device old.site old.site old.volatile (effect old.site old.volatile input)
      (Err fault) × P fault)
      → (fault : SiteFault) × IsCalled device old input (Err fault) old
      × (old.site.book.needs_opening ≡ false → P fault)
  could_be_called P could = go old.site.book.needs_opening refl
    where
      go : (shut : Bool) → old.site.book.needs_opening ≡ shut
          → (fault : SiteFault) × IsCalled device old input (Err fault) old
          × (old.site.book.needs_opening ≡ false → P fault)
      go true shut = (
        faults.NeedsOpen,
        refuses_call faults.NeedsOpen (λ opened. absurd (cc (shut, opened))) (λ _. refl),
        λ opened. absurd (cc (shut, opened)),
      )
      go false opened =
          let refusal = could opened in (
            refusal.0,
            refuses_call refusal.0 (λ _. refusal.1) (λ shut. absurd (cc (shut, opened))),
            λ _. refusal.2,
          )
