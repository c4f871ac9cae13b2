-- Calls that are refused.
use Rattle.std.proofs.Common.{◌≡◌, inl, inr, Option, Some, None, Result, Err, refl, true, false}
use Rattle.std.specs.Prelude.{IsErrOf, ◌↔◌}
use Rattle.fed_types.specs.declared.bag_id.BagId.{BagId}
use Rattle.fed_types.specs.Faults.{IsOrFault}
use Rattle.fed_types.specs.Slots.{SlotName}
use Rattle.bag_check.specs.declared.fault.BagFault.{BagFault}
use Rattle.bag_check.specs.declared.fault.BagFault.TheVariants as checks
use Rattle.cell_device.specs.Devices.{Device}
use Rattle.records.specs.declared.record.Record.{Record}
use Rattle.proposer.specs.VolatileStates.{VolatileState}
use Rattle.site.specs.declared.answer.Answer.{Answer}
use Rattle.site.specs.declared.fault.SiteFault.{SiteFault}
use Rattle.site.specs.declared.fault.SiteFault.TheVariants as faults
use Rattle.site.specs.Answered.{Keeps, IsAnswered}
use Rattle.site.specs.Calls.{on_deposit}
use Rattle.site.specs.Effects.{Effect}
use Rattle.site.specs.Faults.{check_fault}
use Rattle.site.specs.Sites.{OpenSite, Represents}

module _ {C : Type 0} (device : C → Device) (old : OpenSite C) (volatile : VolatileState) where
  -- memory ran out before anything was done
  pub out_of_memory : (e : Effect) → Represents old volatile
      → IsAnswered device old old volatile e (Err faults.Memory)
  out_of_memory e stands = record { keeps = keeps e.commits; gives = stands }
    where
      keeps : (r : Option Record) → Keeps device r (Err faults.Memory) old.book old.book
      keeps None = refl
      keeps (Some r) = inl (refl, refl)

  -- the check of a tree has found a fault, or no memory
  pub check_refused : (slot : SlotName) (wanted : Result BagId BagFault) (fault : BagFault)
      → IsOrFault checks.Memory (Err fault) wanted → Represents old volatile
      → IsAnswered device old old volatile (on_deposit old.book.records volatile slot wanted)
      (Err (check_fault fault))
  unfolding on_deposit
  check_refused slot wanted fault (inl is) stands = rw (← is) (refused fault)
    where
      refused : (f : BagFault) → IsAnswered device old old volatile
          (on_deposit old.book.records volatile slot (Err f)) (Err (check_fault f))
      refused checks.Memory =
          out_of_memory (on_deposit old.book.records volatile slot (Err checks.Memory)) stands
      refused f = record { keeps = refl; gives = (refl, stands) }
  check_refused slot wanted fault (inr is) stands =
      let same : fault ≡ checks.Memory = cc in
      rw same (out_of_memory (on_deposit old.book.records volatile slot wanted) stands)

-- an answer of a site that needs no opening isn't that it does
pub needs_none : {C : Type 0} (device : C → Device) (old new : OpenSite C)
    (volatile : VolatileState)
    (e : Effect) (result : Result Answer SiteFault)
    → IsAnswered device old new volatile e result → IsErrOf result faults.NeedsOpen → ⊥
needs_none device old new volatile e result answered is = rw is at answered.gives

-- so a call that answers as the effect says refuses for that reason exactly where the site,
-- as a clause sees it, needs opening: never
pub never_needs : {C : Type 0} (device : C → Device) {inside now : OpenSite C} → inside ≡ now
    → ((volatile : VolatileState) × Represents inside volatile) → inside.book.needs_opening ≡ false
    → (new : OpenSite C) (effect : VolatileState → Effect) (result : Result Answer SiteFault)
    → ((volatile : VolatileState) → Represents now volatile
    → IsAnswered device now new volatile (effect volatile) result)
    → IsErrOf result faults.NeedsOpen ↔ (now.book.needs_opening ≡ true)
never_needs {C} device {inside} {now} seen some opened new effect result answered = (
  λ e. absurd (needs_none device now new here.0 (effect here.0) result (answered here.0 here.1) e),
  λ e. absurd (cc (e, still)),
)
  where
    here : (volatile : VolatileState) × Represents now volatile
    here = rw (← seen) some

    still : now.book.needs_opening ≡ false
    still = rw (← seen) opened
