-- A valid bag is deposited, or why it isn't.
use Rattle.std.proofs.Common.{◌≡◌, ℕ, true, false, is_some, List, [], map, Option, Some, None}
use Rattle.std.proofs.Common.{Result, Ok, Err, refl}
use Rattle.fed_types.specs.declared.bag_id.BagId.{BagId}
use Rattle.fed_types.specs.Slots.{SlotName}
use Rattle.cell_device.specs.Devices.{Device}
use Rattle.records.specs.declared.entry.Entry.TheVariants as entry
use Rattle.records.specs.SlotStates.{known_of, deposit_of}
use Rattle.proposer.specs.VolatileStates.{VolatileState}
use Rattle.site.specs.declared.answer.Answer.{Answer}
use Rattle.site.specs.declared.answer.Line.TheVariants as site_lines
use Rattle.site.specs.declared.fault.SiteFault.{SiteFault}
use Rattle.site.specs.declared.fault.SiteFault.TheVariants as faults
use Rattle.site.specs.Answered.{IsAnswered}
use Rattle.site.specs.Calls.{Deposits, on_deposit, registering, other_than, deposit_fault}
use Rattle.site.specs.Datagrams.{handed_out}
use Rattle.site.specs.Sites.{OpenSite, Represents, effect}
use Rattle.site.specs.inner.Concluded.{Concludes}
use Rattle.site.proofs.Conclusions.{concluded}

-- a thing that is there, or isn't
pub some_of : (o : Option BagId) → is_some o ≡ true → (a : BagId) × (o ≡ Some a)
some_of None e = absurd (cc e)
some_of (Some a) e = (a, refl)

pub none_of : (o : Option BagId) → is_some o ≡ false → o ≡ None
none_of None e = refl
none_of (Some a) e = absurd (cc e)

module _ {C : Type 0} (device : C → Device) (old : OpenSite C) (volatile : VolatileState)
    (slot : SlotName) (bag : BagId) (own known : Option BagId)
    (o : own ≡ deposit_of slot old.book.records) (k : known ≡ known_of slot old.book.records)
    (stands : Represents old volatile) where
  -- what the definitions say, by the two bags
  deposit_effect : (fault : Option SiteFault)
      → deposit_fault (other_than bag own) (other_than bag known) ≡ fault
      → registering slot own bag fault volatile ≡ effect old volatile (Deposits slot (Ok bag))
  unfolding on_deposit
  deposit_effect fault is = rw (← o, ← k, is)

  -- another bag is in the way
  pub deposit_refused : (fault : SiteFault)
      → deposit_fault (other_than bag own) (other_than bag known) ≡ Some fault
      → IsAnswered device old old volatile (effect old volatile (Deposits slot (Ok bag)))
      (Err fault)
  deposit_refused fault is =
      rw (← deposit_effect (Some fault) is) (go (other_than bag own) (other_than bag known) is)
    where
      go : (a b : Option BagId) → deposit_fault a b ≡ Some fault
          → IsAnswered device old old volatile (registering slot own bag (Some fault) volatile)
          (Err fault)
      go (Some a) b e =
          let same : faults.OtherDeposit a ≡ fault = cc in
          rw (← same) (record { keeps = refl; gives = (refl, stands) })
      go None (Some b) e =
          let same : faults.OtherKnown b ≡ fault = cc in
          rw (← same) (record { keeps = refl; gives = (refl, stands) })
      go None None e = absurd (cc e)

  module _ (is : deposit_fault (other_than bag own) (other_than bag known) ≡ None) where
    -- the slot has this deposit
    pub deposited_again : (a : BagId) → own ≡ Some a → (answer : Answer)
        → answer.line ≡ Some (site_lines.Registered bag)
        → map handed_out answer.sends.items ≡ []
        → IsAnswered device old old volatile (effect old volatile (Deposits slot (Ok bag)))
        (Ok answer)
    deposited_again a there answer line sends =
        rw (← deposit_effect None is, there) (record { keeps = refl; gives = (cc, sends, stands) })

    -- it has none, and this one is recorded
    pub deposited : (new : OpenSite C) (datagrams : List (ℕ × List ℕ))
        (result : Result Answer SiteFault)
        → own ≡ None → datagrams ≡ []
        → Concludes device old new (Some (record { slot = slot; body = entry.Deposit bag }))
        (Some (site_lines.Registered bag)) datagrams result
        → IsAnswered device old new volatile (effect old volatile (Deposits slot (Ok bag))) result
    deposited new datagrams result none nothing c =
        rw (← deposit_effect None is, none)
        (concluded device old old new volatile stands.0 (registering slot None bag None volatile)
        (Some (site_lines.Registered bag)) datagrams result c
        refl stands.1 refl nothing (λ s. (stands.0, s)))
