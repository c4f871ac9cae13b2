-- A bag that is registered is on record.
use Rattle.std.proofs.Common.{◌≡◌, Bool, true, false, cond, refl, ap, ◌∙◌, List, [], ◌++◌, Option}
use Rattle.std.proofs.Common.{None, Some}
use Rattle.std.specs.Prelude.{Result, Ok, Err}
use Rattle.std.specs.Option.{option_to_list}
use Rattle.fed_types.specs.declared.bag_id.BagId.{BagId}
use Rattle.fed_types.specs.Bags.{same_bag}
use Rattle.fed_types.specs.Lists.{here}
use Rattle.fed_types.specs.Slots.{SlotName}
use Rattle.fed_types.specs.Laws.Bags.{same_bag_decides}
use Rattle.fed_types.specs.Laws.Lists.{has_left, has_right}
use Rattle.bag_check.specs.declared.fault.BagFault.{BagFault}
use Rattle.bag_check.specs.declared.fault.BagFault.TheVariants as checks
use Rattle.records.specs.declared.entry.Entry.TheVariants as entry
use Rattle.records.specs.declared.record.Record.{Record}
use Rattle.records.specs.Bounds.{HasEntry}
use Rattle.records.specs.SlotStates.{deposit_of, known_of}
use Rattle.records.proofs.Bounds.{deposit_among, known_among}
use Rattle.proposer.specs.VolatileStates.{VolatileState}
use Rattle.site.specs.declared.answer.Line.TheVariants as site_lines
use Rattle.site.specs.declared.fault.SiteFault.{SiteFault}
use Rattle.site.specs.declared.fault.SiteFault.TheVariants as faults
use Rattle.site.specs.Calls.{on_deposit, registering, other_than, deposit_fault}
use Rattle.site.specs.Faults.{check_fault}

module _ (slot : SlotName) (records : List Record) (volatile : VolatileState) where
  -- no other deposit is in the way, so the own one is this
  same_own : (bag own : BagId) (known : Option BagId)
      → deposit_fault (other_than bag (Some own)) known ≡ None → own ≡ bag
  same_own bag own known e = go (same_bag own bag) refl e
    where
      go : (t : Bool) → same_bag own bag ≡ t → deposit_fault (cond t None (Some own)) known ≡ None
          → own ≡ bag
      go true f g = (same_bag_decides own bag).0 f
      go false f g = absurd (cc g)

  by_own : (own : Option BagId) → deposit_of slot records ≡ own → (bag : BagId)
      → (known : Option BagId) → deposit_fault (other_than bag own) known ≡ None
      → HasEntry slot (records ++ option_to_list (registering slot own bag None volatile).commits)
      (entry.Deposit bag)
  by_own None e bag known f = has_right records (here refl)
  by_own (Some own) e bag known f =
      has_left [] (rw (← same_own bag own known f) (deposit_among slot records own e))

  by_fault : (own : Option BagId) → deposit_of slot records ≡ own → (found bag : BagId)
      (known : Option BagId) (fault : Option SiteFault)
      → deposit_fault (other_than found own) known ≡ fault
      → (registering slot own found fault volatile).says ≡ Ok (Some (site_lines.Registered bag))
      → HasEntry slot (records ++ option_to_list
      (registering slot own found fault volatile).commits) (entry.Deposit bag)
  by_fault own e found bag known None f says =
      let same : found ≡ bag = cc in
      rw (← same) (by_own own e found known f)
  by_fault own e found bag known (Some fault) f says = absurd (cc says)

  pub registered_is_kept : (checked : Result BagId BagFault) (bag : BagId)
      → (on_deposit records volatile slot checked).says ≡ Ok (Some (site_lines.Registered bag))
      → HasEntry slot (records ++ option_to_list (on_deposit records volatile slot checked).commits)
      (entry.Deposit bag)
  unfolding on_deposit
  registered_is_kept (Err fault) bag says = absurd (cc says)
  registered_is_kept (Ok found) bag says =
      by_fault (deposit_of slot records) refl found bag _ _ refl says

  -- a bag that is refused for another known one
  known_by_fault : (own known : Option BagId) → known_of slot records ≡ known → (found bag : BagId)
      (other : Option BagId) → other_than found known ≡ other
      → deposit_fault own other ≡ Some (faults.OtherKnown bag) → known ≡ Some bag
  known_by_fault (Some own) known e found bag other f g = absurd (cc g)
  known_by_fault None known e found bag None f g = absurd (cc g)
  known_by_fault None None e found bag (Some other) f g = absurd (cc f)
  known_by_fault None (Some known) e found bag (Some other) f g = go (same_bag known found) f
    where
      same : other ≡ bag
      same = cc

      go : (t : Bool) → cond t None (Some known) ≡ Some other → Some known ≡ Some bag
      go true h = absurd (cc h)
      go false h = h ∙ ap Some same

  refused_by : (own : Option BagId) (found bag : BagId) (fault : Option SiteFault)
      → (registering slot own found fault volatile).says ≡ Err (faults.OtherKnown bag)
      → fault ≡ Some (faults.OtherKnown bag)
  refused_by None found bag None says = absurd (cc says)
  refused_by (Some own) found bag None says = absurd (cc says)
  refused_by own found bag (Some fault) says = cc

  -- the check of a tree finds no known bag
  no_known : (fault : BagFault) (bag : BagId) → check_fault fault ≡ faults.OtherKnown bag → ⊥
  no_known checks.Memory bag e = cc
  no_known _ bag e = cc

  pub other_known_is : (checked : Result BagId BagFault) (bag : BagId)
      → (on_deposit records volatile slot checked).says ≡ Err (faults.OtherKnown bag)
      → HasEntry slot records (entry.Known bag)
  unfolding on_deposit
  other_known_is (Err fault) bag says = absurd (no_known fault bag (cc says))
  other_known_is (Ok found) bag says =
      let e = refused_by (deposit_of slot records) found bag _ says in
      known_among slot records bag
      (known_by_fault (other_than found (deposit_of slot records)) (known_of slot records) refl
      found bag (other_than found (known_of slot records)) refl e)

  -- a bag that is refused for another deposit
  none : (bag : BagId) (known : Option BagId)
      → deposit_fault None known ≡ Some (faults.OtherDeposit bag) → ⊥
  none bag None e = cc
  none bag (Some known) e = cc

  deposit_by_fault : (own : Option BagId) → deposit_of slot records ≡ own → (known : Option BagId)
      (found bag : BagId)
      → deposit_fault (other_than found own) known ≡ Some (faults.OtherDeposit bag)
      → HasEntry slot records (entry.Deposit bag)
  deposit_by_fault None e known found bag f = absurd (none bag known f)
  deposit_by_fault (Some own) e known found bag f = go (same_bag own found) f
    where
      go : (t : Bool)
          → deposit_fault (cond t None (Some own)) known ≡ Some (faults.OtherDeposit bag)
          → HasEntry slot records (entry.Deposit bag)
      go true g = absurd (none bag known g)
      go false g = let same : own ≡ bag = cc in rw (← same) (deposit_among slot records own e)

  deposit_refused_by : (own : Option BagId) (found bag : BagId) (fault : Option SiteFault)
      → (registering slot own found fault volatile).says ≡ Err (faults.OtherDeposit bag)
      → fault ≡ Some (faults.OtherDeposit bag)
  deposit_refused_by None found bag None says = absurd (cc says)
  deposit_refused_by (Some own) found bag None says = absurd (cc says)
  deposit_refused_by own found bag (Some fault) says = cc

  no_deposit : (fault : BagFault) (bag : BagId) → check_fault fault ≡ faults.OtherDeposit bag → ⊥
  no_deposit checks.Memory bag e = cc
  no_deposit _ bag e = cc

  pub other_deposit_is : (checked : Result BagId BagFault) (bag : BagId)
      → (on_deposit records volatile slot checked).says ≡ Err (faults.OtherDeposit bag)
      → HasEntry slot records (entry.Deposit bag)
  unfolding on_deposit
  other_deposit_is (Err fault) bag says = absurd (no_deposit fault bag (cc says))
  other_deposit_is (Ok found) bag says =
      let e = deposit_refused_by (deposit_of slot records) found bag _ says in
      deposit_by_fault (deposit_of slot records) refl
      (other_than found (known_of slot records)) found bag e
