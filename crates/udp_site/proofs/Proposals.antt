-- A site that begins a ballot, for a proposal or a recovery: it refuses where the definitions do.
use Rattle.site.specs.Answered.{Gives, IsAnswered, IsRefused}
use Rattle.udp_site.proofs.Called.{could_be_called}
use Rattle.std.proofs.Common.{◌||◌, ◌≡◌, Bool, true, false, Option, Some, None, Result, Err, refl}
use Rattle.std.proofs.Common.{is_some}
use Rattle.fed_types.specs.declared.bag_id.BagId.{BagId}
use Rattle.fed_types.specs.Ballots.{BallotNumber}
use Rattle.fed_types.specs.Quorums.{QuorumSystem, quorums_of}
use Rattle.fed_types.specs.Slots.{SlotName}
use Rattle.cell_device.specs.Devices.{Device}
use Rattle.records.specs.SlotStates.{known_of, deposit_of, vote_of}
use Rattle.proposer.specs.Proposals.{next_ballot}
use Rattle.proposer.specs.VolatileStates.{VolatileState}
use Rattle.site.specs.declared.answer.Answer.{Answer}
use Rattle.site.specs.declared.answer.Line.{Line}
use Rattle.site.specs.declared.fault.SiteFault.{SiteFault}
use Rattle.site.specs.declared.fault.SiteFault.TheVariants as faults
use Rattle.site.specs.Calls.{Proposes, Recovers, Input, on_propose, on_recover, begins_ballot}
use Rattle.site.specs.Calls.{begins_ballot_if, begins_next, recovers_if}
use Rattle.site.specs.Effects.{Effect}
use Rattle.site.specs.Effects as effects
use Rattle.site.specs.Sites.{OpenSite, Represents, effect}
use Rattle.site.proofs.Refused.{out_of_memory}
use Rattle.udp_site.specs.Turns.{Serving, IsServing, IsCalled, Refuses}

-- what a call's contract says of its refusals
abbrev pub RefusesAt :
    {C : Type 0} → Input → Result Answer SiteFault → (start : OpenSite C) → Type 0
RefusesAt input result start =
    start.book.needs_opening ≡ false → (volatile : VolatileState) → Represents start volatile
    → IsRefused (effect start volatile input) result

pub refuses : {C : Type 0} (old : Serving C) {start : OpenSite C} → old.site ≡ start → IsServing old
    → (input : Input) (result : Result Answer SiteFault) → RefusesAt input result start
    → Refuses old input result
refuses old same serving input result at_start opened =
    (rw (← same) at at_start) opened old.volatile (serving opened)

module _ {C : Type 0} (device : C → Device) (s : OpenSite C) (volatile : VolatileState)
    (stands : Represents s volatile) where
  -- a refusal that changes nothing
  abbrev CouldRefuse : Effect → Type 0
  CouldRefuse e =
      (fault : SiteFault) × IsAnswered device s s volatile e (Err fault) × IsRefused e (Err fault)

  answered : (f fault : SiteFault) → ◌≡◌ {A = Result (Option Line) SiteFault} (Err f) (Err fault)
      → ◌≡◌ {A = Result Answer SiteFault} (Err f) (Err fault)
  answered f fault e = cc

  refusal : (fault : SiteFault) → Gives s s volatile (effects.refuses fault volatile) (Err fault)
      → CouldRefuse (effects.refuses fault volatile)
  refusal fault gives = (fault, record { keeps = refl; gives = gives }, answered fault)

  by_ballot : (q : QuorumSystem) (slot : SlotName) (next : Option BallotNumber)
      → CouldRefuse (begins_next q slot next volatile)
  by_ballot q slot None = refusal faults.RoundsSpent (refl, stands)
  by_ballot q slot (Some ballot) = (
    faults.Memory,
    out_of_memory device s volatile (begins_ballot q slot ballot volatile) stands,
    λ fault e. absurd (cc e),
  )

  by_deposit : (q : QuorumSystem) (slot : SlotName) (known own : Option BagId)
      (next : Option BallotNumber) → CouldRefuse (begins_ballot_if q slot known own next volatile)
  by_deposit q slot (Some known) own next = refusal faults.AlreadyKnown (refl, stands)
  by_deposit q slot None None next = refusal faults.NoDeposit (refl, stands)
  by_deposit q slot None (Some own) next = by_ballot q slot next

  by_record : (q : QuorumSystem) (slot : SlotName) (known : Option BagId) (has : Bool)
      (next : Option BallotNumber) → CouldRefuse (recovers_if q slot known has next volatile)
  by_record q slot (Some known) has next = refusal faults.AlreadyKnown (refl, stands)
  by_record q slot None false next = refusal faults.NothingToRecover (refl, stands)
  by_record q slot None true next = by_ballot q slot next

  could_refuse_proposal : (slot : SlotName) → CouldRefuse (effect s volatile (Proposes slot))
  unfolding on_propose
  could_refuse_proposal slot =
      by_deposit (quorums_of s.book.owner.members) slot (known_of slot s.book.records)
      (deposit_of slot s.book.records)
      (next_ballot s.book.owner.site slot s.book.records volatile.heard)

  could_refuse_recovery : (slot : SlotName) → CouldRefuse (effect s volatile (Recovers slot))
  unfolding on_recover
  could_refuse_recovery slot =
      by_record (quorums_of s.book.owner.members) slot (known_of slot s.book.records)
      (is_some (vote_of slot s.book.records) || is_some (deposit_of slot s.book.records))
      (next_ballot s.book.owner.site slot s.book.records volatile.heard)

-- there is a call that changes nothing, and that refuses where the definitions do
abbrev pub CouldBegin : {C : Type 0} → (C → Device) → Serving C → Input → Type 0
CouldBegin device old input =
    (fault : SiteFault) × IsCalled device old input (Err fault) old
    × Refuses old input (Err fault)

pub could_propose : {C : Type 0} (device : C → Device) (old : Serving C) (slot : SlotName)
    → IsServing old → CouldBegin device old (Proposes slot)
could_propose device old slot serves =
    could_be_called device old (Proposes slot) _
    (λ opened. could_refuse_proposal device old.site old.volatile (serves opened) slot)

pub could_recover : {C : Type 0} (device : C → Device) (old : Serving C) (slot : SlotName)
    → IsServing old → CouldBegin device old (Recovers slot)
could_recover device old slot serves =
    could_be_called device old (Recovers slot) _
    (λ opened. could_refuse_recovery device old.site old.volatile (serves opened) slot)
