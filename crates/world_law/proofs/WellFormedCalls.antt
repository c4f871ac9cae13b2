-- What a site does with a well-formed input is well-formed.
use Rattle.std.proofs.Common.{ℕ, ◌+◌, ◌<◌, Bool, true, refl, arith}
use Rattle.std.proofs.Common.{List, [], ◌∷◌, Option, None, Some}
use Rattle.std.specs.Prelude.{Result, Ok, Err, IfOk}
use Rattle.std.specs.Bool.{nat_lt}
use Rattle.std.specs.Option.{IfSome}
use Rattle.std.proofs.lemmas.Bool.{ltb-true, cond_both}
use Rattle.fed_types.specs.declared.bag_id.BagId.{BagId}
use Rattle.fed_types.specs.Ballots.{BallotNumber}
use Rattle.fed_types.specs.Limits.{greatest_round}
use Rattle.fed_types.specs.Quorums.{QuorumSystem}
use Rattle.fed_types.specs.Sites.{IsSiteNumber}
use Rattle.fed_types.specs.Slots.{SlotName}
use Rattle.fed_types.specs.Values.{IsSlot, IsBallot, IsBag}
use Rattle.bag_check.specs.declared.fault.BagFault.{BagFault}
use Rattle.records.specs.declared.entry.Entry.TheVariants as entry
use Rattle.records.specs.declared.record.Record.{Record}
use Rattle.records.specs.Records.{AreRecords}
use Rattle.records.specs.SlotStates.{deposit_of, known_of}
use Rattle.dgram.specs.declared.body.Body.TheVariants.{Prepare, Ask}
use Rattle.dgram.specs.Messages.{IsMessage}
use Rattle.proposer.specs.Proposals.{last_round, next_ballot}
use Rattle.proposer.specs.VolatileStates.{VolatileState}
use Rattle.site.specs.declared.fault.SiteFault.{SiteFault}
use Rattle.site.specs.Calls.{Input, Deposits, Proposes, Recovers, Asks, Arrives, effect_of}
use Rattle.site.specs.Calls.{registering, on_deposit, begins_next, begins_ballot_if, on_propose}
use Rattle.site.specs.Calls.{recovers_if, on_recover, on_ask}
use Rattle.site.specs.Effects.{refuses}
use Rattle.world_law.specs.WellFormed.{MembersAreSites, AreMessages}
use Rattle.world_law.proofs.WellFormedEffects.{IsWellFormedEffect, one_site, sends_are, says_is}
use Rattle.world_law.proofs.WellFormedArrivals.{arrival_is}

-- an input is well-formed if it brings in nothing else
abbrev pub IsWellFormedInput : Input → Type 0
IsWellFormedInput (Deposits slot checked) = IsSlot slot × IfOk checked IsBag
IsWellFormedInput (Proposes slot) = IsSlot slot
IsWellFormedInput (Recovers slot) = IsSlot slot
IsWellFormedInput (Asks slot member) = IsSiteNumber member × IsSlot slot
IsWellFormedInput (Arrives message) = IfSome message IsMessage

pub refuses_is : (volatile : VolatileState) → AreMessages volatile.heard → (fault : SiteFault)
    → IsWellFormedEffect (refuses fault volatile)
refuses_is volatile heard fault = says_is (refuses fault volatile) refl tt heard

-- ---- site n, with these records and this volatile state

module _ (q : QuorumSystem) (members : MembersAreSites q) (n : ℕ) (is_site : IsSiteNumber n)
    (records : List Record) (are_records : AreRecords records) (old : VolatileState)
    (are_heard : AreMessages old.heard) where
  -- ---- a call

  registering_is : (slot : SlotName) → IsSlot slot → (own : Option BagId) (bag : BagId)
      → IsBag bag → (fault : Option SiteFault)
      → IsWellFormedEffect (registering slot own bag fault old)
  registering_is slot is_slot own bag is_bag (Some fault) = refuses_is old are_heard fault
  registering_is slot is_slot None bag is_bag None =
      says_is (registering slot None bag None old) refl (is_slot, is_bag) are_heard
  registering_is slot is_slot (Some own) bag is_bag None =
      says_is (registering slot (Some own) bag None old) refl tt are_heard

  deposited_is : (slot : SlotName) → IsSlot slot → (checked : Result BagId BagFault)
      → IfOk checked IsBag → IsWellFormedEffect (on_deposit records old slot checked)
  unfolding on_deposit
  deposited_is slot is_slot (Err fault) h = refuses_is old are_heard _
  deposited_is slot is_slot (Ok bag) h =
      registering_is slot is_slot (deposit_of slot records) bag h _

  -- the ballot of a round that is left
  next_is : (slot : SlotName) → IfSome (next_ballot n slot records old.heard) IsBallot
  unfolding next_ballot
  next_is slot =
      let last : ℕ = last_round slot records old.heard in
      cond_both (nat_lt last greatest_round) (Some (record { round = 1 + last; site = n })) None
      (λ (o : Option BallotNumber). IfSome o IsBallot)
      (λ e. let left : last < greatest_round = ltb-true last greatest_round e in
      (omega arith, omega (arith, left), is_site)) (λ e. tt)

  begun_is : (slot : SlotName) → IsSlot slot → (next : Option BallotNumber) → IfSome next IsBallot
      → IsWellFormedEffect (begins_next q slot next old)
  begun_is slot is_slot None h = refuses_is old are_heard _
  begun_is slot is_slot (Some b) h =
      sends_are slot is_slot (Some (entry.Round b.round)) (h.0, h.1) (Prepare b) h q.members members
      _ are_heard

  issuing_is : (slot : SlotName) → IsSlot slot → (known own : Option BagId)
      (next : Option BallotNumber) → IfSome next IsBallot
      → IsWellFormedEffect (begins_ballot_if q slot known own next old)
  issuing_is slot is_slot None (Some bag) next h = begun_is slot is_slot next h
  issuing_is slot is_slot known own next h = refuses_is old are_heard _

  proposed_is : (slot : SlotName) → IsSlot slot
      → IsWellFormedEffect (on_propose q n records old slot)
  unfolding on_propose
  proposed_is slot is_slot =
      issuing_is slot is_slot (known_of slot records) (deposit_of slot records) _ (next_is slot)

  recovering_is : (slot : SlotName) → IsSlot slot → (known : Option BagId) (has : Bool)
      (next : Option BallotNumber) → IfSome next IsBallot
      → IsWellFormedEffect (recovers_if q slot known has next old)
  recovering_is slot is_slot None true next h = begun_is slot is_slot next h
  recovering_is slot is_slot known has next h = refuses_is old are_heard _

  recovered_is : (slot : SlotName) → IsSlot slot
      → IsWellFormedEffect (on_recover q n records old slot)
  unfolding on_recover
  recovered_is slot is_slot =
      recovering_is slot is_slot (known_of slot records) _ _ (next_is slot)

  asked_is : (slot : SlotName) → IsSlot slot → (member : ℕ) → IsSiteNumber member
      → IsWellFormedEffect (on_ask n old slot member)
  unfolding on_ask
  asked_is slot is_slot member is_member =
      sends_are slot is_slot None tt (Ask n) is_site (member ∷ []) (one_site member is_member) old
      are_heard

  -- ---- any input

  pub effect_is : (input : Input) → IsWellFormedInput input
      → IsWellFormedEffect (effect_of q n records old input)
  effect_is (Deposits slot checked) h = deposited_is slot h.0 checked h.1
  effect_is (Proposes slot) h = proposed_is slot h
  effect_is (Recovers slot) h = recovered_is slot h
  effect_is (Asks slot member) h = asked_is slot h.1 member h.0
  effect_is (Arrives message) h =
      arrival_is q members n is_site records are_records old are_heard message h
