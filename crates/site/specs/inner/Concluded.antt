-- What a site's last step does: it commits its record, if there is one, takes note of it, and hands
-- out what it says and its datagrams.
use Rattle.std.specs.Prelude.{◌≡◌, ◌⊎◌, ℕ, List, [], ◌∷◌, map, Option, Some, None, IsSome, Result}
use Rattle.std.specs.Prelude.{Ok, Err}
use Rattle.std.specs.Prelude.{OnOk, OnErr, IfErr, IsErrOf}
use Rattle.cell_device.specs.Devices.{Device}
use Rattle.records.specs.declared.record.Record.{Record}
use Rattle.book.specs.declared.fault.CommitFault.{CommitFault}
use Rattle.book.specs.declared.fault.CommitFault.TheVariants as commits
use Rattle.fed_types.specs.Slots.{SlotName}
use Rattle.dgram.specs.declared.body.Body.{Body}
use Rattle.proposer.specs.VolatileStates.{VolatileState, hears}
use Rattle.proposer.specs.UnderWay.{UnderWay, current_by, current_if, under_way_if}
use Rattle.proposer.specs.UnderWay.{heard_if, waits}
use Rattle.site.specs.Contents as tables
use Rattle.fed_types.specs.Quorums.{quorums_of}
use Rattle.fed_types.specs.Sites.{members_of}
use Rattle.site.specs.declared.answer.Answer.{Answer}
use Rattle.site.specs.declared.answer.Line.{Line}
use Rattle.site.specs.declared.fault.SiteFault.{SiteFault}
use Rattle.site.specs.declared.fault.SiteFault.TheVariants as faults
use Rattle.book.specs.Committed.{Commits}
use Rattle.site.specs.Answered.{Keeps, IsAnswered}
use Rattle.site.specs.Arrivals.{on_body}
use Rattle.site.specs.Datagrams.{handed_out, datagram}
use Rattle.site.specs.Effects.{to_each}
use Rattle.site.specs.Sites.{OpenSite, Represents, IsInOrder}

-- the tables, with the records, represent a volatile state and what is under way
abbrev pub Stands : {C : Type 0} → OpenSite C → VolatileState → UnderWay → Type 0
Stands s volatile under = tables.Represents s.tables s.book.records volatile under

-- the volatile state, and what is under way, once a record is noted
abbrev pub noted_volatile : VolatileState → UnderWay → Record → VolatileState
noted_volatile volatile under r =
    current_if volatile r.slot (current_by (under.begun r.slot) r.body)

abbrev pub noted_under : UnderWay → Record → UnderWay
noted_under under r = under_way_if under r.slot (current_by (under.begun r.slot) r.body)

-- or if there is one
abbrev pub volatile_after : VolatileState → UnderWay → Option Record → VolatileState
volatile_after volatile under None = volatile
volatile_after volatile under (Some r) = noted_volatile volatile under r

abbrev pub under_after : UnderWay → Option Record → UnderWay
under_after under None = under
under_after under (Some r) = noted_under under r

-- what a fault of a site says of the commit
abbrev pub fault_of : SiteFault → CommitFault
fault_of faults.Device = commits.Device
fault_of faults.NeedsOpen = commits.NeedsOpen
fault_of fault = commits.Memory

abbrev pub committed : Result (Unit {0}) SiteFault → Result (Unit {0}) CommitFault
committed (Ok x) = Ok tt
committed (Err fault) = Err (fault_of fault)

-- a commit: only the device or memory may have refused it; then the site represents what it
-- represented before
pub record IsCommitted
    {C : Type 0} (device : C → Device) (old new : OpenSite C) (r : Record)
    (result : Result (Unit {0}) SiteFault)
    : Type 0 where
  pub book : (IsErrOf result faults.Memory × (new.book ≡ old.book))
      ⊎ Commits device old.book r (committed result) new.book
  pub stands : OnOk result
      ((volatile : VolatileState) (under : UnderWay) → Stands old volatile under
      → Stands new (noted_volatile volatile under r) (noted_under under r))
  pub same : OnErr result ((volatile : VolatileState) (under : UnderWay) → Stands old volatile under
      → Stands new volatile under)
  pub faults : IfErr result (λ fault. (fault ≡ faults.Memory) ⊎ (fault ≡ faults.Device))
  pub order : IsInOrder old → IsInOrder new

-- a conclusion: with a record that is a commit
pub record Concludes
    {C : Type 0} (device : C → Device) (old new : OpenSite C) (r : Option Record)
    (line : Option Line) (datagrams : List (ℕ × List ℕ)) (result : Result Answer SiteFault)
    : Type 0 where
  pub keeps : Keeps device r result old.book new.book
  pub stands : OnOk result
      ((volatile : VolatileState) (under : UnderWay) → Stands old volatile under
      → Stands new (volatile_after volatile under r) (under_after under r))
  pub same : OnErr result ((volatile : VolatileState) (under : UnderWay) → Stands old volatile under
      → Stands new volatile under)
  pub faults : IfErr result (λ fault. (fault ≡ faults.Memory)
      ⊎ ((fault ≡ faults.Device) × IsSome r))
  pub says : (answer : Answer) → result ≡ Ok answer
      → (answer.line ≡ line) × (map handed_out answer.sends.items ≡ datagrams)

-- the datagrams of a message about a slot, for one site, or for all members
abbrev pub one_datagram : {C : Type 0} → OpenSite C → SlotName → Body → ℕ → List (ℕ × List ℕ)
one_datagram s slot body to =
    map (datagram s.book.owner.members.federation) (to_each slot body (to ∷ []))

abbrev pub all_datagrams : {C : Type 0} → OpenSite C → SlotName → Body → List (ℕ × List ℕ)
all_datagrams s slot body =
    map (datagram s.book.owner.members.federation)
    (to_each slot body (members_of s.book.owner.members))

-- a proposal that became ready is sent to all: what waits is heard, and no record is made
pub record Issues
    {C : Type 0} (old new : OpenSite C) (slot : SlotName)
    (datagrams : List (ℕ × List ℕ)) (result : Result Answer SiteFault)
    : Type 0 where
  pub book : new.book ≡ old.book
  pub heard : OnOk result ((volatile : VolatileState) (under : UnderWay) → Stands old volatile under
      → Stands new (heard_if volatile (under.waiting slot)) (waits under slot None))
  pub same : OnErr result ((volatile : VolatileState) (under : UnderWay) → Stands old volatile under
      → Stands new volatile under)
  pub faults : IfErr result (λ fault. fault ≡ faults.Memory)
  pub says : (answer : Answer) → result ≡ Ok answer
      → (answer.line ≡ None) × (map handed_out answer.sends.items ≡ datagrams)

-- a message of a member is answered
abbrev pub HearsBody :
    {C : Type 0} → (C → Device) → (old new : OpenSite C) → SlotName → Body
    → Result Answer SiteFault → Type 0
HearsBody device old new slot body result =
    (volatile : VolatileState) → Represents old volatile → IsAnswered device old new volatile
    (on_body (quorums_of old.book.owner.members) old.book.owner.site old.book.records volatile
    (hears volatile (record { slot = slot; body = body })) slot body) result
