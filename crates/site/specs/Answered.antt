-- When a call answers as the definitions say: its record is committed first, and then what it says
-- and its datagrams are handed out.
use Rattle.std.specs.Prelude.{◌≡◌, ◌⊎◌, ⊤, List, map}
use Rattle.std.specs.Prelude.{Option, Some, None, IsSome, Result, Ok, Err, IsErrOf}
use Rattle.cell_device.specs.Devices.{Device}
use Rattle.records.specs.declared.record.Record.{Record}
use Rattle.records.specs.SlotStates.{known_of}
use Rattle.book.specs.declared.fault.CommitFault.{CommitFault}
use Rattle.book.specs.declared.fault.CommitFault.TheVariants as commits
use Rattle.book.specs.Committed.{Commits}
use Rattle.book.specs.OpenBooks.{OpenBook}
use Rattle.proposer.specs.VolatileStates.{VolatileState}
use Rattle.site.specs.declared.answer.Answer.{Answer}
use Rattle.site.specs.declared.answer.Line.{Line}
use Rattle.site.specs.declared.answer.Line.TheVariants as site_lines
use Rattle.site.specs.declared.fault.SiteFault.{SiteFault}
use Rattle.site.specs.declared.fault.SiteFault.TheVariants as faults
use Rattle.site.specs.Datagrams.{handed_out, datagram}
use Rattle.site.specs.Effects.{Effect}
use Rattle.site.specs.Sites.{OpenSite, Represents}

-- ---- the record

-- What a call's answer says about the commit of its record. Device and NeedsOpen are the commit's
-- own. Of the other faults, only Memory comes if there is a record: a refusal of the definitions
-- has none, and `Keeps` doesn't require this of it.
abbrev pub commit_of : Result Answer SiteFault → Result (Unit {0}) CommitFault
commit_of (Ok answer) = Ok tt
commit_of (Err faults.Device) = Err commits.Device
commit_of (Err faults.NeedsOpen) = Err commits.NeedsOpen
commit_of (Err fault) = Err commits.Memory

-- without a record the book is as it was; with one it is as the commit left it, or memory ran out
-- before the commit
abbrev pub Keeps :
    {C : Type 0} → (C → Device) → Option Record → Result Answer SiteFault → (old new : OpenBook C)
    → Type 0
Keeps device None result old new = new ≡ old
Keeps device (Some r) result old new =
    (IsErrOf result faults.Memory × (new ≡ old)) ⊎ Commits device old r (commit_of result) new

-- ---- the answer

-- the call says what it has to and hands out the datagrams, in order; a refusal is that of the
-- definitions, and then, or if memory runs out, the site represents what it represented; Device can
-- come only if there is a record
abbrev pub Gives :
    {C : Type 0} → (old new : OpenSite C) → VolatileState → Effect → Result Answer SiteFault
    → Type 0
Gives old new volatile e (Ok answer) =
    (e.says ≡ Ok answer.line)
    × (map handed_out answer.sends.items
    ≡ map (datagram old.book.owner.members.federation) e.sends)
    × Represents new e.volatile
Gives old new volatile e (Err faults.Memory) = Represents new volatile
Gives old new volatile e (Err faults.Device) = IsSome e.commits
Gives old new volatile e (Err faults.NeedsOpen) = ⊥
Gives old new volatile e (Err fault) = (e.says ≡ Err fault) × Represents new volatile

-- a call of a site that needs no opening answers as the definitions say
pub record IsAnswered
    {C : Type 0} (device : C → Device) (old new : OpenSite C) (volatile : VolatileState)
    (e : Effect)
    (result : Result Answer SiteFault)
    : Type 0 where
  pub keeps : Keeps device e.commits result old.book new.book
  pub gives : Gives old new volatile e result

-- if the definitions refuse, the call refuses in the same way, whatever memory there is
abbrev pub IsRefused : Effect → Result Answer SiteFault → Type 0
IsRefused e result = (fault : SiteFault) → e.says ≡ Err fault → result ≡ Err fault

-- a line that reports a bag names the known bag of these records
abbrev pub SaysWhatIsKnown : Option Line → List Record → Type 0
SaysWhatIsKnown (Some (site_lines.Known slot bag)) records = known_of slot records ≡ Some bag
SaysWhatIsKnown line records = ⊤
