-- A cell that is being read: whose it is, and which of its records are counted.
use Rattle.std.specs.Prelude.{◌≡◌, ◌-◌, false, IsSome, ℕ, List, [], ◌++◌, length, take}
use Rattle.std.specs.Prelude.{Option, Some, None}
use Rattle.fed_types.specs.Sites.{Membership}
use Rattle.records.specs.declared.record.Record.{Record}
use Rattle.ledger.specs.declared.ending.Ending.{Ending}
use Rattle.ledger.specs.declared.part.Head.{Head}
use Rattle.ledger.specs.declared.part.LastPart.{LastPart}
use Rattle.ledger.specs.declared.part.Part.{Part}
use Rattle.ledger.specs.Parts.{Told, nothing, HasTold}
use Rattle.audit.specs.Evidence.{SiteRecord}
use Rattle.audit_command.specs.declared.cell_defect.CellDefect.{CellDefect}
use Rattle.audit_command.specs.declared.cell_defect.CellDefect.TheVariants as faults
use Rattle.audit_command.specs.declared.cell_reading.CellReading.{CellReading}
use Rattle.audit_command.specs.declared.cell_reading.Progress.{Progress}
use Rattle.audit_command.specs.declared.cell_reading.Progress.TheVariants.{More, Ended}
use Rattle.audit_command.specs.declared.evidence.Evidence.{Evidence}
use Rattle.audit_command.specs.declared.standing.Standing.{Standing}
use Rattle.audit_command.specs.declared.standing.Standing.TheVariants.{Unknown, Member, Foreign}
use Rattle.audit_command.specs.declared.sync_rule.SyncRule.{SyncRule}
use Rattle.audit_command.specs.CellReadings.{IsMembers, IsReadingOf, of_site, damage_of}
use Rattle.audit_command.specs.CellReadings.{or_unread}
use Rattle.audit_command.specs.inner.Gathered.{IsEvidence}
use Rattle.audit_command.specs.inner.Marks.{IsMark, mark_after, more_synced}

-- ---- whose it is

-- whose a cell of this head and these records is
abbrev pub IsStanding : Membership → Head → List Record → Standing → Type 0
IsStanding members head records Unknown = ⊥
IsStanding members head records (Member site) =
    IsMembers members head records × (site ≡ head.owner.site)
IsStanding members head records Foreign = ¬ IsMembers members head records

-- whose it is after a part that has this head and these records
abbrev pub IsStandingAfter : Membership → Standing → Option Head → List Record → Standing → Type 0
IsStandingAfter members before None records after = after ≡ before
IsStandingAfter members before (Some head) records after = IsStanding members head records after

-- whose it is by everything that was given
abbrev pub HasStanding : Membership → Told → Standing → Type 0
HasStanding members told Unknown = told ≡ nothing
HasStanding members told (Member site) =
    (head : Head) × (told.head ≡ Some head) × IsStanding members head told.records (Member site)
HasStanding members told Foreign =
    (head : Head) × (told.head ≡ Some head) × IsStanding members head told.records Foreign

-- ---- what of it counts

-- the records of a member's cell
abbrev pub counted_as : Standing → List Record → List SiteRecord
counted_as Unknown records = []
counted_as (Member site) records = of_site site records
counted_as Foreign records = []

-- what is wrong with a cell that ends so
abbrev pub fault_of : Standing → Ending → Option CellDefect
fault_of Unknown ending = Some faults.Unread
fault_of (Member site) ending = damage_of ending
fault_of Foreign ending = Some faults.Foreign

-- these records were counted too
abbrev pub Adds : (old new : Evidence) → List SiteRecord → Type 0
Adds old new more =
    (members : Membership) (given : List SiteRecord) → IsEvidence members old given
    → IsEvidence members new (given ++ more)

-- these records are those that were counted, and the last ones, which aren't sure
pub record IsSplit (unsure : ℕ) (records counted last : List Record) : Type 0 where
  pub parts_are : records ≡ counted ++ last
  pub length_is : length counted ≡ length records - unsure

-- ---- one more part

-- A part was taken in: of the earlier last records and its own these are no longer among the last.
pub record IsPartTaken (members : Membership) (before after : CellReading) (part : Part)
    (sure : List Record) : Type 0 where
  pub reader_is : after.reader ≡ before.reader
  pub standing_is : IsStandingAfter members before.standing part.head part.records.items
      after.standing
  pub unsure_is : after.last.unsure ≡ before.last.unsure
  pub split : IsSplit before.last.unsure (before.last.records.items ++ part.records.items) sure
      after.last.records.items
  pub mark_is : after.mark ≡ mark_after 0 (length sure) before.mark

-- it was, and these were counted
abbrev pub IsPartCounted : Membership → (old new : Evidence) → (before after : CellReading) → Part
    → (sure : List Record) → Type 0
IsPartCounted members old new before after part sure =
    IsPartTaken members before after part sure
    × Adds old new (counted_as after.standing sure)

-- the last part was, and so were those of the last records that are synced; this is the defect
abbrev pub IsLastCounted : Membership → (old new : Evidence) → (before after : CellReading)
    → LastPart → Option CellDefect → Type 0
IsLastCounted members old new before after last fault =
    (sure : List Record) × IsPartTaken members before after last.part sure
    × Adds old new (counted_as after.standing
    (sure ++ take (more_synced after.mark) after.last.records.items))
    × (fault ≡ fault_of after.standing last.ending)

-- ---- between two pieces

-- of the records that were given these are sure, and were counted after this
pub record CountsTold (members : Membership) (rule : SyncRule) (reading : CellReading)
    (evidence : Evidence) (taken : List ℕ) (given : List SiteRecord) (told : Told)
    (sure : List Record) : Type 0 where
  pub told_is : HasTold reading.reader taken told
  pub standing_is : HasStanding members told reading.standing
  pub unsure_is : reading.last.unsure ≡ rule.most_unsynced
  pub split : IsSplit rule.most_unsynced told.records sure reading.last.records.items
  pub mark_is : IsMark rule.synced taken (length sure) reading.mark
  pub counted : IsEvidence members evidence (given ++ counted_as reading.standing sure)

-- these bytes were taken, and the records that they give were counted after this, except those of
-- the last that may be unsynced
abbrev pub HasCounted : Membership → SyncRule → CellReading → Evidence → (taken : List ℕ)
    → (given : List SiteRecord) → Type 0
HasCounted members rule reading evidence taken given =
    (told : Told) × (sure : List Record)
    × CountsTold members rule reading evidence taken given told sure

-- this is wrong with a cell that says all that its bytes do, and what counts of it was counted
abbrev pub IsCounted : Membership → SyncRule → Evidence → (bytes : List ℕ)
    → (given : List SiteRecord) → Option CellDefect → Type 0
IsCounted members rule evidence bytes given fault =
    (counted : List SiteRecord) × IsReadingOf members rule bytes fault counted
    × IsEvidence members evidence (given ++ counted)

-- after one more piece it goes on; or there is a defect, whatever follows
abbrev pub IsProgress : Membership → SyncRule → CellReading → Evidence → (taken : List ℕ)
    → (given : List SiteRecord) → Progress → Type 0
IsProgress members rule reading evidence taken given More =
    HasCounted members rule reading evidence taken given
IsProgress members rule reading evidence taken given (Ended fault) =
    IsSome fault
    × ((more : List ℕ) → IsCounted members rule evidence (taken ++ more) given fault)

-- the same of a cell of which nothing can be read after these bytes
abbrev pub IsUnreadCounted : Membership → SyncRule → Evidence → (first : List ℕ)
    → (given : List SiteRecord) → Option CellDefect → Type 0
IsUnreadCounted members rule evidence first given fault =
    (found : Option CellDefect) × IsCounted members rule evidence first given found
    × (fault ≡ or_unread false found)
