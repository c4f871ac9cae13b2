-- What the cells that an auditor was given are worth: what is wrong with each, and which of its
-- records are counted.
use Rattle.std.specs.Prelude.{◌≡◌, ◌⊎◌, ◌<◌, ◌≤◌, ◌-◌, ◌||◌, ℕ, max, Bool, true, false, List, []}
use Rattle.std.specs.Prelude.{length, map, take}
use Rattle.std.specs.Prelude.{Option, Some, None}
use Rattle.std.specs.List.{All, flat_map}
use Rattle.std.specs.Option.{option_or}
use Rattle.fed_types.specs.Sites.{Membership, count_of}
use Rattle.records.specs.declared.record.Record.{Record}
use Rattle.ledger.specs.declared.ending.Ending.{Ending}
use Rattle.ledger.specs.declared.ending.Ending.TheVariants as endings
use Rattle.ledger.specs.declared.part.Head.{Head}
use Rattle.ledger.specs.Cells.{HasNoOwner, Said, IsSaid}
use Rattle.ledger.specs.Parts.{Told, IsWhole}
use Rattle.udp_site.specs.BatchTurns.{MOST_TURNS}
use Rattle.audit.specs.Evidence.{SiteRecord}
use Rattle.audit_command.specs.declared.cell_defect.CellDefect.{CellDefect}
use Rattle.audit_command.specs.declared.cell_defect.CellDefect.TheVariants.{Unread, Foreign}
use Rattle.audit_command.specs.declared.cell_defect.CellDefect.TheVariants.{Damaged}
use Rattle.audit_command.specs.declared.sync_rule.SyncRule.{SyncRule}
use Rattle.audit_command.specs.Files.{FileBytes}

-- the records of a site's cell
abbrev pub of_site : ℕ → List Record → List SiteRecord
of_site site records = map (λ r. record { site = site; kept = r }) records

-- whose cell it is, as it says
abbrev pub head_of : Said → Head
head_of said = record { owner = said.owner; names_weights = said.names_weights }

-- The weights of a cell are the members': those that its header names; where none does, all are 1,
-- of however many members, and a cell without records has promised nothing under any.
abbrev pub HasWeights : Membership → (names_weights : Bool) → List ℕ → List Record → Type 0
HasWeights members true weights records = weights ≡ members.weights
HasWeights members false weights records = (records ≡ []) ⊎ All (λ w. w ≡ 1) members.weights

-- a cell of these records is one of the federation's: of its number, of one of its members, and of
-- its weights
abbrev pub IsMembers : Membership → Head → List Record → Type 0
IsMembers members head records =
    (head.owner.members.federation ≡ members.federation)
    × (head.owner.site ≤ count_of members)
    × HasWeights members head.names_weights head.owner.members.weights records

-- a torn tail isn't wrong: a crash leaves one, and so does a site that is writing
abbrev pub damage_of : Ending → Option CellDefect
damage_of endings.Whole = None
damage_of (endings.Torn count) = None
damage_of (endings.Damaged place) = Some (Damaged place)

-- ---- which records are sure to be synced

-- the records that bytes say, if a record or a header ends where they end; else none
abbrev pub count_if_whole : Ending → Told → ℕ
count_if_whole endings.Whole told = length told.records
count_if_whole (endings.Torn count) told = 0
count_if_whole (endings.Damaged place) told = 0

abbrev pub CountWhole : List ℕ → ℕ → Type 0
CountWhole bytes n =
    (told : Told) × (ending : Ending) × IsWhole bytes told ending × (n ≡ count_if_whole ending told)

-- So many of the first records end within the synced bytes. What is said of these is believed only
-- if the cell has as many, and a record or a header ends there: a site says no other length.
abbrev pub AreSynced : (synced : Option ℕ) → List ℕ → ℕ → Type 0
AreSynced None bytes n = n ≡ 0
AreSynced (Some k) bytes n =
    ((k ≤ length bytes) × CountWhole (take k bytes) n) ⊎ ((length bytes < k) × (n ≡ 0))

-- these records are sure: so many of the first, and all except so many of the last
abbrev pub sure_of : (first last : ℕ) → List Record → List Record
sure_of first last records = take (max first (length records - last)) records

-- In a cell of the federation all records are counted that are sure, when so many of the first are
-- synced; if it is damaged, those before the damage. In any other cell none is.
abbrev pub IsWorth : Membership → (first last : ℕ) → Said → Option CellDefect → List SiteRecord
    → Type 0
IsWorth members first last said fault given =
    (IsMembers members (head_of said) said.records × (fault ≡ damage_of said.ending)
    × (given ≡ of_site said.owner.site (sure_of first last said.records)))
    ⊎ (¬ IsMembers members (head_of said) said.records × (fault ≡ Some Foreign) × (given ≡ []))

-- nothing can be said of a cell
abbrev pub SaysNothing : Option CellDefect → List SiteRecord → Type 0
SaysNothing fault given = (fault ≡ Some Unread) × (given ≡ [])

-- what is wrong with a cell of these bytes, and which of its records are counted
abbrev pub IsReadingOf : Membership → SyncRule → List ℕ → Option CellDefect → List SiteRecord
    → Type 0
IsReadingOf members rule bytes fault given =
    (HasNoOwner bytes × SaysNothing fault given)
    ⊎ ((said : Said) × (n : ℕ) × IsSaid bytes said × AreSynced rule.synced bytes n
    × IsWorth members n rule.most_unsynced said fault given)

-- if reading failed, that is the defect, if there is no other
abbrev pub or_unread : (is_whole : Bool) → Option CellDefect → Option CellDefect
or_unread true fault = fault
or_unread false fault = option_or fault (Some Unread)

-- the same of what reading a file gives: where it fails, what was read before counts
abbrev pub IsReadingOfBytes : Membership → SyncRule → FileBytes → Option CellDefect
    → List SiteRecord → Type 0
IsReadingOfBytes members rule file fault given =
    (found : Option CellDefect) × IsReadingOf members rule file.bytes found given
    × (fault ≡ or_unread file.is_whole found)

-- A site that holds its cell may have appended all records of a batch that aren't synced: a record
-- for each turn. A cell that isn't in use was synced before it was read.
abbrev pub rule_for : (in_use : Bool) → (synced : Option ℕ) → SyncRule
rule_for true synced = record { most_unsynced = MOST_TURNS; synced = synced }
rule_for false synced = record { most_unsynced = 0; synced = None }

-- the counted records of a file may be sure to outlive a crash; else nothing in it counts
abbrev pub IsReadingIf : (sure : Bool) → Membership → (in_use : Bool) → FileBytes
    → Option CellDefect → List SiteRecord → Type 0
IsReadingIf true members in_use file fault given =
    IsReadingOfBytes members (rule_for in_use file.synced) file fault given
IsReadingIf false members in_use file fault given = SaysNothing fault given

-- for a file, or for none if it can't be opened: whether it is in use, what is wrong with it, and
-- what is counted; one that isn't in use counts only if it can be synced
abbrev pub IsReadingOfFile : Membership → Option FileBytes → (in_use : Bool) → Option CellDefect
    → List SiteRecord → Type 0
IsReadingOfFile members None in_use fault given = (in_use ≡ false) × SaysNothing fault given
IsReadingOfFile members (Some file) in_use fault given =
    (in_use ≡ file.in_use) × IsReadingIf (in_use || file.can_sync) members in_use file fault given

-- a cell by the path of its file, whether it is in use, what is wrong with it, and what is counted
-- in it
pub record Reading : Type 0 where
  pub path : List ℕ
  pub in_use : Bool
  pub fault : Option CellDefect
  pub given : List SiteRecord

-- what is counted in all cells
abbrev pub all_given : List Reading → List SiteRecord
all_given readings = flat_map (λ r. r.given) readings
