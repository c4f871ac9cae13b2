-- The text of an audit: a line for each cell that is in use, one for each that can't be used as it
-- is, one for each version, and how many there are of each kind.
use Rattle.std.specs.Prelude.{ℕ, Bool, true, false, List, [], ◌∷◌, ◌++◌, codes, Option, Some, None}
use Rattle.std.specs.List.{flat_map}
use Rattle.std.specs.Fmt.{decimal}
use Rattle.tokens.specs.Escapes.{escaped_text}
use Rattle.tokens.specs.Written.{slot_text, bag_text, ballot_text}
use Rattle.audit.specs.declared.finding.Finding.{Finding}
use Rattle.audit.specs.declared.finding.Finding.TheVariants.{Chosen, Known, Open, Conflict}
use Rattle.audit_command.specs.declared.cell_defect.CellDefect.{CellDefect}
use Rattle.audit_command.specs.declared.cell_defect.CellDefect.TheVariants as faults
use Rattle.audit_command.specs.declared.version.Version.{Version}
use Rattle.audit_command.specs.CellReadings.{Reading}
use Rattle.audit_command.specs.Versions.{is_chosen, is_known, is_open, is_conflict, count_of}

-- ---- cells

-- the cell of this path is in use
unfoldable pub in_use_line : List ℕ → List ℕ
in_use_line path = codes "in-use " ++ (escaped_text path ++ 10 ∷ [])

-- for a cell that isn't in use there is no line
abbrev pub in_use_line_if : List ℕ → (in_use : Bool) → List ℕ
in_use_line_if path false = []
in_use_line_if path true = in_use_line path

abbrev pub use_line : Reading → List ℕ
use_line r = in_use_line_if r.path r.in_use

abbrev pub fault_word : CellDefect → List ℕ
fault_word faults.Unread = codes "unread "
fault_word faults.Foreign = codes "foreign "
fault_word (faults.Damaged place) = codes "damaged "

-- where the damage begins
abbrev pub place_text : CellDefect → List ℕ
place_text faults.Unread = []
place_text faults.Foreign = []
place_text (faults.Damaged place) = 32 ∷ decimal place

-- what is wrong with the cell of this path
unfoldable pub fault_line : List ℕ → CellDefect → List ℕ
fault_line path fault = fault_word fault ++ (escaped_text path ++ (place_text fault ++ 10 ∷ []))

-- for a cell that is used as it is there is no line
abbrev pub line_if : List ℕ → Option CellDefect → List ℕ
line_if path None = []
line_if path (Some fault) = fault_line path fault

abbrev pub reading_line : Reading → List ℕ
reading_line r = line_if r.path r.fault

-- ---- versions

abbrev pub finding_word : Finding → List ℕ
finding_word (Chosen vote) = codes "chosen "
finding_word (Known bag) = codes "known "
finding_word Open = codes "open "
finding_word (Conflict u v) = codes "conflict "

-- the chosen bag, and the ballot in which it was chosen; the known one; two
abbrev pub finding_text : Finding → List ℕ
finding_text (Chosen vote) = bag_text vote.bag ++ ballot_text vote.ballot
finding_text (Known bag) = bag_text bag
finding_text Open = []
finding_text (Conflict u v) = bag_text u ++ bag_text v

unfoldable pub version_line : Version → List ℕ
version_line v =
    finding_word v.finding ++ (slot_text v.slot ++ (finding_text v.finding ++ 10 ∷ []))

-- ---- counts

unfoldable pub counts_line : List Version → List ℕ
counts_line versions =
    decimal (count_of is_chosen versions) ++ (codes " chosen, "
    ++ (decimal (count_of is_known versions) ++ (codes " known, "
    ++ (decimal (count_of is_open versions) ++ (codes " open, "
    ++ (decimal (count_of is_conflict versions) ++ (codes " conflicts" ++ 10 ∷ [])))))))

-- ---- all of it

unfoldable pub audit_text : List Reading → List Version → List ℕ
audit_text readings versions =
    flat_map use_line readings ++ (flat_map reading_line readings
    ++ (flat_map version_line versions ++ counts_line versions))
