-- What the command `audit` answers.
use Rattle.std.specs.Prelude.{◌≡◌, ◌⊎◌, ℕ, ◌==◌, ◌&&◌, Bool, if◌then◌else◌, List, map}
use Rattle.std.specs.Prelude.{IfSome, is_none}
use Rattle.std.specs.List.{All, list_all}
use Rattle.fed_types.specs.Quorums.{quorums_of}
use Rattle.fed_types.specs.Sites.{Membership}
use Rattle.outcomes.specs.Outcomes.{Outcome, no_memory}
use Rattle.audit_command.specs.declared.version.Version.{Version}
use Rattle.audit_command.specs.Lines.{audit_text}
use Rattle.audit_command.specs.CellReadings.{Reading, IsReadingOfFile, all_given}
use Rattle.audit_command.specs.Files.{Files}
use Rattle.audit_command.specs.Versions.{AreVersions, count_of, is_conflict}

-- this is a reading of the file of its path
abbrev pub IsRead : Membership → Files → Reading → Type 0
IsRead members files r =
    IfSome (files r.path) (λ file. IsReadingOfFile members file r.in_use r.fault r.given)

-- these are readings of the files of these paths, in order
pub record AreReadings (members : Membership) (files : Files) (paths : List (List ℕ))
    (readings : List Reading) : Type 0 where
  pub paths_are : map (λ r. r.path) readings ≡ paths
  pub read : All (IsRead members files) readings

-- nothing is wrong with any cell
abbrev pub all_used : List Reading → Bool
all_used readings = list_all (λ r. is_none r.fault) readings

-- 0 if nothing is wrong, and there is no conflict
abbrev pub status_of : List Reading → List Version → ℕ
status_of readings versions =
    if all_used readings && count_of is_conflict versions == 0 then 0 else 1

-- the status and the lines for what the cells of these paths are worth, and for what they show
-- together of each version
pub record IsAudit (members : Membership) (files : Files) (paths : List (List ℕ))
    (outcome : Outcome) : Type 0 where
  pub readings : List Reading
  pub versions : List Version
  pub are_readings : AreReadings members files paths readings
  pub are_versions : AreVersions (quorums_of members) (all_given readings) versions
  pub status_is : outcome.status ≡ status_of readings versions
  pub text_is : outcome.text ≡ audit_text readings versions

-- what the command may end with, and what is written of it then: that, or that memory ran out
abbrev pub Answers : Membership → Files → List (List ℕ) → (Outcome → Type 0) → Type 0
Answers members files paths P =
    ((outcome : Outcome) × IsAudit members files paths outcome × P outcome) ⊎ P no_memory
