-- What is kept of the cells that were read.
use Rattle.std.specs.Prelude.{◌≡◌, List, map}
use Rattle.std.specs.List.{flat_map}
use Rattle.std.specs.String.{string_bytes}
use Rattle.fed_types.specs.Sites.{Membership}
use Rattle.ledger.specs.Versions.{slots_of}
use Rattle.audit.specs.Evidence.{SiteRecord}
use Rattle.audit.specs.Tables.{Represents}
use Rattle.audit_command.specs.declared.evidence.Evidence.{Evidence}
use Rattle.audit_command.specs.declared.gathered.Gathered.{Gathered}
use Rattle.audit_command.specs.Audits.{all_used}
use Rattle.audit_command.specs.Lines.{reading_line, use_line}
use Rattle.audit_command.specs.CellReadings.{Reading, all_given}

-- the evidence is that of these records
pub record IsEvidence (members : Membership) (e : Evidence) (given : List SiteRecord)
    : Type 0 where
  pub members_are : e.cells.members ≡ members
  pub stands : Represents e.cells given
  pub slots : e.slots.keys ≡ slots_of (map (λ s. s.kept) given)

-- what was gathered is what these readings give
pub record IsGathered (members : Membership) (g : Gathered) (readings : List Reading)
    : Type 0 where
  pub evidence : IsEvidence members g.evidence (all_given readings)
  pub in_use_is : string_bytes g.in_use ≡ flat_map use_line readings
  pub text_is : string_bytes g.text ≡ flat_map reading_line readings
  pub used : g.all_used ≡ all_used readings
