use Rattle.std.proofs.Common.{List, ◌++◌, take}
use Rattle.fed_types.specs.Sites.{Membership}
use Rattle.audit.specs.Evidence.{SiteRecord}
use Rattle.audit_command.specs.CellReadings.{of_site}
use Rattle.audit_command.specs.inner.Gathered.{IsEvidence}
use Rattle.audit_command.proofs.evidence.add_records.Given as goal

-- the records so far were added
abbrev pub invariant-loop-kept : goal.invariant-loop-kept
invariant-loop-kept l =
    (members : Membership) (given : List SiteRecord)
    → IsEvidence members l.initial.evidence given
    → IsEvidence members l.evidence (given ++ of_site l.site (take l.kept-index l.records))
