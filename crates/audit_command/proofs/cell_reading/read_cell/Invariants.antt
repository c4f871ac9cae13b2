use Rattle.std.proofs.Common.{ℕ, List}
use Rattle.audit.specs.Evidence.{SiteRecord}
use Rattle.audit_command.specs.inner.Gathered.{IsEvidence}
use Rattle.audit_command.specs.inner.Standings.{HasCounted}
use Rattle.audit_command.proofs.TakenBytes.{IsTaken}
use Rattle.audit_command.proofs.cell_reading.read_cell.Given as goal

-- what was read was counted
abbrev pub invariant-reads : goal.invariant-reads
invariant-reads g l =
    (taken : List ℕ)
    × IsTaken (g.F.CellFiles.left l.fn.cell) (g.F.CellFiles.left l.cell) taken
    × ((given : List SiteRecord) → IsEvidence l.members l.fn.evidence given
    → HasCounted l.members l.fn.rule l.reading l.evidence taken given)
