use Rattle.std.proofs.Common.{List, take}
use Rattle.std.specs.Prelude.{map}
use Rattle.audit_command.specs.Audits.{AreReadings}
use Rattle.audit_command.specs.CellReadings.{Reading}
use Rattle.audit_command.specs.inner.Gathered.{IsGathered}
use Rattle.audit_command.proofs.gathered.gather.Given as goal

-- the cells of the paths so far were read
abbrev pub invariant-loop-path : goal.invariant-loop-path
invariant-loop-path g l =
    (readings : List Reading)
    × AreReadings l.members (g.F.CellFiles.bytes_at l.files)
    (map (λ path. path.now) (take l.path-index l.paths)) readings
    × IsGathered l.members l.gathered readings
