use Rattle.std.proofs.Common.{◌≡◌, List, take, map, IfSome}
use Rattle.outcomes.specs.Outcomes.{Outcome}
use Rattle.folder_checks.specs.Reports.{AreReports, all_valid, all_of}
use Rattle.std.specs.Io.KnownBytes.{Appends}
use Rattle.folder_checks.proofs.several_folders.check_each_on.Given as goal

-- no write has failed, the folders so far have their lines, and it is known whether all are valid
abbrev pub invariant-loop-path : goal.invariant-loop-path
invariant-loop-path g l =
    (g.F.Folders.gives l.folders ≡ g.F.Folders.gives l.fn.folders)
    × (g.F.Folders.fails_at l.folders ≡ g.F.Folders.fails_at l.fn.folders)
    × (g.W.CountedWrite.failures l.output ≡ g.W.CountedWrite.failures l.fn.output)
    × IfSome (g.F.Folders.gives l.fn.folders) (λ gives.
    (outcomes : List Outcome)
    × AreReports l.report gives (g.F.Folders.fails_at l.fn.folders)
    (take l.path-index (map (λ path. path.now) l.paths)) outcomes
    × (l.all_valid ≡ all_valid outcomes)
    × Appends (g.W.CountedWrite.contents l.fn.output) (g.W.CountedWrite.contents l.output)
    (all_of outcomes).text)
