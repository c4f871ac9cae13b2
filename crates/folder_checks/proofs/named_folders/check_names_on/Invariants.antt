use Rattle.std.proofs.Common.{◌≡◌, List, take, map, IfSome}
use Rattle.folder_checks.specs.Forms.{IsForm}
use Rattle.folder_checks.proofs.Names.{HaveAll}
use Rattle.folder_checks.proofs.named_folders.check_names_on.Given as goal

-- no write has failed, the folders so far have their lines, and it is known whether all are valid
abbrev pub invariant-loop-name : goal.invariant-loop-name
invariant-loop-name g l =
    (g.F.Folders.gives l.folders ≡ g.F.Folders.gives l.fn.folders)
    × (g.F.Folders.fails_at l.folders ≡ g.F.Folders.fails_at l.fn.folders)
    × (g.W.CountedWrite.failures l.output ≡ g.W.CountedWrite.failures l.fn.output)
    × IfSome (g.F.Folders.gives l.fn.folders) (λ gives.
    HaveAll (IsForm l.form (g.F.Folders.fails_at l.fn.folders) gives)
    (take l.name-index (map (λ name. name.now) l.names)) l.all_valid
    (g.W.CountedWrite.contents l.fn.output) (g.W.CountedWrite.contents l.output))
