use Rattle.std.proofs.Common.{[], ◌∷◌, ◌++◌}
use Rattle.audit_command.proofs.Joined.{next_path}
use Rattle.audit_command.proofs.gathered.gather.Goals as goal

pub loop-path-preserved : goal.loop-path-preserved
loop-path-preserved g c =
    let before = c.loop-path.invariant in
    let added = c.in_ok-add_cell.ensures before.0 before.2 in (
      before.0 ++ added.0 ∷ [],
      next_path c.args.members.now (g.F.CellFiles.bytes_at c.args.files.now) c.args.paths.now
          c.loop-path.path-index _ before.0 added.0 c.loop-path-test.true added.1 before.1
          added.2,
      added.3,
    )
