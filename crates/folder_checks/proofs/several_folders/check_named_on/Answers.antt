use Rattle.folder_checks.proofs.Several.{no_room, no_room_stopped}
use Rattle.folder_checks.proofs.several_folders.check_named_on.Goals as goal

pub returns-in-Err-clause-ok : goal.returns-in-Err-clause-ok
returns-in-Err-clause-ok g c =
    no_room c.args.report (g.F.Folders.gives c.args.folders.now)
    (g.F.Folders.fails_at c.args.folders.now) c.args.path.now c.write_bytes-in-Err.result
    (g.W.CountedWrite.contents c.args.output.now) (g.W.CountedWrite.contents
    c.write_bytes-in-Err.new.output)
    c.write_bytes-in-Err.ensures.ok

pub returns-in-Err-clause-output : goal.returns-in-Err-clause-output
returns-in-Err-clause-output g c =
    no_room_stopped c.args.report (g.F.Folders.gives c.args.folders.now)
    (g.F.Folders.fails_at c.args.folders.now) c.args.path.now c.write_bytes-in-Err.result
    (g.W.CountedWrite.contents c.args.output.now) (g.W.CountedWrite.contents
    c.write_bytes-in-Err.new.output)
    c.write_bytes-in-Err.ensures.err
