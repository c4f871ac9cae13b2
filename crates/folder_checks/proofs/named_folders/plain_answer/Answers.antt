use Rattle.folder_checks.proofs.Names.{of_text, of_bytes, Tells}
use Rattle.folder_checks.proofs.named_folders.plain_answer.Goals as goal

pub returns-in-Ok-clause-ok : goal.returns-in-Ok-clause-ok
returns-in-Ok-clause-ok g c =
    of_text (Tells c.args.report) (g.F.Folders.gives c.args.folders.now)
    (g.F.Folders.fails_at c.args.folders.now) c.in-Ok.path.now c.args.name.now c.answer_for.result
    c.in-Ok.ensures.cases.0 c.in-Ok.ensures.cases.1 c.answer_for.ensures.ok

pub returns-in-Err-clause-ok : goal.returns-in-Err-clause-ok
returns-in-Err-clause-ok g c =
    of_bytes (Tells c.args.report) (g.F.Folders.gives c.args.folders.now)
    (g.F.Folders.fails_at c.args.folders.now) c.args.name.now c.unlisted.result
    c.in-Err.ensures.cases.0 c.unlisted.ensures
