use Rattle.std.proofs.Common.{subst, ◌∙◌}
use Rattle.std.specs.Prelude.{option_copied}
use Rattle.folder_checks.specs.Explanations.{IsPlace}
use Rattle.folder_checks.proofs.Explained.{read_known, unread_known}
use Rattle.folder_checks.proofs.explanation.answer_on.Goals as goal

pub returns-in-Ok-clause-ok : goal.returns-in-Ok-clause-ok
returns-in-Ok-clause-ok g c =
    read_known c.args.question (g.F.Folders.gives c.args.folders.now)
    (g.F.Folders.fails_at c.args.folders.now)
    c.args.path.now c.compute_digests.new.self c.answer_of.result
    (rw c.compute_digests.ensures c.in-Ok.ensures.known) c.answer_of.ensures

pub returns-in_ok-line-in-Err-clause-ok : goal.returns-in_ok-line-in-Err-clause-ok
returns-in_ok-line-in-Err-clause-ok g c =
    unread_known c.args.question (g.F.Folders.gives c.args.folders.now)
    (g.F.Folders.fails_at c.args.folders.now) (option_copied c.failed_at.result) c.args.path.now
    c.as_str.result.now c.in-Err.fault c.with_lines.result c.in-Err.ensures.known
    (subst (λ known. IsPlace known (option_copied c.failed_at.result)) c.in-Err.ensures.place
    c.failed_at.ensures)
    (c.as_str.ensures.value ∙ c.in_ok-line-in-Err.ensures) c.with_lines.ensures.status
    c.with_lines.ensures.text
