use Rattle.std.proofs.Common.{subst}
use Rattle.std.specs.Prelude.{option_copied}
use Rattle.folder_checks.specs.Explanations.{IsPlace}
use Rattle.folder_checks.proofs.Findings.{found_read, found_unread}
use Rattle.folder_checks.proofs.found.found_at.Goals as goal

pub returns-in-Ok-clause-ok : goal.returns-in-Ok-clause-ok
returns-in-Ok-clause-ok g c =
    found_read (g.F.Folders.gives c.args.folders.now) (g.F.Folders.fails_at c.args.folders.now)
    c.args.path.now c.prepare.new.facts c.args.report c.read_found.result
    (rw c.prepare.ensures c.in-Ok.ensures.known) c.read_found.ensures

pub returns-in-Err-clause-ok : goal.returns-in-Err-clause-ok
returns-in-Err-clause-ok g c =
    found_unread (g.F.Folders.gives c.args.folders.now)
    (g.F.Folders.fails_at c.args.folders.now) (option_copied c.failed_at.result) c.args.path.now
    c.in-Err.fault c.args.report c.unread_found.result c.in-Err.ensures.known
    (subst (λ known. IsPlace known (option_copied c.failed_at.result)) c.in-Err.ensures.place
    c.failed_at.ensures)
    c.unread_found.ensures
