use Rattle.std.proofs.Common.{[], Some, Err, refl, codes}
use Rattle.bag_tree.specs.declared.fault.TreeFault.TheVariants.{Listing}
use Rattle.folder_checks.proofs.Findings.{Finds, found_unread}
use Rattle.folder_checks.proofs.Names.{of_text, of_bytes}
use Rattle.folder_checks.proofs.found.found_by_name.Goals as goal

pub returns-in-Ok-clause-ok : goal.returns-in-Ok-clause-ok
returns-in-Ok-clause-ok g c =
    of_text (Finds c.args.report) (g.F.Folders.gives c.args.folders.now)
    (g.F.Folders.fails_at c.args.folders.now) c.in-Ok.path.now c.args.name.now c.found_at.result
    c.in-Ok.ensures.cases.0 c.in-Ok.ensures.cases.1 c.found_at.ensures.ok

pub returns-in-Err-clause-ok : goal.returns-in-Err-clause-ok
returns-in-Err-clause-ok g c =
    of_bytes (Finds c.args.report) (g.F.Folders.gives c.args.folders.now)
    (g.F.Folders.fails_at c.args.folders.now) c.args.name.now c.unread_found.result
    c.in-Err.ensures.cases.0
    (found_unread (Some (λ path. Err Listing)) (Some (codes ".")) (Some (codes ".")) [] Listing
    c.args.report c.unread_found.result refl refl c.unread_found.ensures)
