use Rattle.std.proofs.Common.{[], Some, Err, refl, codes, ◌∙◌}
use Rattle.bag_tree.specs.declared.fault.TreeFault.TheVariants.{Listing}
use Rattle.folder_checks.proofs.Explained.{unread_known}
use Rattle.folder_checks.proofs.Names.{unlisted_brief}
use Rattle.folder_checks.proofs.named_folders.unlisted.Goals as goal

pub returns-in-Brief : goal.returns-in-Brief
returns-in-Brief c =
    rw c.in-Brief.is
    (unlisted_brief c.args.report.question (Some (codes ".")) c.line_of.result c.line_of.ensures.status
    c.line_of.ensures.text)

pub returns-in_ok-line-in-Explained : goal.returns-in_ok-line-in-Explained
returns-in_ok-line-in-Explained c =
    rw c.in-Explained.is
    (unread_known c.args.report.question (Some (λ path. Err Listing)) (Some (codes ".")) (Some (codes ".")) []
    c.as_str.result.now Listing c.with_lines.result refl refl
    (c.as_str.ensures.value ∙ c.in_ok-line-in-Explained.ensures) c.with_lines.ensures.status
    c.with_lines.ensures.text)
