use Rattle.std.specs.String.{string_bytes}
use Rattle.std.proofs.Common.{◌≡◌, rules}
use Rattle.folder_checks.proofs.Findings.{says}
use Rattle.folder_checks.proofs.json_line.json_answer.Goals as goal

pub returns-clause-ok : goal.returns-clause-ok
returns-clause-ok g c =
    let same : c.into_bytes.result.items ≡ string_bytes c.in_ok-line.line =
    first_of (search rules, cc) in
    says (g.F.Folders.gives c.args.folders.now) (g.F.Folders.fails_at c.args.folders.now)
    c.args.name.now c.args.report c.in_ok-found.found c.status_of.result
    (string_bytes c.in_ok-line.line) c.into_bytes.result.items c.in_ok-found.ensures.ok
    c.status_of.ensures c.in_ok-line.ensures same
