use Rattle.std.proofs.Common.{◌≡◌, Some, Ok, length, option_map}
use Rattle.std.specs.String.{string_bytes}
use Rattle.folder_checks.specs.Json.{files_in}
use Rattle.folder_checks.proofs.Findings.{found_in}
use Rattle.folder_checks.proofs.found.read_found.Goals as goal

pub returns : goal.returns
returns c =
    let count : Some (length c.files.result.now) ≡ files_in c.verdict_of.result
    (Ok c.args.facts.now) =
    cc (c.files.ensures, c.verdict_of.ensures.files) in
    found_in c.args.report c.args.facts.now c.verdict_of.result (Some (length c.files.result.now))
    (option_map string_bytes c.in_ok-lines.lines) c.verdict_of.ensures.verdict count
    c.verdict_of.ensures.lines c.in_ok-lines.ensures
