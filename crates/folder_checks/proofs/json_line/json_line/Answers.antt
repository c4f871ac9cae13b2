use Rattle.std.proofs.Common.{option_map}
use Rattle.std.specs.Option.{option_copied}
use Rattle.std.specs.String.{string_bytes}
use Rattle.serde_json.specs.View.{view}
use Rattle.folder_checks.specs.Json.{folder_data}
use Rattle.folder_checks.proofs.Findings.{ended}
use Rattle.folder_checks.proofs.JsonValues.{line_of, plain_folder}
use Rattle.folder_checks.proofs.json_line.json_line.Goals as goal

pub returns : goal.returns
returns c =
    let name = c.args.name.now in
    let found = c.args.found.now in
    let lines = option_map string_bytes found.lines in
    let words = option_copied c.words_of.result in
    ended name found.verdict found.files found.measure lines words (string_bytes c.in_ok-text.text)
    c.with_end.result c.with_end.ensures
    (line_of (folder_data name found.verdict found.files found.measure lines words)
    (view c.in_ok-value.value) (string_bytes c.in_ok-text.text)
    (plain_folder name found.verdict found.files found.measure lines words) c.in_ok-value.ensures
    c.in_ok-text.ensures.text c.in_ok-text.ensures.reads_back)
