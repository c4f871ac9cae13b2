use Rattle.std.proofs.Common.{◌≡◌, map, take}
use Rattle.serde_json.specs.View.{view}
use Rattle.folder_checks.specs.Json.{finding_data}
use Rattle.folder_checks.proofs.json_values.findings_in.Given as goal

-- the lines so far have their values
abbrev pub invariant-loop-line : goal.invariant-loop-line
invariant-loop-line l =
    map view l.values.items ≡ map (λ line. finding_data line.now) (take l.line-index l.line-items)
