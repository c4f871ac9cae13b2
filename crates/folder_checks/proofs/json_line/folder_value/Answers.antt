use Rattle.std.proofs.Common.{refl}
use Rattle.serde_json.proofs.Views.{view-Object}
use Rattle.folder_checks.specs.Json.{folder_data}
use Rattle.folder_checks.proofs.json_line.folder_value.Goals as goal

pub returns : goal.returns
unfolding folder_data
returns c =
    rw (
      view-Object c.put.new.map,
      c.in_ok-put.ensures.ok,
      c.in_ok-places_value.ensures,
      c.in_ok-put_counts.ensures,
      c.in_ok-put_verdict.ensures,
      c.in_ok-put_name.ensures,
      c.new-map.ensures.empty,
    ) refl
