use Rattle.std.proofs.Common.{refl}
use Rattle.serde_json.proofs.Views.{view-Object}
use Rattle.json_lines.proofs.printed_line.whole_value.Goals as goal

pub returns : goal.returns
returns c =
    rw (
      view-Object c.put.new.map,
      c.in_ok-put.ensures.ok,
      c.in_ok-text_value.ensures,
      c.new-object.ensures.empty,
    ) refl
