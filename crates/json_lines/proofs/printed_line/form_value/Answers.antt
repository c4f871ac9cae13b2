use Rattle.std.proofs.Common.{refl}
use Rattle.serde_json.proofs.Views.{view-Object}
use Rattle.json_lines.proofs.printed_line.form_value.Goals as goal

pub returns : goal.returns
returns c =
    rw (
      view-Object c.put_kind.new.object,
      c.in_ok-put_kind.ensures,
      c.in_ok-put_parts.ensures,
      c.new-object.ensures.empty,
    ) refl
