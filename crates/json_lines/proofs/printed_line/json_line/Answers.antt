use Rattle.std.specs.String.{string_bytes}
use Rattle.serde_json.specs.View.{view}
use Rattle.json_lines.proofs.Values.{line_of, ended}
use Rattle.json_lines.proofs.printed_line.json_line.Goals as goal

pub returns : goal.returns
returns c =
    ended c.args.line.now (string_bytes c.in_ok-to_string.field-0) c.with_end.result
    c.with_end.ensures
    (line_of c.args.line.now (view c.in_ok-value.value) (string_bytes c.in_ok-to_string.field-0)
    c.in_ok-value.ensures c.in_ok-to_string.ensures.text c.in_ok-to_string.ensures.reads_back)
