use Rattle.std.proofs.Common.{◌≡◌, ap, ◌∙◌, rules}
use Rattle.std.proofs.lemmas.Str.{is_utf8-from_IsUtf8}
use Rattle.std.specs.String.{string_bytes}
use Rattle.serde_json.specs.Data.{string, null}
use Rattle.serde_json.specs.View.{view}
use Rattle.serde_json.specs.declared.value.Value.{String, Null, the_lemmas}
use Rattle.json_lines.proofs.Values.{not_text}
use Rattle.json_lines.proofs.json_values.text_value.Goals as goal

pub returns-in_ok-from_str-in-Ok : goal.returns-in_ok-from_str-in-Ok
returns-in_ok-from_str-in-Ok c =
    let shown : view (String c.in_ok-from_str-in-Ok.field-0)
    ≡ string (string_bytes c.in_ok-from_str-in-Ok.field-0) =
    search (rules, the_lemmas) in
    rw (is_utf8-from_IsUtf8 c.args.bytes.now c.in-Ok.ensures.cases.1)
    (shown ∙ ap string (c.in_ok-from_str-in-Ok.ensures.ok ∙ c.in-Ok.ensures.cases.0))

pub returns-in-Err : goal.returns-in-Err
returns-in-Err c =
    let shown : view Null ≡ null = search (rules, the_lemmas) in
    rw (not_text c.args.bytes.now c.in-Err.ensures.cases.0) shown
