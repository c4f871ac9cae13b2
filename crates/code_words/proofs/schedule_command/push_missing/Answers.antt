use Rattle.std.proofs.Common.{◌++◌, ◌∙◌, ap, string_bytes}
use Rattle.std.specs.Prelude.{codes}
use Rattle.std.proofs.lemmas.Result.{on_ok_weaker}
use Rattle.code_words.specs.Kinds.{name_of, range_of}
use Rattle.code_words.proofs.Pushed.{two, on_ok_pushed}
use Rattle.code_words.proofs.schedule_command.push_missing.Goals as goal

pub returns : goal.returns
returns c =
    on_ok_weaker c.push_str-3.result
    (λ is. two _ _ _ (name_of c.args.kind) _
    (c.in_ok-push_str.ensures.bytes
    ∙ ap (λ name. string_bytes c.args.text.now ++ name) c.name.ensures)
    (two _ _ _ (codes " is missing, ") (range_of c.args.kind) c.in_ok-push_str-2.ensures.bytes
    (is ∙ ap (λ range. string_bytes c.push_str-2.new.self ++ range) c.range.ensures)))
    (on_ok_pushed c.push_str-3.result (string_bytes c.push_str-2.new.self) _
    c.range.result.now c.push_str-3.ensures.bytes)
