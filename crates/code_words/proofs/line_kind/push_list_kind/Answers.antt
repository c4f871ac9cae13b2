use Rattle.std.proofs.Common.{◌≡◌, ◌++◌, ◌∙◌, ap, sym, string_bytes}
use Rattle.std.specs.Prelude.{[]}
use Rattle.std.proofs.lemmas.List.{append-nil}
use Rattle.std.proofs.lemmas.Result.{on_ok_weaker}
use Rattle.code_words.specs.FileKinds.{kind_of_line}
use Rattle.code_words.specs.ScheduleWords.{kind_text, list_text}
use Rattle.code_words.proofs.Utf8Choice.{text_choice, other_choice}
use Rattle.code_words.proofs.line_kind.push_list_kind.Goals as goal

pub returns-in-Ok : goal.returns-in-Ok
returns-in-Ok c =
    let is : list_text c.args.line.now ≡ kind_text (kind_of_line c.in-Ok.line.now) =
    text_choice c.args.line.now _ _ c.in-Ok.ensures.cases.1
    ∙ ap (λ line. kind_text (kind_of_line line)) (sym c.in-Ok.ensures.cases.0) in
    on_ok_weaker c.push_kind.result
    (λ it. it
    ∙ ap (λ said. string_bytes c.args.text.now ++ said)
    (ap kind_text c.kind_of_line.ensures ∙ sym is))
    c.push_kind.ensures

pub returns-in-Err : goal.returns-in-Err
returns-in-Err c =
    let is : list_text c.args.line.now ≡ [] =
    other_choice c.args.line.now _ _ c.in-Err.ensures.cases.0 in
    sym
    (ap (λ said. string_bytes c.args.text.now ++ said) is
    ∙ append-nil (string_bytes c.args.text.now))
