use Rattle.std.proofs.Common.{sym, ◌∙◌, ap}
use Rattle.code_words.specs.FileKinds.{kind_of_line}
use Rattle.code_words.proofs.Utf8Choice.{text_choice, other_choice}
use Rattle.code_words.proofs.file_kind.kind_of_bytes.Goals as goal

pub returns-in-Ok : goal.returns-in-Ok
returns-in-Ok c =
    c.kind_of_line.ensures ∙ ap kind_of_line c.in-Ok.ensures.cases.0
    ∙ sym (text_choice c.args.line.now _ _ c.in-Ok.ensures.cases.1)

pub returns-in-Err : goal.returns-in-Err
returns-in-Err c = sym (other_choice c.args.line.now _ _ c.in-Err.ensures.cases.0)
