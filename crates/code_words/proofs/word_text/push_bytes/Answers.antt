use Rattle.std.proofs.Common.{◌≡◌, ◌++◌, ◌∙◌, ap, subst, sym, string_bytes, OnOk}
use Rattle.code_words.specs.Names.{shown_name}
use Rattle.code_words.specs.Words.{bytes_text, byte_text}
use Rattle.std.specs.List.{flat_map}
use Rattle.code_words.proofs.Utf8Choice.{text_choice, other_choice}
use Rattle.code_words.proofs.word_text.push_bytes.Goals as goal

pub returns-in-Ok : goal.returns-in-Ok
unfolding bytes_text
returns-in-Ok c =
    let is : bytes_text c.args.bytes.now ≡ shown_name c.in-Ok.name.now =
    text_choice c.args.bytes.now _ _ c.in-Ok.ensures.cases.1
    ∙ ap shown_name (sym c.in-Ok.ensures.cases.0) in
    subst
    (λ bytes. OnOk c.push_name.result
    (string_bytes c.push_name.new.text ≡ string_bytes c.args.text.now ++ bytes))
    (sym is) c.push_name.ensures

pub returns-in-Err : goal.returns-in-Err
unfolding bytes_text
returns-in-Err c =
    let is : bytes_text c.args.bytes.now ≡ flat_map byte_text c.args.bytes.now =
    other_choice c.args.bytes.now _ _ c.in-Err.ensures.cases.0 in
    subst
    (λ bytes. OnOk c.push_each.result
    (string_bytes c.push_each.new.text ≡ string_bytes c.args.text.now ++ bytes))
    (sym is) c.push_each.ensures
