use Rattle.std.proofs.Common.{◌≡◌, ◌++◌, ◌-◌, ◌∙◌, ap, sym, length, take, string_bytes}
use Rattle.std.specs.Prelude.{None, codes}
use Rattle.std.proofs.lemmas.Result.{on_ok_weaker}
use Rattle.code_words.specs.Keys.{hidden_digits}
use Rattle.code_words.specs.Words.{parts_text, parts_after}
use Rattle.code_words.proofs.Parts.{appended, last_text, long_text, next_text, whole_rest}
use Rattle.code_words.proofs.word_text.push_word.Goals as goal

pub returns-then-part-room : goal.returns-then-part-room
returns-then-part-room c =
    on_ok_weaker c.push_front.result
    (λ is. is
    ∙ (ap (λ more. string_bytes c.loop-begin.text ++ more)
    (sym
    (long_text c.loop-begin.room c.loop-begin.rest.now c.in-Some.begin c.in-Some.end
    (sym c.in-Some.ensures.value) c.if-part-room.true))
    ∙ c.loop-begin.invariant))
    c.push_front.ensures

pub loop-begin-preserved : goal.loop-begin-preserved
loop-begin-preserved c =
    ap
    (λ rest. string_bytes c.push_str.new.self
    ++ parts_text (c.loop-begin.room - length (take c.in-Some.begin c.loop-begin.rest.now))
    (parts_after 0 rest))
    (whole_rest c.in-Some.end c.loop-begin.rest.now)
    ∙ (appended (string_bytes c.loop-begin.text) (string_bytes c.push_bytes.new.text)
    (string_bytes c.push_str.new.self) _ (codes "..") _ _
    c.in_ok-push_bytes.ensures c.in_ok-push_str.ensures.bytes
    (next_text c.loop-begin.room c.loop-begin.rest.now c.in-Some.begin c.in-Some.end
    (sym c.in-Some.ensures.value) c.if-part-room.false)
    ∙ c.loop-begin.invariant)

pub returns : goal.returns
returns c =
    let none : hidden_digits c.loop-begin.rest.now ≡ None =
    sym c.hidden_digits.ensures.value ∙ c.in_default.is in
    on_ok_weaker c.push_front-2.result
    (λ is. is
    ∙ (ap (λ more. string_bytes c.loop-begin.text ++ more)
    (sym (last_text c.loop-begin.room c.loop-begin.rest.now none))
    ∙ c.loop-begin.invariant))
    c.push_front-2.ensures
