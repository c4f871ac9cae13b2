use Rattle.std.proofs.Common.{◌++◌, ◌∷◌, [], ap, sym, ◌∙◌, append_assoc}
use Rattle.std.specs.Prelude.{codes}
use Rattle.std.specs.List.{join_with_byte}
use Rattle.std.specs.String.{string_bytes}
use Rattle.std.proofs.lemmas.Result.{on_ok_weaker}
use Rattle.lines.specs.Texts.{words_of, bag_word, slot_words}
use Rattle.lines.proofs.print_words.push_words.Goals as goal

pub returns-in_ok-push_str-in-Registered : goal.returns-in_ok-push_str-in-Registered
returns-in_ok-push_str-in-Registered c =
    let r = c.in-Registered in
    let before = string_bytes c.args.text.now in
    let rest = join_with_byte 32 (slot_words r.site r.slot (bag_word c.args.options r.bag ∷ [])) in
    on_ok_weaker c.push_slot_and_bag.result (λ e. e
    ∙ (ap (λ t. t ++ rest) c.in_ok-push_str-in-Registered.ensures.bytes
    ∙ (append_assoc before (codes "registered ") rest
    ∙ ap (λ l. before ++ join_with_byte 32 (words_of c.args.options l)) (sym r.is))))
    c.push_slot_and_bag.ensures

pub returns-in_ok-push_str-in-Known : goal.returns-in_ok-push_str-in-Known
returns-in_ok-push_str-in-Known c =
    let r = c.in-Known in
    let before = string_bytes c.args.text.now in
    let rest = join_with_byte 32 (slot_words r.site r.slot (bag_word c.args.options r.bag ∷ [])) in
    on_ok_weaker c.push_slot_and_bag-in-Known.result (λ e. e
    ∙ (ap (λ t. t ++ rest) c.in_ok-push_str-in-Known.ensures.bytes
    ∙ (append_assoc before (codes "known ") rest
    ∙ ap (λ l. before ++ join_with_byte 32 (words_of c.args.options l)) (sym r.is))))
    c.push_slot_and_bag-in-Known.ensures
