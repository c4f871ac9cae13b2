use Rattle.std.proofs.Common.{◌++◌, flat_map, string_bytes, sym, ap, ◌∙◌, map-id}
use Rattle.std.proofs.lemmas.Iterator.{YieldsList-from_chars}
use Rattle.std.proofs.lemmas.Iterator.Consumers.{YieldsList-end}
use Rattle.code_words.specs.Names.{shown, shown_name}
use Rattle.code_words.proofs.name.push_name.Goals as goal

pub returns : goal.returns
unfolding shown_name
returns c =
    let end =
    YieldsList-end (YieldsList-from_chars c.args.name.now c.utf8.name cc)
    c.loop-character.yielded _ c.loop-character.yielded_by _ _ c.in-None.is
    c.next.ensures.steps in
    c.loop-character.invariant
    ∙ ap (λ characters. string_bytes c.args.text.now ++ flat_map shown characters)
    (sym (map-id c.loop-character.yielded) ∙ end.0)
