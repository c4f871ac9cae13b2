use Rattle.std.proofs.Common.{rules, ◌==◌, ◌∷◌, []}
use Rattle.std.specs.Prelude.{is_some}
use Rattle.std.proofs.lemmas.Iterator.Search.{any_from_yields_List}
use Rattle.std.proofs.lemmas.Iterator.Splits.{YieldsList-from_slice_split}
use borrow.Author.Tests.{tests}
use Rattle.code_words.specs.Keys.{key_name}
use Rattle.code_words.proofs.key_line.has_key_line.Goals as goal

pub returns : goal.returns
returns c =
    any_from_yields_List (λ line. is_some (key_name (line ∷ []))) _ _ _ c.any.ensures.ran
    (YieldsList-from_slice_split _ (λ byte. byte == 10) c.args.text.now c.split.ensures.rest
    c.split.ensures.done c.split.ensures.closure (λ x r q k. search (rules, tests)))
    (λ x b q k. search (rules, tests))
