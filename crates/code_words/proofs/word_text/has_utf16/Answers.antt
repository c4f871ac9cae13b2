use Rattle.std.proofs.Common.{rules, ◌∙◌}
use Rattle.std.proofs.lemmas.Iterator.{YieldsList-from_slice}
use Rattle.std.proofs.lemmas.Iterator.Search.{any_from_yields_List}
use borrow.Author.Tests.{tests}
use Rattle.code_words.proofs.AnyOf.{any_of_map}
use Rattle.code_words.specs.FileKinds.{is_utf16}
use Rattle.code_words.proofs.word_text.has_utf16.Goals as goal

pub returns : goal.returns
returns c =
    any_from_yields_List (λ word. is_utf16 word.now) _ _ _ c.any.ensures.ran
    (YieldsList-from_slice c.args.words.now c.iter.ensures.rest)
    (λ x b q k. search (rules, tests))
    ∙ any_of_map is_utf16 (λ word. word.now) c.args.words.now
