use Rattle.std.proofs.Common.{rules, ◌==◌}
use Rattle.std.proofs.lemmas.Iterator.Search.{find_from_yields_List}
use Rattle.std.proofs.lemmas.Iterator.Splits.{YieldsList-from_slice_split}
use borrow.Author.Tests.{tests}
use Rattle.code_words.specs.FileKinds.{shows_kind}
use Rattle.code_words.proofs.file_kind.line_showing.Goals as goal

pub returns : goal.returns
returns c =
    find_from_yields_List shows_kind _ _ _ c.find.ensures.ran
    (YieldsList-from_slice_split _ (λ byte. byte == 10) c.args.bytes.now c.split.ensures.rest
    c.split.ensures.done c.split.ensures.closure (λ x r q k. search (rules, tests)))
    (λ x b q k. search (rules, tests))
