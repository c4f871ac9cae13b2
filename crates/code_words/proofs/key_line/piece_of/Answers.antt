use Rattle.std.proofs.Common.{rules, ◌==◌, length, ◌∙◌, ap, sym}
use Rattle.std.specs.Char.{is_ascii_alphanumeric}
use Rattle.std.specs.Prelude.{not, filter, slice_get}
use Rattle.std.specs.List.{slice_split}
use Rattle.std.proofs.lemmas.Iterator.{YieldsList-from_slice}
use Rattle.std.proofs.lemmas.Iterator.Adapters.{YieldsList-from_flat_map}
use Rattle.std.proofs.lemmas.Iterator.Consumers.{nth_from_yields_List, YieldsList-from_filter}
use Rattle.std.proofs.lemmas.Iterator.Consumers.{YieldsList-at}
use Rattle.std.proofs.lemmas.Iterator.Splits.{YieldsList-from_slice_split}
use Rattle.std.proofs.lemmas.List.Folds.{flat_map-map}
use borrow.Author.Tests.{tests}
use Rattle.code_words.proofs.key_line.piece_of.Goals as goal

pub returns : goal.returns
returns c =
    nth_from_yields_List _ _ _ c.nth.ensures.ran
    (YieldsList-from_filter _ (λ piece. not (length piece == 0))
    (YieldsList-at c.filter.ensures.source
    (YieldsList-from_flat_map _ _ _ (λ piece. piece.now)
    (λ word. slice_split (λ byte. not (is_ascii_alphanumeric byte)) word.now) _
    (λ x u q k. (
      search (rules, tests),
      λ j becomes. YieldsList-from_slice_split _ (λ byte. not (is_ascii_alphanumeric byte))
          x.now.now
          (search (rules, tests)) (search (rules, tests)) (search (rules, tests))
          (λ y r p l. search (rules, tests)),
    ))
    (YieldsList-at c.flat_map.ensures.source
    (YieldsList-from_slice c.args.words.now c.iter.ensures.rest))
    c.flat_map.ensures.closure c.flat_map.ensures.front c.flat_map.ensures.back
    c.flat_map.ensures.done))
    c.filter.ensures.closure (λ x r q k. search (rules, tests)))
    ∙ ap (λ pieces. slice_get (filter (λ piece. not (length piece == 0)) pieces) c.args.number)
    (sym
    (flat_map-map (slice_split (λ byte. not (is_ascii_alphanumeric byte))) (λ word. word.now)
    c.args.words.now))
