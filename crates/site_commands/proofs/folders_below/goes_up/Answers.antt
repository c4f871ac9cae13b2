use Rattle.std.proofs.Common.{rules, tests}
use Rattle.std.proofs.lemmas.Iterator.Search.{any_from_yields_List}
use Rattle.std.proofs.lemmas.Iterator.Splits.{YieldsList-from_slice_split}
use Rattle.site_commands.specs.Paths.{is_parent}
use Rattle.site_commands.proofs.folders_below.goes_up.Goals as goal

pub returns : goal.returns
returns c =
    any_from_yields_List is_parent _ _ _ c.any.ensures.ran
    (YieldsList-from_slice_split _ _ c.args.path.now c.split.ensures.rest c.split.ensures.done
    c.split.ensures.closure (λ x r q k. search (rules, tests)))
    (λ x b q k. search (rules, tests))
