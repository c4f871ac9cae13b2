use Rattle.std.proofs.Common.{◌<◌, length, map, sym, ap, ◌∙◌, arith, rules, tests}
use Rattle.std.specs.Prelude.{◌==◌}
use Rattle.std.proofs.lemmas.Bool.{eqb-true, eqb-false}
use Rattle.std.proofs.lemmas.Iterator.Consumers.{map_from_collect}
use Rattle.std.proofs.lemmas.Iterator.Splits.{YieldsList-from_slice_split}
use Rattle.folder_checks.specs.Names.{without_end}
use Rattle.folder_checks.proofs.Names.{no_names, some_names}
use Rattle.folder_checks.proofs.folder_list.names_in.Goals as goal

pub returns-then-is_empty : goal.returns-then-is_empty
returns-then-is_empty c =
    ap (map (λ name. name.now)) c.new.ensures.items
    ∙ no_names c.args.end c.args.bytes.now
    (eqb-true (length c.args.bytes.now) 0 (sym c.if-is_empty.ensures))

pub returns : goal.returns
returns c =
    let some : 0 < length c.args.bytes.now =
    omega (arith, eqb-false (length c.args.bytes.now) 0 (sym c.if-is_empty.ensures)) in
    rw (some_names c.args.end c.args.bytes.now some)
    (map_from_collect _ c.collect.ensures.ran
    (YieldsList-from_slice_split _ (λ b. b == c.args.end)
    (without_end c.args.end c.args.bytes.now) (c.split.ensures.rest ∙ c.without_end.ensures)
    c.split.ensures.done c.split.ensures.closure (λ x b q k. search (rules, tests))))
