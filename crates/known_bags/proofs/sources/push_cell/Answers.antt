use Rattle.std.proofs.Common.{subst}
use Rattle.std.specs.Prelude.{MatchOption}
use Rattle.ledger.specs.Cells.{HasNoOwner, IsCell}
use Rattle.known_bags.proofs.Cells.{cell_gives, headless_gives}
use Rattle.known_bags.proofs.sources.push_cell.Goals as goal

pub returns-in-Ok-Some-clause-known : goal.returns-in-Ok-Some-clause-known
returns-in-Ok-Some-clause-known c =
    let bytes = c.args.bytes.now in
    cell_gives bytes c.in-Ok-Some.contents c.args.bags.now.items c.push_contents.new.bags.items
    c.push_contents.result
    (subst (λ o. MatchOption o (HasNoOwner bytes) (IsCell bytes)) c.in-Ok-Some.field-0-is
    c.in-Ok-Some.ensures) c.push_contents.ensures.known

pub returns-in-Ok-None-clause-known : goal.returns-in-Ok-None-clause-known
returns-in-Ok-None-clause-known c =
    let bytes = c.args.bytes.now in
    headless_gives bytes c.args.bags.now.items c.headless_ending.result c.end_of.result
    (subst (λ o. MatchOption o (HasNoOwner bytes) (IsCell bytes)) c.in-Ok-None.field-0-is
    c.in-Ok-None.ensures) c.headless_ending.ensures c.end_of.ensures
