use Rattle.std.proofs.Common.{◌≡◌, ◌+◌, ◌++◌, ◌∷◌, [], ◌∙◌, ap, sym, take}
use Rattle.std.proofs.lemmas.List.{take_more}
use Rattle.records.specs.declared.record.Record.{Record}
use Rattle.known_bags.proofs.Kept.{kept_by, kept_more}
use Rattle.known_bags.proofs.Lists.{next_record}
use Rattle.known_bags.proofs.sources.push_records.Goals as goal

pub loop-kept-preserved : goal.loop-kept-preserved
loop-kept-preserved c =
    let records = c.args.records.now in
    let i = c.loop-kept.kept-index in
    let r : Record = c.kept-item.result in
    let more : take (i + 1) records ≡ take i records ++ r ∷ [] =
    take_more records i r c.loop-kept-test.true
    ∙ ap (λ (x : Record). take i records ++ x ∷ []) (sym c.kept-item.is) in
    next_record records i r c.args.bags.now.items c.loop-kept.bags.items
    c.push_record.new.bags.items more c.loop-kept.invariant c.in_ok-push_record.ensures.known

pub returns-in_err-push_record-clause-kept : goal.returns-in_err-push_record-clause-kept
returns-in_err-push_record-clause-kept c =
    kept_more c.args.bags.now.items c.loop-kept.bags.items c.push_record.new.bags.items
    (kept_by _ _ _ c.loop-kept.invariant) c.push_record.ensures.kept

pub returns-clause-kept : goal.returns-clause-kept
returns-clause-kept c = kept_by _ _ _ c.loop-kept.invariant
