use Rattle.std.proofs.Common.{◌≡◌, ◌+◌, ◌++◌, ◌∷◌, [], List, ℕ, ap, sym, take, ◌∙◌}
use Rattle.std.proofs.Common.{append_assoc}
use Rattle.std.proofs.lemmas.List.{take_more}
use Rattle.records.specs.declared.record.Record.{Record}
use Rattle.ledger.proofs.Notes.{one_more}
use Rattle.ledger.proofs.versions.note_all.Goals as goal

pub loop-kept-preserved : goal.loop-kept-preserved
loop-kept-preserved c = λ before stands.
    let records : List Record = c.args.records.now in
    let i : ℕ = c.loop-kept.kept-index in
    let r : Record = c.kept-item.result in
    let more : take (i + 1) records ≡ take i records ++ r ∷ [] =
    take_more records i r c.loop-kept-test.true
    ∙ ap (λ (x : Record). take i records ++ x ∷ []) (sym c.kept-item.is) in
    rw (more, ← append_assoc before (take i records) (r ∷ []))
    (one_more c.loop-kept.versions c.note.new.versions r
    c.in_ok-note.ensures.slots c.in_ok-note.ensures.rows (before ++ take i records)
    (c.loop-kept.invariant before stands))
