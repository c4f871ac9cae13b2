use Rattle.std.proofs.Common.{◌≡◌, ◌+◌, ℕ, List, [], ◌∷◌, ◌++◌, take, sym, ap, subst, ◌∙◌}
use Rattle.std.proofs.lemmas.List.{take_all, take_more}
use Rattle.records.specs.declared.record.Record.{Record}
use Rattle.proposer.specs.VolatileStates.{new_volatile}
use Rattle.proposer.specs.UnderWay.{nothing}
use Rattle.site.specs.Contents.{IsOf, Represents}
use Rattle.site.proofs.Noted.{stays_new}
use Rattle.site.proofs.tables.Tables.of.Goals as goal

pub loop-r-init : goal.loop-r-init
loop-r-init c = (c.new-tables.ensures.of, c.new-tables.ensures.stands)

pub loop-r-preserved : goal.loop-r-preserved
loop-r-preserved c =
    let records : List Record = c.args.records.now in
    let i : ℕ = c.loop-r.r-index in
    let r : Record = c.in_ok-copy.field-0 in
    let one_more : take (i + 1) records ≡ take i records ++ r ∷ [] =
    take_more records i c.r-item.result c.loop-r-test.true
    ∙ ap (λ (x : Record). take i records ++ x ∷ []) (sym c.r-item.is ∙ sym c.in_ok-copy.ensures) in
    let reserved = c.reserve.ensures.same in (
      subst (IsOf c.note.new.self c.args.owner.now) (sym one_more)
          (c.note.ensures.of c.args.owner.now (take i records)
          (reserved.of c.args.owner.now (take i records) (c.loop-r.invariant).0)),
      subst (λ (rs : List Record). Represents c.note.new.self rs new_volatile nothing)
          (sym one_more)
          (stays_new c.note.new.self (take i records ++ r ∷ []) r
          (c.note.ensures.stands (take i records) new_volatile nothing
          (reserved.stands (take i records) new_volatile nothing (c.loop-r.invariant).1))),
    )

pub returns-clause-of : goal.returns-clause-of
returns-clause-of c =
    subst (IsOf c.loop-r.tables c.args.owner.now)
    (take_all c.loop-r.r-index c.args.records.now c.loop-r-test.false) (c.loop-r.invariant).0

pub returns-clause-stands : goal.returns-clause-stands
returns-clause-stands c =
    subst (λ (rs : List Record). Represents c.loop-r.tables rs new_volatile nothing)
    (take_all c.loop-r.r-index c.args.records.now c.loop-r-test.false) (c.loop-r.invariant).1
