use Rattle.std.proofs.Common.{◌≤◌, List, length, subst}
use Rattle.records.specs.declared.record.Record.{Record}
use Rattle.udp_site.proofs.Search.{none_past}
use Rattle.udp_site.proofs.idle_turns.first_waiting.Goals as goal

pub returns-clause-first : goal.returns-clause-first
returns-clause-first g c =
    none_past c.args.site.now.book.records c.args.from c.loop-place.place c.loop-place.invariant
    (subst (λ (rs : List Record). length rs ≤ c.loop-place.place) c.records-place-end.ensures
    c.loop-place-test.false)
