use Rattle.std.proofs.Common.{◌≡◌, ◌≤◌, ◌+◌, ℕ, arith, subst}
use Rattle.udp_site.specs.Status.{waiting_before}
use Rattle.udp_site.proofs.CountedFrom.{one_more_from, all_from, most_from}
use Rattle.udp_site.proofs.idle_turns.waiting_from.Goals as goal

pub loop-count-preserved : goal.loop-count-preserved
loop-count-preserved g c =
    one_more_from c.args.site.now.book.records c.args.from c.loop-count.next c.loop-count.count
    c.in-Some.place c.loop-count.invariant c.in-Some.ensures.first

pub returns-in_default : goal.returns-in_default
returns-in_default g c =
    all_from c.args.site.now.book.records c.args.from c.loop-count.next c.loop-count.count
    c.loop-count.invariant c.in_default.ensures.first c.loop-count-test.true

pub returns : goal.returns
returns g c =
    most_from c.args.site.now.book.records c.args.from c.loop-count.next
    (subst (λ (n : ℕ). waiting_before c.args.site.now.book.records c.args.from + n
    ≡ waiting_before c.args.site.now.book.records c.loop-count.next)
    (all_32 c.loop-count.count c.loop-count.auto.count-end c.loop-count-test.false)
    c.loop-count.invariant)
  where
    all_32 : (n : ℕ) → n ≤ 32 → 32 ≤ n → n ≡ 32
    all_32 n most least = omega (arith, most, least)
