use Rattle.std.proofs.Common.{◌≡◌, None}
use Rattle.std.specs.Map.{lookup}
use Rattle.fed_types.specs.Bags.{same_bag}
use Rattle.slot_table.proofs.Rows.{none_from}
use Rattle.sim_stations.proofs.Ordered.{found_by_order, with_by_order}
use Rattle.sim_stations.proofs.Seen.{seen_again, seen_first}
use Rattle.sim_stations.proofs.seen_bags.SeenBags.see.Goals as goal

pub returns-then-contains_key-clause-ok : goal.returns-then-contains_key-clause-ok
returns-then-contains_key-clause-ok c =
    seen_again c.args.self.now c.args.bag c.args.tree
    (rw (← c.self.view_is, ← found_by_order c.self.inside.firsts.entries c.args.bag)
    (rw (← c.contains_key.ensures) c.if-contains_key.true))

pub returns-clause-ok : goal.returns-clause-ok
returns-clause-ok c =
    let none : lookup (same_bag c.args.bag) c.args.self.now ≡ None =
    none_from (lookup (same_bag c.args.bag) c.args.self.now)
    (rw (← c.self.view_is, ← found_by_order c.self.inside.firsts.entries c.args.bag)
    (rw (← c.contains_key.ensures) c.if-contains_key.false)) in
    seen_first c.args.self.now c.insert.new.self.entries c.args.bag c.args.tree none
    (λ b. rw (← c.self.view_is)
    (with_by_order _ _ _ c.args.tree c.in_ok-insert.ensures.updates.0 b))
