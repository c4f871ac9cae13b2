use Rattle.std.proofs.Common.{◌∙◌}
use Rattle.simulator.proofs.Places.{new_none, new_more, are_new}
use Rattle.simulator.proofs.federation.new_stations.Goals as goal

pub loop-site-init : goal.loop-site-init
loop-site-init c = (
  tt,
  tt,
  rw c.in_ok-stations.ensures.items (new_none c.args.members.now _
      (c.into_iter-site-iterator.ensures.into_iter_gives ∙ c.sites-site-items.ensures)),
)

pub loop-site-preserved : goal.loop-site-preserved
loop-site-preserved c = (
  tt,
  tt,
  rw c.in_ok-push.ensures.items (new_more c.args.members.now c.loop-site.stations.items
      c.loop-site.site-iterator c.next.new.self c.in-Some.site c.in_ok-new_station.field-0
      c.loop-site.invariant.2 c.in-Some.ensures.steps c.in_ok-new_station.ensures),
)

pub returns : goal.returns
returns c = are_new c.args.members.now c.loop-site.stations.items c.loop-site.site-iterator
    c.loop-site.invariant.2 c.in-None.ensures.steps.0
