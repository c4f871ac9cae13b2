use Rattle.std.proofs.Common.{◌∙◌}
use Rattle.sim_stations.proofs.Found.{next_found, next_none}
use Rattle.sim_stations.proofs.datagrams.Datagrams.next_unnamed.Goals as goal

pub returns-then-self-count-clause-next : goal.returns-then-self-count-clause-next
returns-then-self-count-clause-next g c named stands =
    next_found _ c.args.self.now _ named c.len-count.result c.last_named-self-inside.result
    c.self.view_is c.as_slice.ensures.value
    (c.len-count.ensures ∙ c.self.inside.datagrams.ok.0) c.last_named-self-inside.ensures stands
    c.if-self-count.true

pub returns-clause-next : goal.returns-clause-next
returns-clause-next g c named stands =
    next_none _ c.args.self.now _ named c.len-count.result c.last_named-self-inside.result
    c.self.view_is c.as_slice.ensures.value
    (c.len-count.ensures ∙ c.self.inside.datagrams.ok.0) c.last_named-self-inside.ensures stands
    c.if-self-count.false
