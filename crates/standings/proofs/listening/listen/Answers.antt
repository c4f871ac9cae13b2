use Rattle.std.proofs.Common.{List, ℕ, map, ap, ◌∙◌}
use Rattle.standings.specs.Rounds.{hears}
use Rattle.standings.proofs.Rounds.{listened_once, listened_twice}
use Rattle.standings.proofs.listening.listen.Goals as goal

-- nothing came
pub returns-in_default : goal.returns-in_default
returns-in_default g c =
    listened_twice c.args.federation (g.P.Port.traffic c.args.port.now)
    (g.P.Port.traffic c.loop.port) (g.P.Port.traffic c.next_datagram.new.port) c.args.sites.now
    c.loop.sites c.loop.sites c.loop.invariant
    (c.in_default.ensures c.args.federation c.loop.sites)

pub loop-preserved : goal.loop-preserved
loop-preserved g c =
    listened_twice c.args.federation (g.P.Port.traffic c.args.port.now)
    (g.P.Port.traffic c.loop.port) (g.P.Port.traffic c.next_datagram.new.port) c.args.sites.now
    c.loop.sites c.hear.new.sites c.loop.invariant
    (listened_once c.args.federation (g.P.Port.traffic c.loop.port)
    (g.P.Port.traffic c.next_datagram.new.port) c.loop.sites c.hear.new.sites c.in-Some.datagram.0
    c.in-Some.datagram.1.items c.millis.result c.in-Some.ensures
    (c.in_ok-hear.ensures
    ∙ ap (λ (bytes : List ℕ).
    map (hears c.args.federation c.in-Some.datagram.0 bytes c.millis.result) c.loop.sites)
    c.as_slice.ensures.value))
