use Rattle.std.proofs.Common.{ℕ, List, [], ◌∷◌, Option, sym, subst}
use Rattle.udp_site.specs.Traffic.{Taken, Nothing, From, Move, Took, Grows}
use Rattle.site_client.specs.inner.Heard.{TakesOne, datagram_taken}
use Rattle.site_client.proofs.exchange.next_datagram.Goals as goal

takes : (before after : Option (List Move)) (taken : Taken) → Grows before after (Took taken ∷ [])
    → TakesOne before after (datagram_taken taken)
takes before after Nothing grows = (Took Nothing ∷ [], grows, tt)
takes before after (From address bytes) grows = grows

pub returns-in-Ok : goal.returns-in-Ok
returns-in-Ok g c =
    subst (λ (d : Option (ℕ × List ℕ)).
    TakesOne (g.P.Port.traffic c.args.port.now) (g.P.Port.traffic c.receive.new.self) d)
    (sym c.datagram_in.ensures)
    (takes (g.P.Port.traffic c.args.port.now) (g.P.Port.traffic c.receive.new.self) _
    c.in-Ok.ensures.received)
