use Rattle.std.proofs.Common.{None, Ok}
use Rattle.site_client.specs.Replies.{question_of}
use Rattle.site_client.specs.inner.Heard.{Hears}
use Rattle.site_client.proofs.exchange.receive_reply.Given as goal

-- no reply came so far
abbrev pub invariant-loop : goal.invariant-loop
invariant-loop g l =
    Hears (question_of l.request) l.wanted (g.P.Port.traffic l.fn.port) (g.P.Port.traffic l.port)
    (Ok None)
