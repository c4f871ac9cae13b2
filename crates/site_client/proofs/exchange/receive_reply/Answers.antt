use Rattle.std.proofs.Common.{None, Some, Ok, sym, ap, ◌∙◌}
use Rattle.site_client.specs.Replies.{question_of, reply_from}
use Rattle.site_client.proofs.Heard.{hears_more, hears_none, hears_one, err_if_ok}
use Rattle.site_client.proofs.exchange.receive_reply.Goals as goal

pub returns-in_default : goal.returns-in_default
returns-in_default g c =
    hears_more (question_of c.args.request.now) c.args.wanted (g.P.Port.traffic c.args.port.now)
    (g.P.Port.traffic c.loop.port) (g.P.Port.traffic c.next_datagram.new.port) c.loop.invariant
    (Ok None) (hears_none (question_of c.args.request.now) c.args.wanted
    (g.P.Port.traffic c.loop.port) (g.P.Port.traffic c.next_datagram.new.port)
    c.in_default.ensures)

pub returns-in_err-reply : goal.returns-in_err-reply
returns-in_err-reply g c =
    hears_more (question_of c.args.request.now) c.args.wanted (g.P.Port.traffic c.args.port.now)
    (g.P.Port.traffic c.loop.port) (g.P.Port.traffic c.next_datagram.new.port) c.loop.invariant
    c.from_residual.result (hears_one (question_of c.args.request.now) c.args.wanted
    (g.P.Port.traffic c.loop.port) (g.P.Port.traffic c.next_datagram.new.port)
    c.in-Some.datagram.0 c.in-Some.datagram.1.items c.in-Some.ensures c.from_residual.result
    (err_if_ok c.from_residual.result _ _ c.from_residual.ensures.1))

pub returns-in-Some-2 : goal.returns-in-Some-2
returns-in-Some-2 g c =
    hears_more (question_of c.args.request.now) c.args.wanted (g.P.Port.traffic c.args.port.now)
    (g.P.Port.traffic c.loop.port) (g.P.Port.traffic c.next_datagram.new.port) c.loop.invariant
    (Ok (Some c.in-Some-2.reply)) (hears_one (question_of c.args.request.now) c.args.wanted
    (g.P.Port.traffic c.loop.port) (g.P.Port.traffic c.next_datagram.new.port)
    c.in-Some.datagram.0 c.in-Some.datagram.1.items c.in-Some.ensures (Ok (Some c.in-Some-2.reply))
    (sym c.in-Some-2.is ∙ c.in_ok-reply.ensures
    ∙ ap (reply_from (question_of c.args.request.now) c.args.wanted c.in-Some.datagram.0)
    c.as_slice.ensures.value))

pub loop-preserved : goal.loop-preserved
loop-preserved g c =
    hears_more (question_of c.args.request.now) c.args.wanted (g.P.Port.traffic c.args.port.now)
    (g.P.Port.traffic c.loop.port) (g.P.Port.traffic c.next_datagram.new.port) c.loop.invariant
    (Ok None) (hears_one (question_of c.args.request.now) c.args.wanted
    (g.P.Port.traffic c.loop.port) (g.P.Port.traffic c.next_datagram.new.port)
    c.in-Some.datagram.0 c.in-Some.datagram.1.items c.in-Some.ensures (Ok None)
    (sym c.in_default-2.is ∙ c.in_ok-reply.ensures
    ∙ ap (reply_from (question_of c.args.request.now) c.args.wanted c.in-Some.datagram.0)
    c.as_slice.ensures.value))
