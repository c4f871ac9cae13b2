use Rattle.std.proofs.Common.{Ok, Option, subst}
use Rattle.site_client.specs.declared.reply.ClientReply.{ClientReply}
use Rattle.site_client.specs.Replies.{question_of}
use Rattle.site_client.specs.inner.Heard.{Hears}
use Rattle.site_client.proofs.Heard.{again_then, again_no_more, again_cut, hears_more, err_if_ok}
use Rattle.site_client.proofs.exchange.ask_again.Goals as goal

pub returns-in_err-hand_out : goal.returns-in_err-hand_out
returns-in_err-hand_out g c =
    again_cut (question_of c.args.request.now) c.args.bytes.now c.args.wanted
    (g.P.Port.traffic c.args.port.now) (g.P.Port.traffic c.hand_out.new.port)
    c.in_err-hand_out.field-0.0 c.in_err-hand_out.ensures c.from_residual.result
    c.from_residual.ensures.0

-- the device didn't take them all
pub returns-then-not-branch : goal.returns-then-not-branch
returns-then-not-branch g c =
    again_no_more (question_of c.args.request.now) c.args.bytes.now c.args.wanted
    (g.P.Port.traffic c.args.port.now) (g.P.Port.traffic c.hand_out.new.port)
    c.in_ok-hand_out.ensures

pub returns-in_err-reply : goal.returns-in_err-reply
returns-in_err-reply g c =
    let heard = c.in_err-reply.ensures in
    again_then (question_of c.args.request.now) c.args.bytes.now c.args.wanted
    (g.P.Port.traffic c.args.port.now) (g.P.Port.traffic c.hand_out.new.port)
    (g.P.Port.traffic c.receive_reply.new.port) c.in_ok-hand_out.ensures
    c.from_residual-in_err-reply.result (
      heard.0,
      heard.1,
      heard.2,
      err_if_ok c.from_residual-in_err-reply.result _ _ c.from_residual-in_err-reply.ensures.1,
    )

pub returns-in_default : goal.returns-in_default
returns-in_default g c =
    again_then (question_of c.args.request.now) c.args.bytes.now c.args.wanted
    (g.P.Port.traffic c.args.port.now) (g.P.Port.traffic c.hand_out.new.port)
    (g.P.Port.traffic c.receive_reply.new.port) c.in_ok-hand_out.ensures
    (Ok c.in_ok-reply.reply) c.in_ok-reply.ensures

pub returns-in-None : goal.returns-in-None
returns-in-None g c =
    let sent = g.P.Port.traffic c.hand_out.new.port in
    let idle = g.P.Port.traffic c.receive_reply.new.port in
    let after = g.P.Port.traffic c.receive_reply-in-None.new.port in
    again_then (question_of c.args.request.now) c.args.bytes.now c.args.wanted
    (g.P.Port.traffic c.args.port.now) sent after c.in_ok-hand_out.ensures
    c.receive_reply-in-None.result
    (hears_more (question_of c.args.request.now) c.args.wanted sent idle after
    (subst (λ (reply : Option ClientReply). Hears (question_of c.args.request.now) c.args.wanted
    sent
    idle (Ok reply)) c.in-None.is c.in_ok-reply.ensures)
    c.receive_reply-in-None.result c.receive_reply-in-None.ensures)
