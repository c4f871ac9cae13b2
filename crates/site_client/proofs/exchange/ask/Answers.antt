use Rattle.site_client.specs.Replies.{question_of}
use Rattle.site_client.proofs.Heard.{asks_then, asks_no_more}
use Rattle.site_client.proofs.exchange.ask.Goals as goal

pub returns-in-Ok-true : goal.returns-in-Ok-true
returns-in-Ok-true g c =
    asks_then (question_of c.args.request.now) c.args.bytes.now c.args.wanted
    (g.P.Port.traffic c.args.port.now) (g.P.Port.traffic c.hand_out.new.port)
    (g.P.Port.traffic c.receive_reply.new.port) c.in-Ok-true.ensures
    c.receive_reply.result c.receive_reply.ensures

-- not all were sent
pub returns-in_default : goal.returns-in_default
returns-in_default g c =
    asks_no_more (question_of c.args.request.now) c.args.bytes.now c.args.wanted
    (g.P.Port.traffic c.args.port.now) (g.P.Port.traffic c.hand_out.new.port) c.hand_out.result
    c.hand_out.ensures
