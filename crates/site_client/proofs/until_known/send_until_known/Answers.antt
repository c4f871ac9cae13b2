use Rattle.site_client.specs.Replies.{question_of}
use Rattle.site_client.proofs.Repeated.{told}
use Rattle.site_client.proofs.until_known.send_until_known.Goals as goal

pub returns : goal.returns
returns g c =
    told (question_of c.args.request.now) c.args.path (g.P.Port.traffic c.args.port.now)
    (g.P.Port.traffic c.last_answer.new.port) (g.W.Write.contents c.args.output.now)
    (g.W.Write.contents c.write_reply.new.output) c.write_reply.result c.last_answer.result
    c.last_answer.ensures c.write_reply.ensures
