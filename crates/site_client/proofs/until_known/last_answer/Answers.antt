use Rattle.site_client.specs.Replies.{question_of}
use Rattle.site_client.proofs.Repeated.{not_begun, no_room}
use Rattle.site_client.proofs.until_known.last_answer.Goals as goal

pub returns-in_err-questions : goal.returns-in_err-questions
returns-in_err-questions g c =
    not_begun (question_of c.args.request.now) c.args.path (g.P.Port.traffic c.args.port.now)
    (g.P.Port.traffic c.args.port.now) c.from_residual.result c.from_residual.ensures.0

pub returns-in_err-answer_to-in-Some : goal.returns-in_err-answer_to-in-Some
returns-in_err-answer_to-in-Some g c =
    no_room (question_of c.args.request.now) c.args.path (g.P.Port.traffic c.args.port.now)
    (g.P.Port.traffic c.last_reply.new.port) c.in_ok-reply.field-0
    c.from_residual-in_err-answer_to-in-Some.result
    c.from_residual-in_err-answer_to-in-Some.ensures.0
    (c.in_ok-reply.ensures c.args.path c.wanted_until-wanted.ensures c.in_ok-questions.ensures)
