use Rattle.std.proofs.Common.{◌∙◌}
use Rattle.site_client.specs.Replies.{question_of}
use Rattle.site_client.proofs.Heard.{bag_asked, bag_unasked, bag_not_begun}
use Rattle.site_client.proofs.client.ask_for_bag.Goals as goal

pub returns-in_err-bytes : goal.returns-in_err-bytes
returns-in_err-bytes g c =
    bag_not_begun (question_of c.args.request.now) (g.P.Port.traffic c.args.port.now)
    c.from_residual.result c.from_residual.ensures.0

pub returns-in_err-reply : goal.returns-in_err-reply
returns-in_err-reply g c =
    bag_unasked (question_of c.args.request.now) c.as_slice.result.now
    (c.as_slice.ensures.value ∙ c.in_ok-bytes.ensures) (g.P.Port.traffic c.args.port.now)
    (g.P.Port.traffic c.ask_again.new.port) c.in_err-reply.field-0.0 c.in_err-reply.ensures
    c.from_residual-in_err-reply.result c.from_residual-in_err-reply.ensures.0

pub returns : goal.returns
returns g c =
    bag_asked (question_of c.args.request.now) c.as_slice.result.now
    (c.as_slice.ensures.value ∙ c.in_ok-bytes.ensures) (g.P.Port.traffic c.args.port.now)
    (g.P.Port.traffic c.ask_again.new.port) c.in_ok-reply.reply c.query_in.result
    c.query_in.ensures c.in_ok-reply.ensures
