use Rattle.std.proofs.Common.{sym, arith}
use Rattle.site_client.specs.Replies.{question_of}
use Rattle.site_client.proofs.Repeated.{at_first, then_last, then_more, then_stopped, no_more}
use Rattle.site_client.proofs.until_known.last_reply.Goals as goal

pub loop-count-init : goal.loop-count-init
loop-count-init g c path kind are =
    at_first (question_of c.args.request.now) path (g.P.Port.traffic c.args.port.now)
    (question_of c.at-question.result) c.first-bytes.result.now c.at-question.ensures
    (c.first-bytes.ensures (question_of c.args.request.now) path are)

pub loop-count-preserved : goal.loop-count-preserved
loop-count-preserved g c path kind are =
    then_more (question_of c.args.request.now) path (g.P.Port.traffic c.args.port.now)
    (g.P.Port.traffic c.loop-count.port) (g.P.Port.traffic c.ask_again.new.port) c.loop-count._count
    c.loop-count.last
    (question_of c.loop-count.question) c.loop-count.bytes.now
    (c.loop-count.invariant path kind are)
    c.in_ok-reply.reply c.args.wanted kind
    c.in_ok-reply.ensures
    c.or-last.result (question_of c.next-question.result) c.after-bytes.result.now
    c.or-last.ensures (sym c.if-ends.ensures) c.next-question.ensures
    (c.after-bytes.ensures (question_of c.args.request.now) path are)

pub returns-then-ends : goal.returns-then-ends
returns-then-ends g c path kind are =
    then_last (question_of c.args.request.now) path (g.P.Port.traffic c.args.port.now)
    (g.P.Port.traffic c.loop-count.port) (g.P.Port.traffic c.ask_again.new.port) c.loop-count._count
    c.loop-count.last
    (question_of c.loop-count.question) c.loop-count.bytes.now
    (c.loop-count.invariant path kind are)
    c.in_ok-reply.reply c.args.wanted kind
    c.in_ok-reply.ensures
    c.or-last.result c.or-last.ensures

pub returns-in_err-reply : goal.returns-in_err-reply
returns-in_err-reply g c path kind are =
    then_stopped (question_of c.args.request.now) path (g.P.Port.traffic c.args.port.now)
    (g.P.Port.traffic c.loop-count.port) (g.P.Port.traffic c.ask_again.new.port) c.loop-count._count
    c.loop-count.last
    (question_of c.loop-count.question) c.loop-count.bytes.now c.in_err-reply.field-0.0
    c.from_residual.result
    (c.loop-count.invariant path kind are) c.args.wanted c.in_err-reply.ensures
    c.from_residual.ensures.0

pub returns : goal.returns
returns g c path kind are =
    no_more (question_of c.args.request.now) path (g.P.Port.traffic c.args.port.now)
    (g.P.Port.traffic c.loop-count.port) c.loop-count._count c.loop-count.last
    (question_of c.loop-count.question) c.loop-count.bytes.now (omega arith)
    (c.loop-count.invariant path kind are)
