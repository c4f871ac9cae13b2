use Rattle.site_client.specs.Replies.{question_of}
use Rattle.site_client.proofs.Heard.{hands_both, hands_question, hands_nothing}
use Rattle.site_client.proofs.exchange.hand_out.Goals as goal

pub returns-then-is_taken : goal.returns-then-is_taken
returns-then-is_taken g c =
    hands_both (question_of c.args.request.now) c.args.bytes.now
    (g.P.Port.traffic c.args.port.now) (g.P.Port.traffic c.hand.new.port)
    (g.P.Port.traffic c.ask_to_recover.new.port) c.in_ok-is_taken.ensures
    c.in_ok-is_recovery_taken.ensures

pub returns-else-is_taken : goal.returns-else-is_taken
returns-else-is_taken g c =
    hands_both (question_of c.args.request.now) c.args.bytes.now
    (g.P.Port.traffic c.args.port.now) (g.P.Port.traffic c.hand.new.port)
    (g.P.Port.traffic c.ask_to_recover.new.port) c.in_ok-is_taken.ensures
    c.in_ok-is_recovery_taken.ensures

pub returns-in_err-is_taken : goal.returns-in_err-is_taken
returns-in_err-is_taken g c =
    hands_nothing (question_of c.args.request.now) c.args.bytes.now
    (g.P.Port.traffic c.args.port.now) (g.P.Port.traffic c.hand.new.port)
    c.in_err-is_taken.ensures c.from_residual.result c.from_residual.ensures.0

pub returns-in_err-is_recovery_taken : goal.returns-in_err-is_recovery_taken
returns-in_err-is_recovery_taken g c =
    hands_question (question_of c.args.request.now) c.args.bytes.now
    (g.P.Port.traffic c.args.port.now) (g.P.Port.traffic c.hand.new.port)
    (g.P.Port.traffic c.ask_to_recover.new.port) c.in_ok-is_taken.ensures
    c.in_err-is_recovery_taken.ensures c.from_residual-in_err-is_recovery_taken.result
    c.from_residual-in_err-is_recovery_taken.ensures.0
