use Rattle.std.proofs.Common.{◌∙◌}
use Rattle.site_client.specs.Replies.{question_of}
use Rattle.site_client.proofs.Heard.{no_recovery, recovery_sent, recovery_unmade}
use Rattle.site_client.proofs.recovery.ask_to_recover.Goals as goal

pub returns-in_default : goal.returns-in_default
returns-in_default g c =
    no_recovery (question_of c.args.request.now) (g.P.Port.traffic c.args.port.now)
    c.in_default.ensures

pub returns-in_err-bytes : goal.returns-in_err-bytes
returns-in_err-bytes g c =
    recovery_unmade (question_of c.args.request.now) (g.P.Port.traffic c.args.port.now)
    c.from_residual.result c.from_residual.ensures.0

pub returns : goal.returns
returns g c =
    recovery_sent (question_of c.args.request.now) (g.P.Port.traffic c.args.port.now)
    (g.P.Port.traffic c.hand.new.port) c.in-Some.to c.as_slice.result.now c.in-Some.ensures
    (c.as_slice.ensures.value ∙ c.in_ok-bytes.ensures) c.hand.result c.hand.ensures
