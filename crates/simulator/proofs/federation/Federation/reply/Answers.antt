use Rattle.std.proofs.Common.{◌+◌}
use Rattle.std.proofs.lemmas.Result.{on_ok_weaker}
use Rattle.simulator.proofs.Called.{replied, is_member_at}
use Rattle.simulator.proofs.federation.Federation.reply.Goals as goal

pub returns : goal.returns
returns c =
    on_ok_weaker c.say.result (λ says w is so.
    rw (replied w (c.args.place + 1) c.args.slot.now c.args.reply
    (is_member_at c.args.self.now w c.args.place is c.requires) so)
    (rw (c.site_at.ensures w is, c.in_ok-slot.ensures)
    at (rw (c.line_said-line.ensures w.seen is.seen, c.reply_notice-notice.ensures)
    at (says w is)))) c.say.ensures
