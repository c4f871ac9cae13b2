use Rattle.std.proofs.Common.{sym, ◌∙◌}
use Rattle.udp_site.proofs.Handed.{is_err}
use Rattle.deposit_list.proofs.Asking.{settled_before, stepped, went, nothing_gone}
use Rattle.deposit_list.proofs.rounds.ask_entry.Goals as goal

pub returns-then-is_settled : goal.returns-then-is_settled
returns-then-is_settled g c =
    settled_before c.args.asked.now c.args.entry.now _
    (sym c.is_settled.ensures ∙ c.if-is_settled.true)

pub returns-in_err-path : goal.returns-in_err-path
returns-in_err-path g c =
    rw (is_err c.from_residual.result _ c.from_residual.ensures.1)
    (nothing_gone c.args.asked.now c.args.entry.now _)

pub returns-in_err-reply : goal.returns-in_err-reply
returns-in_err-reply g c =
    rw (is_err c.from_residual-in_err-reply.result _ c.from_residual-in_err-reply.ensures.1)
    (went c.args.asked.now c.args.entry.now _ c.in_ok-path.path _ _ c.in_ok-path.ensures
    c.in_err-reply.ensures)

pub returns : goal.returns
returns g c =
    stepped c.args.asked.now c.args.entry.now _ c.in_ok-path.path _ _ _
    (sym c.is_settled.ensures ∙ c.if-is_settled.false) c.in_ok-path.ensures
    c.in_ok-reply.ensures c.after-entry.ensures
