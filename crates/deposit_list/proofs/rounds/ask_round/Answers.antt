use Rattle.std.proofs.Common.{arith}
use Rattle.udp_site.proofs.Handed.{is_err}
use Rattle.deposit_list.proofs.Asking.{at_first, one_more, stopped, at_end}
use Rattle.deposit_list.proofs.rounds.ask_round.Goals as goal

pub loop-entry-init : goal.loop-entry-init
loop-entry-init g c = at_first c.args.asked.now c.args.entries.now _

pub returns-in_err-ask_entry : goal.returns-in_err-ask_entry
returns-in_err-ask_entry g c =
    rw (is_err c.from_residual.result _ c.from_residual.ensures.1)
    (stopped c.args.asked.now c.args.entries.now _ c.loop-entry.entries
    c.loop-entry.entry-index c.entry-item.result _ _ (omega arith) c.in_err-ask_entry.ensures
    c.loop-entry.invariant)

pub loop-entry-preserved : goal.loop-entry-preserved
loop-entry-preserved g c =
    one_more c.args.asked.now c.args.entries.now _ c.loop-entry.entries
    c.loop-entry.entry-index c.entry-item.result c.ask_entry.new.entry _ _ (omega arith)
    (omega arith) c.in_ok-ask_entry.ensures c.loop-entry.invariant

pub returns : goal.returns
returns g c =
    at_end c.args.asked.now c.args.entries.now _ c.loop-entry.entries
    c.loop-entry.entry-index _ (omega arith) (omega arith) c.loop-entry.invariant
