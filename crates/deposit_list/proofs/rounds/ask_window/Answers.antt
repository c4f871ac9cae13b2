use Rattle.std.proofs.Common.{sym}
use Rattle.udp_site.proofs.Handed.{is_err}
use Rattle.deposit_list.proofs.Asking.{none_gone_on, asked_once, asked_in_rounds}
use Rattle.deposit_list.proofs.Asking.{once_gone_on, later_gone_on}
use Rattle.deposit_list.proofs.rounds.ask_window.Goals as goal

pub returns-in_err-entries : goal.returns-in_err-entries
returns-in_err-entries g c =
    rw (is_err c.from_residual.result _ c.from_residual.ensures.1)
    (none_gone_on c.args.aim c.args.asked.now c.args.window.now _ _)

pub returns-in_err-ask_round-in-Registered : goal.returns-in_err-ask_round-in-Registered
returns-in_err-ask_round-in-Registered g c =
    rw (is_err c.from_residual-in_err-ask_round-in-Registered.result _
    c.from_residual-in_err-ask_round-in-Registered.ensures.1)
    (once_gone_on c.args.aim c.args.asked.now c.args.window.now c.in_ok-entries.entries.items
    c.in_ok-entries.ensures c.in-Registered.is _ _ _
    (rw (c.at.ensures, c.as_mut_slice.ensures.value) at
    c.in_err-ask_round-in-Registered.ensures))

pub returns-in_err-ask_rounds-in-Known : goal.returns-in_err-ask_rounds-in-Known
returns-in_err-ask_rounds-in-Known g c =
    rw (is_err c.from_residual-in_err-ask_rounds-in-Known.result _
    c.from_residual-in_err-ask_rounds-in-Known.ensures.1)
    (later_gone_on c.args.aim c.args.asked.now c.args.window.now c.in_ok-entries.entries.items
    c.in_ok-entries.ensures c.in-Known.seconds c.deadline_after-deadline.result c.in-Known.is
    _ _ _ _ _ c.deadline_after-deadline.ensures
    (rw c.as_mut_slice-in-Known.ensures.value at c.in_err-ask_rounds-in-Known.ensures))

pub returns-in_ok-ask_round-in-Registered : goal.returns-in_ok-ask_round-in-Registered
returns-in_ok-ask_round-in-Registered g c =
    asked_once c.args.aim c.args.asked.now c.args.window.now c.in_ok-entries.entries.items
    c.ask_round.new.entries c.in_ok-entries.ensures c.in_ok-entries.entries.len _
    (sym c.in_ok-entries.entries.ok.0) c.in-Registered.is _ _ _
    (rw (c.at.ensures, c.as_mut_slice.ensures.value) at
    c.in_ok-ask_round-in-Registered.ensures)

pub returns-in_ok-ask_rounds-in-Known : goal.returns-in_ok-ask_rounds-in-Known
returns-in_ok-ask_rounds-in-Known g c =
    asked_in_rounds c.args.aim c.args.asked.now c.args.window.now c.in_ok-entries.entries.items
    c.ask_rounds.new.entries c.in_ok-entries.ensures c.in_ok-entries.entries.len _
    (sym c.in_ok-entries.entries.ok.0) c.in-Known.seconds c.deadline_after-deadline.result
    c.in-Known.is _ _ _ _ _ c.deadline_after-deadline.ensures
    (rw c.as_mut_slice-in-Known.ensures.value at c.in_ok-ask_rounds-in-Known.ensures)
