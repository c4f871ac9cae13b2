use Rattle.std.proofs.Common.{arith, refl, ◌∙◌}
use Rattle.udp_site.proofs.Handed.{is_err}
use Rattle.deposit_list.proofs.Windows.{none_sent, one_more_window, lines_written, no_overflow}
use Rattle.deposit_list.proofs.Windows.{none_left}
use Rattle.deposit_list.proofs.Reports.{window_stopped, lines_stopped, counted_all}
use Rattle.deposit_list.proofs.send_all.send_windows.Goals as goal

pub loop-rest-init : goal.loop-rest-init
loop-rest-init g c = (none_sent c.args.aim c.args.asked.now c.args.deposits.now _ _ _, refl)

pub returns-in_err-entries-clause-sent : goal.returns-in_err-entries-clause-sent
returns-in_err-entries-clause-sent g c =
    let long = c.split_at.ensures.front_len ∙ c.min.ensures in
    rw (is_err c.from_residual.result _ c.from_residual.ensures.1)
    (window_stopped c.args.aim c.args.asked.now c.args.deposits.now _ _ _ _ _ _ _ _
    c.loop-rest.rest.now c.split_at.result.0.now c.split_at.result.1.now _
    c.split_at.ensures.by_index.0 (rw c.window_size-size.ensures at long)
    c.loop-rest.invariant.0 c.in_err-entries.ensures)

pub returns-in_err-write_lines-clause-sent : goal.returns-in_err-write_lines-clause-sent
returns-in_err-write_lines-clause-sent g c =
    let long = c.split_at.ensures.front_len ∙ c.min.ensures in
    rw (is_err c.from_residual-in_err-write_lines.result _
    c.from_residual-in_err-write_lines.ensures.1)
    (lines_stopped c.args.aim c.args.asked.now c.args.deposits.now _ _ _ _ _ _
    c.split_at.result.1.now _ c.in_ok-entries.entries.items _ c.in_err-write_lines.field-0.0
    (one_more_window c.args.aim c.args.asked.now c.args.deposits.now _ _ _ _ _ _ _ _
    c.loop-rest.rest.now c.split_at.result.0.now c.split_at.result.1.now c.loop-rest.reached
    c.in_ok-entries.entries c.loop-rest-test.ensures c.split_at.ensures.by_index.0
    (rw c.window_size-size.ensures at long) c.loop-rest.invariant.0 c.in_ok-entries.ensures)
    (rw c.as_slice.ensures.value at c.in_err-write_lines.ensures.err))

pub overflow_add-reached : goal.overflow_add-reached
overflow_add-reached g c =
    let long = c.split_at.ensures.front_len ∙ c.min.ensures in
    omega (
      arith,
      rw c.as_slice-in-loop-rest.ensures.value at c.reached_in-reached.ensures,
      no_overflow c.args.aim c.args.asked.now c.args.deposits.now c.split_at.result.1.now _
          c.in_ok-entries.entries.items _ _ _ _ _ _
          (one_more_window c.args.aim c.args.asked.now c.args.deposits.now _ _ _ _ _ _ _ _
          c.loop-rest.rest.now c.split_at.result.0.now c.split_at.result.1.now
          c.loop-rest.reached c.in_ok-entries.entries c.loop-rest-test.ensures
          c.split_at.ensures.by_index.0 (rw c.window_size-size.ensures at long)
          c.loop-rest.invariant.0 c.in_ok-entries.ensures),
    )

pub loop-rest-preserved : goal.loop-rest-preserved
loop-rest-preserved g c =
    let long = c.split_at.ensures.front_len ∙ c.min.ensures in (
      rw (rw c.as_slice-in-loop-rest.ensures.value at c.reached_in-reached.ensures)
          (lines_written c.args.aim c.args.asked.now c.args.deposits.now _ _ _ _ _ _
          c.split_at.result.1.now _ c.in_ok-entries.entries.items _
          (rw c.as_slice.ensures.value at c.in_ok-write_lines.ensures.ok)
          (one_more_window c.args.aim c.args.asked.now c.args.deposits.now _ _ _ _ _ _ _ _
          c.loop-rest.rest.now c.split_at.result.0.now c.split_at.result.1.now
          c.loop-rest.reached c.in_ok-entries.entries c.loop-rest-test.ensures
          c.split_at.ensures.by_index.0 (rw c.window_size-size.ensures at long)
          c.loop-rest.invariant.0 c.in_ok-entries.ensures)),
      c.in_ok-write_lines.ensures.cause.same (λ is. absurd (cc is)) ∙ c.loop-rest.invariant.1,
    )

pub returns-clause-sent : goal.returns-clause-sent
returns-clause-sent g c =
    counted_all c.args.aim c.args.asked.now c.args.deposits.now _ _ _ _ _ _
    c.loop-rest.rest.now c.loop-rest.reached _ c.write_count.result
    (none_left c.loop-rest.rest.now c.loop-rest-test.ensures) c.loop-rest.invariant.0
    c.write_count.ensures.status c.write_count.ensures.ok c.write_count.ensures.err
