use Rattle.deposit_list.proofs.Reports.{memory_ran_out}
use Rattle.deposit_list.proofs.send_all.send_all_on.Goals as goal

pub returns-in-Err-Memory-clause-sent : goal.returns-in-Err-Memory-clause-sent
returns-in-Err-Memory-clause-sent g c =
    memory_ran_out c.args.aim c.args.asked.now c.args.deposits.now _ _ _ _ _ _ _
    c.write_output.result (rw c.in-Err-Memory.field-0-is at c.in-Err-Memory.ensures.sent)
    c.write_output.ensures.ok c.write_output.ensures.err
