use Rattle.catch_up.proofs.Reports.{memory_ran_out}
use Rattle.catch_up.proofs.rounds.catch_up_on.Goals as goal

pub returns-in-Err-Memory-clause-told : goal.returns-in-Err-Memory-clause-told
returns-in-Err-Memory-clause-told g c =
    memory_ran_out c.args.seconds c.args.asked.now c.args.versions.now _ _ _ _ _ _ _
    c.write_output.result (rw c.in-Err-Memory.field-0-is at c.in-Err-Memory.ensures.asked)
    c.write_output.ensures.ok c.write_output.ensures.err
