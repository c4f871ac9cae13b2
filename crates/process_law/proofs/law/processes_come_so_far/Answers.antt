use Rattle.process_law.proofs.Reached.{processes_come_so_far}
use Rattle.process_law.proofs.law.processes_come_so_far.Goals as goal

pub returns : goal.returns
returns g c = λ members.
    processes_come_so_far _ members g.met.C.Cell.counts_now g.met.C.Cell.only_now
