use Rattle.std.proofs.Common.{rules, arith, ◌≡◌, length, le_trans}
use Rattle.site.specs.Batches.{no_cell}
use Rattle.udp_site.specs.declared.fault.ServeFault.TheVariants as faults
use Rattle.udp_site.specs.Traffic.{taken}
use Rattle.udp_site.specs.Turns.{turn_of}
use Rattle.udp_site.proofs.Handed.{is_err}
use Rattle.udp_site.proofs.WholeBatch.{whole, ended, some_turn}
use Rattle.udp_site.proofs.Intake.{taken_in_later, some_later}
use Rattle.udp_site.proofs.batch_loop.Server+Waiting+HeldPort+F.one_batch.Goals as goal

pub returns-in_err-serve_batch-clause-serves : goal.returns-in_err-serve_batch-clause-serves
returns-in_err-serve_batch-clause-serves g c s here =
    let was = c.args.self.now in
    let left = c.serve_batch.new.self in
    let batch = c.serve_batch.new.batch.items in
    let served = c.in_err-serve_batch.ensures.serves s here in
    rw (is_err _ _ c.from_residual-in_err-serve_batch.ensures.1)
    (ended g.C.Cell.device (turn_of no_cell was.addresses.now (g.F.Folders.gives was.folders.now)) _
    _ s _ _ _ c.serve_batch.new.carried c.args.left _ left.progress.idle left.progress.tried _ batch
    (taken_in_later _ _ _ _ _ _ _ batch c.in_ok-batch.ensures.taken served.1
    (omega (arith, c.in_err-serve_batch.ensures.count, c.min-most.ensures)))
    (omega (arith, c.in_err-serve_batch.ensures.count, c.min-most.ensures)) _ served.2)

pub returns-in_err-serve_batch-clause-port : goal.returns-in_err-serve_batch-clause-port
returns-in_err-serve_batch-clause-port g c =
    let served =
    c.in_err-serve_batch.ensures.serves c.requires.stands.0 c.requires.stands.1 in
    let failed = is_err _ _ c.from_residual-in_err-serve_batch.ensures.1 in
    record {
      later = le_trans c.in_ok-batch.ensures.port.later c.in_err-serve_batch.ensures.later;
      failed = λ port.
          let is : c.in_err-serve_batch.field-0.0 ≡ faults.Port = cc (failed, port) in
          absurd (rw is at served.2);
    }

pub returns-clause-serves : goal.returns-clause-serves
returns-clause-serves g c s here =
    let was = c.args.self.now in
    let batch = c.serve_batch.new.batch.items in
    let served = c.in_ok-serve_batch.ensures.serves s here in
    let count : length batch ≡ c.len.result = search rules in
    rw (← count)
    (whole g.C.Cell.device (turn_of no_cell was.addresses.now (g.F.Folders.gives was.folders.now)) _
    _ s _ _ _ c.serve_batch.new.carried c.args.left _ _ _ _ batch
    (taken_in_later _ _ _ _ _ _ _ batch c.in_ok-batch.ensures.taken served.1
    (omega (arith, c.in_ok-serve_batch.ensures.count, c.min-most.ensures)))
    (omega (arith, c.in_ok-serve_batch.ensures.count, c.min-most.ensures)) served.2)

pub returns-clause-some : goal.returns-clause-some
returns-clause-some g c =
    let served = c.in_ok-serve_batch.ensures.serves c.requires.stands.0 c.requires.stands.1 in
    let count : length c.serve_batch.new.batch.items ≡ c.len.result = search rules in
    omega (
      arith,
      count,
      some_turn c.in_ok-batch.batch.items c.in_ok-batch.ensures.taken.2,
      some_later (g.P.Port.traffic c.take_in.new.port) served.0 c.take_in.new.carried
          c.serve_batch.new.carried c.in_ok-batch.batch.items c.serve_batch.new.batch.items
          served.1,
    )
