use Rattle.std.proofs.Common.{false, arith}
use Rattle.cell_device.proofs.Changes.{goes_on}
use Rattle.cell_device.proofs.medium.Medium.settle.Goals as goal

pub returns-then-self-clause-time : goal.returns-then-self-clause-time
returns-then-self-clause-time c =
    let m = c.args.self.now in
    goes_on m m.buffer.items m.seen m.seen m.seen false c.push_reserved.new.self.items
    c.now-change.result (omega arith) (omega arith) c.push_reserved.ensures.items
    c.now-change.ensures
