use Rattle.std.proofs.Common.{◌≤◌, true, arith, length-take}
use Rattle.cell_device.proofs.Changes.{goes_on}
use Rattle.cell_device.proofs.medium.Medium.cut.Goals as goal

pub returns-clause-time : goal.returns-clause-time
returns-clause-time c =
    let m = c.args.self.now in
    let low : c.args.len ≤ m.most = omega (
      arith,
      length-take m.seen m.buffer.items,
      c.requires.within,
    ) in
    goes_on m m.buffer.items c.args.len m.most c.args.len true c.push_reserved.new.self.items
    c.now-change.result low (omega arith) (rw c.in_ok-reserve.ensures.items at
    c.push_reserved.ensures.items) c.now-change.ensures
