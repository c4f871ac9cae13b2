use Rattle.std.proofs.Common.{◌≡◌, ◌+◌, ◌++◌, List, ℕ, false, length, take, drop, ap, ◌∙◌, arith}
use Rattle.std.proofs.Common.{length-append}
use Rattle.std.proofs.lemmas.List.{length-take-le}
use Rattle.std.proofs.lemmas.Grind.{common_steps}
use Rattle.cell_device.specs.inner.Undone.{State}
use Rattle.cell_device.proofs.Changes.{goes_on, undo_append}
use Rattle.cell_device.proofs.medium.Medium.append.Goals as goal

pub returns-clause-time : goal.returns-clause-time
returns-clause-time c =
    let m = c.args.self.now in
    let new = c.extend_from_slice.new.self in
    let items : new.items ≡ take m.seen m.buffer.items ++ c.args.bytes.now =
    grind (arith, common_steps) in
    let lost : c.in_ok-lost.lost.items ≡ drop m.seen m.buffer.items = grind (arith, common_steps) in
    let long : length new.items ≡ m.seen + length c.args.bytes.now = ap length items
    ∙ omega (
      arith,
      length-append (take m.seen m.buffer.items) c.args.bytes.now,
      length-take-le m.seen m.buffer.items,
    ) in
    let all : c.len-self.result ≡ length new.items = omega (arith, c.len-self.ensures, new.ok.0) in
    let with_buffer = λ (l : List ℕ). (let s : State =
    record { buffer = l; least = m.least; most = m.most } in s) in
    goes_on m new.items m.least c.len-self.result c.len-self.result false
    c.push_reserved.new.self.items _ (omega arith) (omega arith)
    (rw c.in_ok-reserve.ensures.items at c.push_reserved.ensures.items)
    (ap with_buffer (undo_append m.buffer.items c.args.bytes.now c.in_ok-lost.lost.items new.items
    m.seen (omega arith) items lost))
