use Rattle.std.proofs.Common.{◌++◌, length}
use Rattle.ledger.specs.Parts.{and_part}
use Rattle.audit_command.specs.inner.Marks.{IsMark}
use Rattle.audit_command.proofs.CountedParts.{part_counted, last_counted, damage_amiss}
use Rattle.audit_command.proofs.Marks.{mark_read, damage_mark}
use Rattle.audit_command.proofs.cell_reading.CellReading.take.Goals as goal

pub returns-in_ok-count_part-in-More : goal.returns-in_ok-count_part-in-More
returns-in_ok-count_part-in-More c = λ rule taken given had.
    let all = taken ++ c.args.piece.now in
    let mark = c.after-self.result in
    let marked : IsMark rule.synced all (length had.1) mark =
    rw c.after-self.ensures (mark_read rule.synced taken (length had.1) c.args.piece.now
    c.args.self.now.mark c.requires had.2.mark_is) in
    part_counted had.2 c.count_part.new.evidence c.take.new.self mark c.count_part.new.self all
    c.in-More.part marked
    (rw c.in-More.is at (c.in_ok-part.ensures taken had.0 had.2.told_is))
    c.in_ok-count_part-in-More.ensures

pub returns-in_ok-fault-in-Last : goal.returns-in_ok-fault-in-Last
returns-in_ok-fault-in-Last c = λ rule taken given had.
    let all = taken ++ c.args.piece.now in
    let mark = c.after-self.result in
    let marked : IsMark rule.synced all (length had.1) mark =
    rw c.after-self.ensures (mark_read rule.synced taken (length had.1) c.args.piece.now
    c.args.self.now.mark c.requires had.2.mark_is) in
    let last = c.in-Last.last in
    let counted = c.in_ok-fault-in-Last.ensures in
    let tells = rw c.in-Last.is at (c.in_ok-part.ensures taken had.0 had.2.told_is) in (
      rw counted.3 (damage_amiss c.count_last.new.self.standing last.ending tells.0),
      λ more. last_counted had.2 c.count_last.new.evidence c.take.new.self mark
          c.count_last.new.self (all ++ more) last c.in_ok-fault-in-Last.fault
          (damage_mark rule.synced all (length had.1) mark (and_part had.0 last.part) last.ending
          tells.0 (λ rest. (tells.1 rest).1) marked more)
          (tells.1 more) counted,
    )
