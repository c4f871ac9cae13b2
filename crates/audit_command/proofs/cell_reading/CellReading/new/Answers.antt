use Rattle.std.proofs.Common.{[], refl, arith, append-nil}
use Rattle.ledger.specs.Parts.{nothing}
use Rattle.audit_command.proofs.Marks.{mark_begins}
use Rattle.audit_command.proofs.cell_reading.CellReading.new.Goals as goal

pub returns : goal.returns
returns c = λ members evidence given is. (
  nothing,
  [],
  record {
    told_is = c.new.ensures;
    standing_is = refl;
    unsure_is = c.new-2.ensures.unsure;
    split = record { parts_are = rw c.new-2.ensures.records; length_is = omega arith };
    mark_is = rw c.new-3.ensures (mark_begins c.args.rule.synced);
    counted = rw append-nil is;
  },
)
