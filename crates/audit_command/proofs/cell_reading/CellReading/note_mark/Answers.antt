use Rattle.audit_command.proofs.Marks.{mark_passed}
use Rattle.audit_command.proofs.cell_reading.CellReading.note_mark.Goals as goal

pub returns-in_ok-last-clause-counted : goal.returns-in_ok-last-clause-counted
returns-in_ok-last-clause-counted c = λ members rule evidence taken given had.
    let its = had.2 in (
      had.0,
      had.1,
      record {
        told_is = its.told_is;
        standing_is = its.standing_is;
        unsure_is = its.unsure_is;
        split = its.split;
        mark_is = mark_passed rule.synced taken had.0 had.1 c.args.self.now.last.records.items
            c.in_ok-last.last c.count_if_whole.result
            (rw (
              c.in-Ahead-eq0.is,
              ← c.in-Ahead-eq0.field-0-is,
              c.in-Ahead-eq0.field-0-test,
            ) at its.mark_is)
            its.split.parts_are (c.in_ok-last.ensures taken had.0 its.told_is).1
            c.count_if_whole.ensures;
        counted = its.counted;
      },
    )
