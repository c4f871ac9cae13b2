use Rattle.std.proofs.Common.{append_assoc}
use Rattle.audit_command.proofs.CountedParts.{more_counted}
use Rattle.audit_command.proofs.cell_reading.CellReading.count_last.Goals as goal

pub returns : goal.returns
returns c =
    let counted = c.in_ok-count_part.ensures in (
      counted.0,
      counted.1.0,
      λ members given is.
          rw (
            more_counted,
            ← append_assoc,
            ← c.more_synced.ensures,
            ← c.first-synced.ensures,
          ) (c.in_ok-add_counted.ensures members _ (counted.1.1 members given is)),
      c.fault_of.ensures,
    )
