use Rattle.audit.proofs.NoRecords.{nothing_given}
use Rattle.audit.proofs.cells.Cells.new.Goals as goal

pub returns-clause-nothing : goal.returns-clause-nothing
returns-clause-nothing c =
    rw (c.with_hasher.ensures.empty, c.with_hasher-2.ensures.empty) (nothing_given c.args.members)
