use Rattle.std.proofs.Common.{◌++◌}
use Rattle.ledger.specs.Parts.{HasToldBy}
use Rattle.ledger.proofs.ToldParts.{told_longer}
use Rattle.ledger.proofs.cell_reader.CellReader.take.Goals as goal

pub returns : goal.returns
returns c = λ taken told given.
    let reader = c.args.self.now in
    let piece = c.args.piece.now in
    let bytes = reader.bytes.items in
    let longer : HasToldBy reader.owner reader.passed c.extend_from_slice.new.self.items
    (taken ++ piece) told =
    rw c.in_ok-extend_from_slice.ensures.items
    (told_longer reader.owner reader.passed bytes taken told piece given) in
    c.after.ensures (taken ++ piece) told longer
    (c.in_ok-step.ensures (taken ++ piece) told longer)
