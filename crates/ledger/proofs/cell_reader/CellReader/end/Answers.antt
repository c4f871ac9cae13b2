use Rattle.ledger.specs.Parts.{TellsLast}
use Rattle.ledger.proofs.ToldParts.{from_all}
use Rattle.ledger.proofs.cell_reader.CellReader.end.Goals as goal

pub returns-in-None : goal.returns-in-None
returns-in-None c =
    let reader = c.args.self.now in
    from_all reader.owner reader.passed reader.bytes.items c.in-None.is TellsLast
    c.whole_part.result (rw c.as_slice.ensures.value at c.whole_part.ensures)
