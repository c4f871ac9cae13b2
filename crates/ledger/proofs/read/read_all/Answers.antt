use Rattle.std.proofs.Common.{Ok}
use Rattle.records.specs.Starts.{records_of}
use Rattle.ledger.proofs.Readings.{says_all, same_items}
use Rattle.ledger.proofs.read.read_all.Goals as goal

pub returns-in-Ok : goal.returns-in-Ok
returns-in-Ok c = λ start records rest reaches ends has.
    let owner = c.args.owner.now in
    let bytes = c.args.bytes.now in
    same_items c.in-Ok.journal.records.items (records_of start records)
    (c.in-Ok.ensures.only (Ok (records_of start records))
    (says_all owner bytes start records rest reaches ends has))
