-- What bytes say is records.
use Rattle.std.proofs.Common.{inl, inr, List, ℕ, Ok}
use Rattle.records.specs.declared.owner.Owner.{Owner}
use Rattle.records.specs.declared.record.Record.{Record}
use Rattle.records.specs.Journals.{DecodesTo}
use Rattle.records.specs.Records.{AreRecords}
use Rattle.records.proofs.Texts.{both_records}
use Rattle.records.specs.Starts.{Start, Carried, IsStart, records_of}

all_of : (start : Start) (records : List Record) → IsStart start → AreRecords records
    → AreRecords (records_of start records)
all_of (Carried first weights) records is are = both_records first records is.0 are
all_of _ records is are = are

pub decoded : (owner : Owner) (bytes : List ℕ) (records : List Record)
    → DecodesTo owner bytes (Ok records) → AreRecords records
unfolding DecodesTo
decoded owner bytes records (inl (none, new)) = rw none tt
decoded owner bytes records (inr journal) =
    rw journal.all_are
    (all_of journal.text.start journal.text.records journal.text.reaches.is_start
    journal.text.reaches.are_records)
