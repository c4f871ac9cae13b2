use Rattle.std.proofs.Common.{length}
use Rattle.std.proofs.lemmas.Result.{IfOk-weaker}
use Rattle.audit_command.proofs.CountedParts.{last_counted}
use Rattle.audit_command.proofs.Marks.{end_mark}
use Rattle.audit_command.proofs.cell_reading.CellReading.end.Goals as goal

pub returns : goal.returns
returns c =
    let old = c.args.self.now in
    IfOk-weaker c.count_last.result _ _
    (λ fault counted rule taken given had. last_counted had.2 c.count_last.new.evidence old.reader
    old.mark c.count_last.new.self taken c.in_ok-last.last fault
    (end_mark rule.synced taken (length had.1) old.mark c.requires had.2.mark_is)
    (c.in_ok-last.ensures taken had.0 had.2.told_is) counted)
    c.count_last.ensures
