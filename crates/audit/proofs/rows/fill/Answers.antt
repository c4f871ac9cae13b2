use Rattle.std.proofs.lemmas.Result.{on_ok_weaker}
use Rattle.fed_types.specs.Quorums.{quorums_of}
use Rattle.audit.proofs.KeptVersions.{rows_filled}
use Rattle.audit.proofs.rows.fill.Goals as goal

pub returns-in-Ok-clause-rows : goal.returns-in-Ok-clause-rows
returns-in-Ok-clause-rows c = on_ok_weaker c.put_row.result
    (λ put given voters are.
    let slot = c.args.kept.now.slot in
    rows_filled (quorums_of c.args.members) c.args.rows.now.entries c.put_row.new.rows.entries given
    c.args.site slot c.args.kept.now.body c.in-Ok.after (rw c.in_ok-slot.ensures at put) are
    (c.in-Ok.ensures.row given voters (rw c.row_of-before.ensures (are slot))))
    c.put_row.ensures
