use Rattle.audit_command.proofs.Mentions.{next_mention}
use Rattle.audit_command.proofs.conflict_cells.mention_of.Goals as goal

pub loop-kept-preserved : goal.loop-kept-preserved
loop-kept-preserved c =
    rw (c.in_ok-found.ensures, c.loop-kept.invariant, c.kept-item.is)
    (next_mention c.args.conflict.now.object.now c.args.conflict.now.version.now c.args.digits.now
    c.args.records.now c.loop-kept.kept-index c.kept-item.result c.loop-kept-test.true)
