use Rattle.std.proofs.Common.{sym, ap, ◌∙◌}
use Rattle.udp_site.proofs.WaitingDeposits.{is_known, known_by_any, known_as_replied}
use Rattle.udp_site.proofs.idle_turns.is_known.Goals as goal

pub returns-in-Ok-Known : goal.returns-in-Ok-Known
returns-in-Ok-Known g c =
    ap is_known (sym c.in-Ok-Known.field-0-is)
    ∙ known_as_replied _ _ _ _ _ c.query.ensures.reply c.query.ensures.needs_open
    c.in-Ok-Known.is

pub returns-in-Ok-Pending : goal.returns-in-Ok-Pending
returns-in-Ok-Pending g c =
    ap is_known (sym c.in-Ok-Pending.field-0-is)
    ∙ known_as_replied _ _ _ _ _ c.query.ensures.reply c.query.ensures.needs_open
    c.in-Ok-Pending.is

pub returns-in-Ok-Nothing : goal.returns-in-Ok-Nothing
returns-in-Ok-Nothing g c =
    ap is_known (sym c.in-Ok-Nothing.field-0-is)
    ∙ known_as_replied _ _ _ _ _ c.query.ensures.reply c.query.ensures.needs_open
    c.in-Ok-Nothing.is

pub returns-in-Err : goal.returns-in-Err
returns-in-Err g c =
    c.is_known_in.ensures
    ∙ rw (c.records.ensures, known_by_any c.args.slot.now c.args.site.now.book.records)
