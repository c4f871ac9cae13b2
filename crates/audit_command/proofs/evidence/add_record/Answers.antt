use Rattle.std.proofs.lemmas.Result.{on_ok_weaker}
use Rattle.audit.specs.Evidence.{SiteRecord}
use Rattle.audit_command.specs.declared.evidence.Evidence.{Evidence}
use Rattle.audit_command.proofs.Counted.{one_record}
use Rattle.audit_command.proofs.evidence.add_record.Goals as goal

pub returns : goal.returns
returns c =
    let new : Evidence = record { cells = c.note.new.self; slots = c.put_slot.new.slots } in
    let s : SiteRecord = record { site = c.args.site; kept = c.args.kept.now } in
    on_ok_weaker c.put_slot.result
    (λ put members given is. one_record members c.args.evidence.now new given s is
    c.note.ensures.members (c.in_ok-note.ensures.noted given is.stands)
    (rw c.in_ok-copy.ensures at put))
    c.put_slot.ensures
