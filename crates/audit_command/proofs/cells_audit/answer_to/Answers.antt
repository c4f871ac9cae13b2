use Rattle.std.proofs.Common.{append_assoc}
use Rattle.audit_command.specs.CellReadings.{all_given}
use Rattle.audit_command.specs.Lines.{audit_text}
use Rattle.audit_command.proofs.cells_audit.answer_to.Goals as goal

pub returns : goal.returns
unfolding audit_text
returns g c =
    let read = c.in_ok-gathered.ensures in
    record {
      readings = read.0;
      versions = c.in_ok-versions.versions.items;
      are_readings = read.1;
      are_versions = c.in_ok-versions.ensures c.args.members.now (all_given read.0)
          read.2.evidence;
      status_is = rw (
        c.status_of-status.ensures,
        c.count_conflicts.ensures,
        c.deref-3.ensures.value,
        read.2.used,
      );
      text_is = rw (
        c.in_ok-push_counts.ensures,
        c.deref-2.ensures.value,
        c.in_ok-push_versions.ensures,
        c.deref.ensures.value,
        c.in_ok-push_str.ensures.bytes,
        c.as_str.ensures.value,
        read.2.in_use_is,
        read.2.text_is,
      ) (simp append_assoc);
    }
