use Rattle.std.proofs.Common.{refl}
use Rattle.audit_command.specs.CellReadings.{Reading, all_given}
use Rattle.audit_command.specs.declared.gathered.Gathered.{Gathered}
use Rattle.audit_command.proofs.Joined.{one_reading}
use Rattle.audit_command.proofs.gathered.add_cell.Goals as goal

pub returns : goal.returns
returns g c = λ readings is.
    let added = c.in_ok-state.ensures (all_given readings) is.evidence in
    let r : Reading = record {
      path = c.args.path.now;
      in_use = c.in_ok-state.state.in_use;
      fault = c.in_ok-state.state.fault;
      given = added.0;
    } in
    let new : Gathered = record {
      evidence = c.add_records_of.new.evidence;
      in_use = c.add_use.new.text;
      text = c.add_fault.new.text;
      all_used = c.still_used-gathered.result;
    } in (
      r,
      refl,
      added.1,
      one_reading c.args.members.now c.args.gathered.now new readings r is added.2
          c.in_ok-add_use.ensures c.in_ok-add_fault.ensures c.still_used-gathered.ensures,
    )
