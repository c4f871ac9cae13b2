use Rattle.std.proofs.Common.{◌∙◌}
use Rattle.std.proofs.lemmas.List.{take_all}
use Rattle.std.proofs.lemmas.List.Elements.{All-push}
use Rattle.fed_types.specs.Quorums.{quorums_of}
use Rattle.audit.specs.Findings.{IsFinding}
use Rattle.audit_command.specs.declared.version.Version.{Version}
use Rattle.audit_command.proofs.Counted.{next_slot}
use Rattle.audit_command.proofs.evidence.versions_of.Goals as goal

pub loop-slot-preserved : goal.loop-slot-preserved
loop-slot-preserved c = record {
  slots = next_slot c.loop-slot.versions.items c.push.new.self.items c.in_ok-version_of.field-0
      c.as_slice-slots.result.now c.loop-slot.slot-index c.slot-item.result
      c.in_ok-push.ensures.items c.in_ok-version_of.ensures.slot c.loop-slot-test.true
      c.slot-item.is c.loop-slot.invariant.slots;
  found = λ members given is.
      rw c.in_ok-push.ensures.items
      (All-push (λ (v : Version). IsFinding (quorums_of members) given v.slot v.finding)
      c.loop-slot.versions.items c.in_ok-version_of.field-0
      (c.loop-slot.invariant.found members given is)
      (c.in_ok-version_of.ensures.found members given is));
}

pub returns : goal.returns
returns c = λ members given is. record {
  slots = c.loop-slot.invariant.slots
      ∙ take_all c.loop-slot.slot-index c.as_slice-slots.result.now c.loop-slot-test.false
      ∙ c.as_slice-slots.ensures.keys ∙ is.slots;
  findings = c.loop-slot.invariant.found members given is;
}
