use Rattle.ledger.specs.Versions.{slots_of}
use Rattle.audit_command.proofs.evidence.no_evidence.Goals as goal

pub returns : goal.returns
unfolding slots_of
returns c = record {
  members_are = c.new.ensures.members;
  stands = c.new.ensures.nothing;
  slots = c.with_hasher.ensures.empty;
}
