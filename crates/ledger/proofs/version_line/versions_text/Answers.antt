use Rattle.ledger.proofs.VersionLines.{lines_are}
use Rattle.ledger.proofs.version_line.versions_text.Goals as goal

pub returns : goal.returns
returns c = λ records stands. rw (
  c.in_ok-push_ending.ensures,
  c.in_ok-push_versions.ensures,
  c.new-text.ensures.bytes,
  lines_are c.args.wanted c.args.versions.now records stands,
)
