use Rattle.book.proofs.Prefixes.{all_but_these}
use Rattle.udp_site.specs.BatchTurns.{MOST_TURNS}
use Rattle.audit_command.proofs.FirstBytes.{synced_first}
use Rattle.audit_command.proofs.law.counted_records_outlive_a_crash.Goals as goal

pub returns-clause-synced : goal.returns-clause-synced
returns-clause-synced c = synced_first

pub returns-clause-batch : goal.returns-clause-batch
returns-clause-batch c = all_but_these MOST_TURNS
