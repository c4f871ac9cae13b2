use Rattle.std.proofs.Common.{◌≡◌, ℕ, List, Bool, true, Option, Some, None, IfSome}
use Rattle.std.specs.Prelude.{◌||◌}
use Rattle.fed_types.specs.Sites.{Membership}
use Rattle.audit.specs.Evidence.{SiteRecord}
use Rattle.audit_command.specs.declared.cell_defect.CellDefect.{CellDefect}
use Rattle.audit_command.specs.CellReadings.{IsReadingOfBytes, IsReadingOfFile, rule_for}
use Rattle.audit_command.specs.declared.sync_rule.SyncRule.{SyncRule}
use Rattle.audit_command.specs.Files.{FileBytes}
use Rattle.audit_command.proofs.gathered.add_records_in.Goals as goal

-- what is counted is by whether the file is in use, and by what its site says
with_use : (members : Membership) (rule : SyncRule) (synced : Option ℕ) (in_use sure : Bool)
    (fault : Option CellDefect) (counted : List SiteRecord) (left : Option FileBytes)
    → IfSome left (λ file. in_use ≡ file.in_use) → IfSome left (λ file. synced ≡ file.synced)
    → rule ≡ rule_for in_use synced → sure ≡ true
    → IfSome left (λ file. sure ≡ (in_use || file.can_sync))
    → IfSome left (λ file. IsReadingOfBytes members rule file fault counted)
    → IfSome left (λ file. IsReadingOfFile members (Some file) in_use fault counted)
with_use members rule synced in_use sure fault counted None its said is holds sure_is reading = tt
with_use members rule synced in_use sure fault counted (Some file) its said is holds sure_is reading
    = (its, rw (← sure_is, holds, ← said, ← is) reading)

pub returns : goal.returns
returns g c = λ given is.
    let it = c.in_ok-fault.ensures given is in (
      it.0,
      with_use c.args.members.now c.rule_for-rule.result c.synced.result c.is_in_use-in_use.result
          c.is_sure.result c.in_ok-fault.fault it.0 (g.F.CellFiles.left c.args.cell.now)
          c.is_in_use-in_use.ensures c.synced.ensures c.rule_for-rule.ensures
          c.if-not-is_sure.false c.is_sure.ensures it.1,
      it.2,
    )
