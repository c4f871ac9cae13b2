use Rattle.std.proofs.Common.{◌≡◌, take}
use Rattle.audit_command.specs.Mentions.{mention_by}
use Rattle.audit_command.proofs.conflict_cells.mention_of.Given as goal

-- what the records so far say
abbrev pub invariant-loop-kept : goal.invariant-loop-kept
invariant-loop-kept l =
    l.found
    ≡ mention_by l.conflict.object.now l.conflict.version.now l.digits (take l.kept-index l.records)
