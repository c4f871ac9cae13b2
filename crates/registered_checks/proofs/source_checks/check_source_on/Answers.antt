use Rattle.std.proofs.Common.{Err, ap}
use Rattle.registered_checks.proofs.source_checks.check_source_on.Goals as goal

pub returns-in-Ok-folders-clause-ok : goal.returns-in-Ok-folders-clause-ok
returns-in-Ok-folders-clause-ok g c =
    rw (c.in-Ok.is, c.in-Ok-folders.is, ← c.as_slice-source.ensures.value)
    c.in_ok-checked-in-Ok-folders.ensures.ok

pub returns-in-Ok-folders-clause-zero : goal.returns-in-Ok-folders-clause-zero
returns-in-Ok-folders-clause-zero g c =
    rw (c.in-Ok.is, c.in-Ok-folders.is, ← c.as_slice-source.ensures.value)
    c.in_ok-checked-in-Ok-folders.ensures.zero

pub returns-in_err-checked-in-Ok-folders-clause-output :
    goal.returns-in_err-checked-in-Ok-folders-clause-output
returns-in_err-checked-in-Ok-folders-clause-output g c =
    let stopped = c.in_err-checked-in-Ok-folders.ensures in
    λ is. rw (c.in-Ok.is, c.in-Ok-folders.is, ← c.as_slice-source.ensures.value)
    (stopped.output (ap Err stopped.fault))
