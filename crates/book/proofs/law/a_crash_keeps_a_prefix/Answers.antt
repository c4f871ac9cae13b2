use Rattle.book.specs.Batches.{all_bytes}
use Rattle.book.proofs.AtRest.{keeps_appended}
use Rattle.book.proofs.Prefixes.{texts_atomic, prefix_left}
use Rattle.book.proofs.law.a_crash_keeps_a_prefix.Goals as goal

pub returns-clause-whole : goal.returns-clause-whole
returns-clause-whole c = λ owner records new text k is are.
    rw (keeps_appended k text (all_bytes new)) (texts_atomic owner records new text k is are)

pub returns-clause-left : goal.returns-clause-left
returns-clause-left c = prefix_left
