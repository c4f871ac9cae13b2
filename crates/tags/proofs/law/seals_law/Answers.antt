use Rattle.tags.proofs.SealLemmas.{opened_from_sealed, sealed_from_opened}
use Rattle.tags.proofs.law.seals_law.Goals as goal

pub returns-clause-opened : goal.returns-clause-opened
returns-clause-opened c ring text bytes sealed = opened_from_sealed ring text bytes sealed

pub returns-clause-sealed : goal.returns-clause-sealed
returns-clause-sealed c ring text bytes opened = sealed_from_opened ring text bytes opened
