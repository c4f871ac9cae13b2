use Rattle.audit.proofs.Decided.{chosen_by, by_chosen}
use Rattle.audit.proofs.law.members_are_counted.Goals as goal

pub returns : goal.returns
returns c = λ q given slot vote laws. (
  chosen_by q laws given slot vote,
  by_chosen q laws given slot vote,
)
