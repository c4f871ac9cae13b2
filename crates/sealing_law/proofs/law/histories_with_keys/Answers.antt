use Rattle.sealing_law.proofs.WithKeys.{with_keys_are_histories, histories_may_have_keys}
use Rattle.sealing_law.proofs.law.histories_with_keys.Goals as goal

pub returns-clause-are : goal.returns-clause-are
returns-clause-are g c = with_keys_are_histories _

pub returns-clause-all : goal.returns-clause-all
returns-clause-all g c = histories_may_have_keys _
