use Rattle.serving_law.proofs.Histories.{turns_may_happen}
use Rattle.sealing_law.proofs.WithKeys.{turns_with_keys_may_happen}
use Rattle.sealing_law.proofs.law.turns_with_keys_may_happen.Goals as goal

pub returns : goal.returns
returns g c =
    turns_with_keys_may_happen _ (λ members. turns_may_happen _ members g.met.C.Cell.only_now)
