use Rattle.serving_law.proofs.Histories.{reports_agree}
use Rattle.sealing_law.proofs.WithKeys.{reports_agree_with_keys}
use Rattle.sealing_law.proofs.law.reports_agree_with_keys.Goals as goal

pub returns : goal.returns
returns g c =
    reports_agree_with_keys _ (λ members. reports_agree _ members g.met.C.Cell.only_now)
