use Rattle.audit.proofs.Reported.{no_other}
use Rattle.audit.proofs.law.chosen_is_all_that_is_reported.Goals as goal

pub returns : goal.returns
returns c = λ q events later given slot bag laws are shown.
    no_other q laws events later given slot bag are shown
