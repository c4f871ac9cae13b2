use Rattle.catch_up.proofs.Versions.{known_before, not_known}
use Rattle.catch_up.proofs.rounds.ask_unless_known.Goals as goal

pub returns-then-version-clause-asked : goal.returns-then-version-clause-asked
returns-then-version-clause-asked g c = known_before c.args.asked.now _ _ _ c.if-version.true

pub returns-clause-asked : goal.returns-clause-asked
returns-clause-asked g c =
    not_known c.args.asked.now _ _ _ _ _ _ c.ask_version.result c.if-version.false
    c.ask_version.ensures.asked
