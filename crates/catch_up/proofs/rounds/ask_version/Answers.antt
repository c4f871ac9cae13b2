use Rattle.std.proofs.Common.{◌∙◌}
use Rattle.udp_site.proofs.Handed.{is_err}
use Rattle.catch_up.specs.declared.said_answers.AskFault.TheVariants.{Memory}
use Rattle.catch_up.proofs.Parts.{no_part}
use Rattle.catch_up.proofs.OneVersion.{no_answer, isnt_known, is_known, cut}
use Rattle.catch_up.proofs.rounds.ask_version.Goals as goal

pub returns-in_err-bag-clause-asked : goal.returns-in_err-bag-clause-asked
returns-in_err-bag-clause-asked g c =
    rw (is_err c.from_residual.result _ c.from_residual.ensures.1)
    (no_answer c.args.asked.now c.args.version.now _ _ _ _ c.in_err-bag.ensures)

pub returns-in_default-clause-asked : goal.returns-in_default-clause-asked
returns-in_default-clause-asked g c =
    isnt_known c.args.asked.now c.args.version.now _ _ _ (rw c.in_default.is at c.in_ok-bag.ensures)

pub returns-in_err-line-clause-asked : goal.returns-in_err-line-clause-asked
returns-in_err-line-clause-asked g c =
    rw (is_err c.from_residual-in_err-line.result _ c.from_residual-in_err-line.ensures.1)
    (cut c.args.asked.now c.args.version.now _ _ c.in-Some.bag
    (rw c.in-Some.is at c.in_ok-bag.ensures) _ _ Memory (no_part _ _))

pub returns-in_err-say-clause-asked : goal.returns-in_err-say-clause-asked
returns-in_err-say-clause-asked g c =
    rw (is_err c.from_residual-in_err-say.result _ c.from_residual-in_err-say.ensures.1)
    (cut c.args.asked.now c.args.version.now _ _ c.in-Some.bag
    (rw c.in-Some.is at c.in_ok-bag.ensures) _ _ c.in_err-say.field-0.0
    (rw (c.as_str.ensures.value ∙ c.in_ok-line.ensures) at c.in_err-say.ensures.part))

pub returns-clause-asked : goal.returns-clause-asked
returns-clause-asked g c =
    is_known c.args.asked.now c.args.version.now _ _ c.in-Some.bag
    (rw c.in-Some.is at c.in_ok-bag.ensures) _ _ c.one_if_same.result
    (rw (c.as_str.ensures.value ∙ c.in_ok-line.ensures) at c.in_ok-say.ensures.ok)
    c.one_if_same.ensures
