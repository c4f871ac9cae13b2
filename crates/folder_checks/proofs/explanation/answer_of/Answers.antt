use Rattle.std.proofs.Common.{sym, ◌∙◌}
use Rattle.folder_checks.proofs.Explained.{answered}
use Rattle.folder_checks.proofs.explanation.answer_of.Goals as goal

pub returns : goal.returns
returns c =
    answered c.args.question c.args.facts.now c.verdict_of-verdict.result c.as_str.result.now
    c.with_lines.result
    c.verdict_of-verdict.ensures.verdict
    (λ place. c.as_str.ensures.value
    ∙ (c.in_ok-lines.ensures ∙ sym (c.verdict_of-verdict.ensures.lines place)))
    c.with_lines.ensures.status c.with_lines.ensures.text
