use Rattle.std.proofs.Common.{◌∙◌, Bor, List, ℕ, ap, map}
use Rattle.folder_checks.specs.Names.{names_of}
use Rattle.folder_checks.proofs.Findings.{all_found}
use Rattle.folder_checks.proofs.json_values.findings_in.Goals as goal

pub returns : goal.returns
returns c =
    all_found c.deref-line-items.result.now c.loop-line.line-index _ (names_of 10 c.args.lines.now)
    c.loop-line-test.false c.loop-line.invariant
    (ap (map (λ (line : Bor (List ℕ)). line.now)) c.deref-line-items.ensures.value
    ∙ (c.in_ok-lines.ensures ∙ ap (names_of 10) c.as_bytes.ensures.value))
