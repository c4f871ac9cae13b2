use Rattle.std.proofs.Common.{◌++◌, List, ℕ, ◌∷◌, get_or, take, string_bytes, sym, ap, ◌∙◌}
use Rattle.std.proofs.Common.{append_assoc}
use Rattle.std.specs.Fmt.{decimal}
use Rattle.std.proofs.lemmas.List.{append-nil, take_all}
use Rattle.schedule.specs.inner.Printed.{spaced_weights}
use Rattle.schedule.proofs.WeightLemmas.{spaced_weights-none, printed_weights-all}
use Rattle.schedule.proofs.WeightLemmas.{spaced_weights-more}
use Rattle.schedule.proofs.print_federation.push_weights.Goals as goal

pub returns-then-are_ones : goal.returns-then-are_ones
returns-then-are_ones c =
    spaced_weights-none (string_bytes c.args.text.now) c.args.weights.now
    (sym c.are_ones.ensures ∙ c.if-are_ones.true)

pub loop-weight-init : goal.loop-weight-init
loop-weight-init c = sym (append-nil (string_bytes c.args.text.now))

pub loop-weight-preserved : goal.loop-weight-preserved
loop-weight-preserved c =
    let ws = c.args.weights.now in
    let i = c.loop-weight.weight-index in
    let w = get_or ws i 0 in
    let text = string_bytes c.args.text.now in
    c.in_ok-push_weight.ensures
    ∙ ap (λ (t : List ℕ). t ++ 32 ∷ decimal w) c.loop-weight.invariant
    ∙ append_assoc text (spaced_weights (take i ws)) (32 ∷ decimal w)
    ∙ ap (λ (t : List ℕ). text ++ t)
    (spaced_weights-more ws i c.loop-weight-test.true)

pub returns : goal.returns
returns c =
    let ws = c.args.weights.now in
    let i = c.loop-weight.weight-index in
    c.loop-weight.invariant
    ∙ ap (λ (vs : List ℕ). string_bytes c.args.text.now ++ spaced_weights vs)
    (take_all i ws c.loop-weight-test.false
    ∙ sym (printed_weights-all ws (sym c.are_ones.ensures ∙ c.if-are_ones.false)))
