use Rattle.std.proofs.Common.{◌≡◌, ◌++◌, List, ℕ, string_bytes, ap, ◌∙◌}
use Rattle.std.proofs.lemmas.Result.{on_ok_weaker}
use Rattle.schedule.specs.Texts.{printed_weights}
use Rattle.schedule.specs.inner.Printed.{spaced_weights}
use Rattle.schedule.proofs.WeightLemmas.{federation_line-is}
use Rattle.schedule.proofs.print_federation.push_federation.Goals as goal

pub returns : goal.returns
returns c =
    let m = c.args.members in
    let counted = string_bytes c.push_count.new.text in
    let weighed = string_bytes c.push_weights.new.text in
    let spaced : weighed ≡ counted ++ spaced_weights (printed_weights m.weights) =
    c.in_ok-push_weights.ensures
    ∙ ap (λ (ws : List ℕ). counted ++ spaced_weights (printed_weights ws))
    c.weights.ensures.value in
    on_ok_weaker c.push_end.result
    (federation_line-is m (string_bytes c.args.text.now) counted weighed
    (string_bytes c.push_end.new.text) c.in_ok-push_count.ensures spaced) c.push_end.ensures
