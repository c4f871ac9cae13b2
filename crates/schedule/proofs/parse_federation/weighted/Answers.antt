use Rattle.std.proofs.Common.{◌∙◌}
use Rattle.fed_types.specs.Sites.{membership_of}
use Rattle.schedule.proofs.WeightLemmas.{no_zero, made-some}
use Rattle.schedule.proofs.parse_federation.weighted.Goals as goal

pub returns : goal.returns
returns c =
    let weights = c.args.weights.now in
    c.ok.ensures.value
    ∙ made-some c.weighted.result (membership_of c.args.federation weights)
    (c.weighted.ensures.ok.1 (c.requires.0, no_zero weights c.requires.1)) c.weighted.ensures.value
