use Rattle.std.proofs.Common.{sym, subst, List, ℕ, ◌∙◌}
use Rattle.fed_types.specs.Lists.{Has}
use Rattle.fed_types.specs.Laws.Voters.{has_with_voter}
use Rattle.examples.proofs.quorums.with_one_more.Goals as goal

-- the law of the bound, at the voters before and after
pub returns : goal.returns
returns g c =
    c.is_quorum.ensures
    ∙ g.met.Q.Quorums.quorum_grows c.args.members.now c.args.voters.now c.add.new.self c.requires
    (λ n member voted.
    subst (λ (xs : List ℕ). Has n xs) (sym c.add.ensures.value)
    (has_with_voter c.args.voters.now c.args.site voted))
