use Rattle.std.proofs.Common.{◌∷◌, ◌+◌, ◌≡◌, length, arith, ap}
use Rattle.fed_types.specs.inner.After.{sites_after}
use Rattle.fed_types.proofs.After.{next_site}
use Rattle.fed_types.proofs.sites.SitesIterator.next.Goals as goal

-- the first of those that were left, and the others
first : (c : goal.After-of)
    → c.args.self.now ≡ c.of.result ∷ sites_after (c.self.inside.before + 1) c.self.inside.last
first c =
    rw (← c.self.view_is, c.of.ensures)
    (next_site c.self.inside.before c.self.inside.last c.if-self.false)

pub returns-clause-steps : goal.returns-clause-steps
returns-clause-steps c = first c

pub returns-clause-goes : goal.returns-clause-goes
returns-clause-goes c =
    let fewer = ap length (first c) in
    record { on = λ _. (tt, tt, omega (arith, fewer)); keeps = tt; rests = λ _. tt }
