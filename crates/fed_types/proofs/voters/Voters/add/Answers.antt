use Rattle.std.proofs.Common.{arith}
use Rattle.fed_types.specs.inner.Words.{bits_below}
use Rattle.fed_types.specs.Laws.Voters.{is_in-with_voter}
use Rattle.fed_types.proofs.SetBits.{bits_below-set, bits_below-set_again, set_fits}
use Rattle.fed_types.proofs.voters.Voters.add.Goals as goal

pub invariant_of-self : goal.invariant_of-self
invariant_of-self c = set_fits c.self.inside.word c.number.result c.self.invariant

pub returns-clause-value : goal.returns-clause-value
returns-clause-value c =
    rw (← c.self.view_is, ← c.number.ensures.value)
    (bits_below-set c.self.inside.word c.number.result (omega arith))

pub returns-clause-added : goal.returns-clause-added
returns-clause-added c n =
    rw (
      ← c.self.view_is,
      ← c.number.ensures.value,
      bits_below-set c.self.inside.word c.number.result (omega arith),
    )
    (is_in-with_voter (bits_below c.self.inside.word 64) c.number.result n)

pub returns-clause-again : goal.returns-clause-again
returns-clause-again c =
    rw (← c.self.view_is, ← c.number.ensures.value)
    (bits_below-set_again c.self.inside.word c.number.result (omega arith))
