use Rattle.tokens.proofs.GrammarLemmas.{number_in-from, IsNumeral-number_in}
use Rattle.tokens.proofs.law.numbers_law.Goals as goal

pub returns : goal.returns
returns c =
    λ low high word value.
    (number_in-from low high word value, IsNumeral-number_in low high word value)
