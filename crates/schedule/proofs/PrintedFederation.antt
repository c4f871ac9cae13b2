-- What is printed of a federation's members is read as the members again.
use Rattle.std.proofs.Common.{◌≡◌, Some, refl, arith}
use Rattle.std.specs.Prelude.{codes}
use Rattle.std.specs.List.{AllByRecursion}
use Rattle.fed_types.specs.Limits.{most_members, greatest_federation}
use Rattle.fed_types.specs.Sites.{Membership, count_of}
use Rattle.fed_types.specs.Values.{IsMembership}
use Rattle.schedule.specs.Commands.{federation_of}
use Rattle.schedule.specs.Texts.{federation_words}
use Rattle.schedule.specs.inner.Printed.{IsWord}
use Rattle.tokens.proofs.PrintedWords.{number_in-decimal}
use Rattle.schedule.proofs.WeightLemmas.{weights_of-printed, IsWord-weights}
use Rattle.schedule.proofs.WordLemmas.{IsWord-computed, IsWord-decimal}

pub AreWords-federation : (m : Membership) → IsMembership m
    → AllByRecursion IsWord (federation_words m)
unfolding federation_words
AreWords-federation m is = (
  IsWord-computed (codes "federation") refl,
  (
    IsWord-decimal m.federation is.0,
    (IsWord-decimal (count_of m) (omega (arith, is.1)), IsWord-weights m.weights is.1.1),
  ),
)

pub federation_of-printed : (m : Membership) → IsMembership m
    → federation_of (federation_words m) ≡ Some m
unfolding federation_of federation_words
federation_of-printed m is =
    rw (number_in-decimal 0 greatest_federation m.federation (omega arith) (omega arith)
    (omega arith))
    (rw (number_in-decimal 1 most_members (count_of m) is.1.0.0 is.1.0.1 (omega arith))
    (rw (weights_of-printed m.weights is.1.1)))
