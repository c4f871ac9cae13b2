-- What follows where a test has passed.
use Rattle.std.proofs.Common.{◌≡◌, Bool, true, false, cond, not, ◌&&◌, refl, Option, None, Some}
use Rattle.fed_types.specs.declared.bag_id.BagId.{BagId}
use Rattle.learner.specs.LearnedBags.{unless_known}

-- what is given only if a test passes
pub given_if : {A : Type 0} (t : Bool) (x y : A) → cond t (Some x) None ≡ Some y
    → (t ≡ true) × (x ≡ y)
given_if true x y e = (refl, cc)
given_if false x y e = absurd (cc e)

pub kept_if : {A : Type 0} (t : Bool) (o : Option A) (y : A) → cond t o None ≡ Some y
    → (t ≡ true) × (o ≡ Some y)
kept_if true o y e = (refl, e)
kept_if false o y e = absurd (cc e)

pub and_not : (t u : Bool) → (t && not u) ≡ true → (t ≡ true) × (u ≡ false)
and_not true true e = absurd (cc e)
and_not true false e = (refl, refl)
and_not false u e = absurd (cc e)

pub unless_known_is : (o r : Option BagId) (bag : BagId) → unless_known o r ≡ Some bag
    → r ≡ Some bag
unless_known_is None r bag e = e
unless_known_is (Some u) r bag e = absurd (cc e)
