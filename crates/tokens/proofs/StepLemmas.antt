-- One step that may find nothing, after another.
use Rattle.std.proofs.Common.{◌≡◌, Option, Some, None, refl}
use Rattle.tokens.specs.Words.{◌>>=◌}

-- what the steps found, where they found something
pub bind_some : {A B : Type 0} (found : Option A) (step : A → Option B) (b : B)
    → (found >>= step) ≡ Some b → (a : A) × (found ≡ Some a) × (step a ≡ Some b)
bind_some None step b is = absurd (cc is)
bind_some (Some a) step b is = (a, refl, is)
