-- A test that comes last.
use Rattle.std.proofs.Common.{◌≡◌, Bool, true, false, ◌||◌, refl}

pub or_false : (b : Bool) → (b || false) ≡ b
or_false true = refl
or_false false = refl
