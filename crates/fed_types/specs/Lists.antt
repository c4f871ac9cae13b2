-- What is in a list.
use Rattle.std.specs.Prelude.{◌≡◌, ℕ, Bool, false, ◌||◌, ◌==◌, List, [], ◌∷◌}

-- x is in the list
pub data Has {X : Type 0} (x : X) : List X → Type 0 where
  here : {y : X} {ys : List X} → y ≡ x → Has x (y ∷ ys)
  there : {y : X} {ys : List X} → Has x ys → Has x (y ∷ ys)

-- whether the number n is in the list
unfoldable pub is_in : List ℕ → ℕ → Bool
is_in [] n = false
is_in (x ∷ xs) n = x == n || is_in xs n
