-- A set of voters as an ascending list.
use Rattle.std.specs.Prelude.{ℕ, List, [], ◌∷◌, nat_lt, ◌==◌, if◌then◌else◌}

-- the voters and one more, at its place in the ascending list; one that is there already changes
-- nothing
unfoldable pub with_voter : List ℕ → ℕ → List ℕ
with_voter [] n = n ∷ []
with_voter (x ∷ xs) n =
    if x == n then x ∷ xs else (if nat_lt n x then n ∷ x ∷ xs else x ∷ with_voter xs n)
