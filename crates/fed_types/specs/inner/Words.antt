-- How a word of 64 bits keeps an ascending list: the places of its ones. No clause speaks of it.
use Rattle.std.specs.Prelude.{ℕ, zero, suc, ◌+◌, ◌^◌, List, [], ◌∷◌, ◌++◌, ◌==◌, if◌then◌else◌}
use Rattle.std.specs.Int.{bit_at}

-- the places below n at which the word has a one
unfoldable pub bits_below : ℕ → ℕ → List ℕ
bits_below word zero = []
bits_below word (suc n) = bits_below word n ++ (if bit_at word n == 1 then n ∷ [] else [])

-- the word with ones at these places
unfoldable pub word_of : List ℕ → ℕ
word_of [] = 0
word_of (n ∷ ns) = 2 ^ n + word_of ns
