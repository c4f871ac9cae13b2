-- Printed words.
use Rattle.std.specs.Prelude.{ℕ, ◌<◌, List, ◌∷◌, length, All}
use Rattle.std.specs.Fmt.{decimal}
use Rattle.std.specs.List.{flat_map}

-- at least one byte, and all above the space, CR and LF
abbrev pub IsWord : List ℕ → Type 0
IsWord word = (0 < length word) × All (λ b. 32 < b) word

-- words, each after a space
abbrev pub spaced_words : List (List ℕ) → List ℕ
spaced_words words = flat_map (λ word. 32 ∷ word) words

-- weights as words, each after a space
abbrev pub spaced_weights : List ℕ → List ℕ
spaced_weights weights = flat_map (λ w. 32 ∷ decimal w) weights
