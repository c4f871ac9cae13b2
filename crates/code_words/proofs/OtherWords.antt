-- A line of fewer words than two, or of more than four, has the code of another kind, if any.
use Rattle.std.proofs.Common.{◌≡◌, ◌<◌, ◌≤◌, refl, ℕ, List, [], ◌∷◌, map, length, Bor, arith}
use Rattle.code_words.specs.Lines.{of_words, other}

pub other_of_few : (line : List ℕ) (words : List (Bor (List ℕ))) → length words < 2
    → of_words line (map (λ word. word.now) words) ≡ other line
unfolding of_words
other_of_few line (a ∷ b ∷ words) few = absurd (omega arith)
other_of_few line (a ∷ []) few = refl
other_of_few line [] few = refl

pub other_of_many : (line : List ℕ) (words : List (Bor (List ℕ))) → 5 ≤ length words
    → of_words line (map (λ word. word.now) words) ≡ other line
unfolding of_words
other_of_many line (a ∷ b ∷ c ∷ d ∷ e ∷ words) many = refl
other_of_many line _ many = absurd (omega arith)
