-- Lists of damaged cells.
use Rattle.std.proofs.Common.{◌≡◌, ℕ, List, [], ◌∷◌, Bool, true, false, refl, Decides}
use Rattle.std.proofs.Common.{codes, ◌||◌, ◌&&◌, inl, inr}
use Rattle.std.specs.List.{list_any}
use Rattle.std.specs.Str.{bytes_eq}
use Rattle.std.specs.Str.Lines.{lines}
use Rattle.std.proofs.lemmas.Slice.Eq.{bytes_eq-Decides}
use Rattle.tokens.specs.Words.{words_of}
use Rattle.known_bags.specs.declared.known_bag.KnownBag.{KnownBag}
use Rattle.known_bags.specs.Lists.{known_in, is_passed_over, is_some, is_line, are_lines}
use Rattle.known_bags.specs.Lists.{says_damage, is_of_damage}
use Rattle.known_bags.specs.Sources.{is_cell, Knows}

-- words that begin with this one are no line's
damage_is_no_line : (words : List (List ℕ)) → is_some (known_in (codes "damaged" ∷ words))
    || is_passed_over (codes "damaged" ∷ words) ≡ false
unfolding known_in is_passed_over
damage_is_no_line [] = refl
damage_is_no_line (a ∷ []) = refl
damage_is_no_line (a ∷ b ∷ []) = refl
damage_is_no_line (a ∷ b ∷ c ∷ []) = refl
damage_is_no_line (a ∷ b ∷ c ∷ d ∷ more) = refl

same : (a b : List ℕ) (test : Bool) → bytes_eq a b ≡ test → test ≡ true → a ≡ b
same a b test is passes =
    let decides : Decides test (a ≡ b) = rw (← is) (bytes_eq-Decides a b) in decides.0 passes

no_line : (words : List (List ℕ)) → says_damage words ≡ true
    → is_some (known_in words) || is_passed_over words ≡ false
no_line [] says = absurd (cc says)
no_line (first ∷ words) says =
    rw (same first (codes "damaged") true says refl) (damage_is_no_line words)

one_line : (line : List ℕ) → is_line line ≡ true → says_damage (words_of line) ≡ false
one_line line is = go (says_damage (words_of line)) refl
  where
    go : (says : Bool) → says_damage (words_of line) ≡ says → says ≡ false
    go true says = absurd (cc (is, no_line (words_of line) says))
    go false says = refl

all_lines : (text : List (List ℕ)) → are_lines text ≡ true
    → list_any (λ line. says_damage (words_of line)) text ≡ false
all_lines [] are = refl
all_lines (line ∷ more) are = go (is_line line) refl (are_lines more) refl are (all_lines more)
  where
    go : (first : Bool) → is_line line ≡ first → (rest : Bool) → are_lines more ≡ rest
        → (first && rest) ≡ true
        → (are_lines more ≡ true → list_any (λ line. says_damage (words_of line)) more ≡ false)
        → list_any (λ line. says_damage (words_of line)) (line ∷ more) ≡ false
    go true first true rest is others = rw (one_line line first) (others rest)
    go true first false rest is others = absurd (cc is)
    go false first rest is_rest is others = absurd (cc is)

pub none_of_damage : (bytes : List ℕ) (bags : List KnownBag) → Knows bytes bags
    → is_cell bytes ≡ false → is_of_damage bytes ≡ false
none_of_damage bytes bags (inl cell) list = absurd (cc (cell.0, list))
none_of_damage bytes bags (inr it) list = all_lines (lines bytes) it.1.0
