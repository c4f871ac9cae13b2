-- Spaces and tabs at the start of a text and at its end, one byte after the other.
use Rattle.std.proofs.Common.{◌≡◌, ℕ, Bool, true, false, ◌&&◌, List, [], ◌∷◌, ◌++◌, length}
use Rattle.std.proofs.Common.{refl, ap, arith}
use Rattle.std.specs.List.{list_all}
use Rattle.std.proofs.lemmas.Bool.{and_right}
use Rattle.bag_text.specs.Blanks.{is_blank}
use Rattle.bag_text.specs.Readers.{skip_blanks, trim_blanks}

pub skip_blanks-more : (text : List ℕ) (byte : ℕ) (rest : List ℕ) → text ≡ byte ∷ rest
    → is_blank byte ≡ true → skip_blanks text ≡ skip_blanks rest
unfolding skip_blanks
skip_blanks-more text byte rest e h = rw (e, h) refl

pub skip_blanks-stops : (text : List ℕ) (byte : ℕ) (rest : List ℕ) → text ≡ byte ∷ rest
    → is_blank byte ≡ false → skip_blanks text ≡ text
unfolding skip_blanks
skip_blanks-stops text byte rest e h = rw (e, h) refl

pub skip_blanks-none : (text : List ℕ) → length text ≡ 0 → skip_blanks text ≡ text
unfolding skip_blanks
skip_blanks-none [] h = refl
skip_blanks-none (byte ∷ rest) h = absurd (omega arith)

-- a blank at the end
all_blank-push : (front : List ℕ) (byte : ℕ) → is_blank byte ≡ true
    → list_all is_blank (front ++ (byte ∷ [])) ≡ list_all is_blank front
all_blank-push [] byte h = rw h refl
all_blank-push (x ∷ front) byte h = ap (λ (t : Bool). is_blank x && t) (all_blank-push front byte h)

-- another byte at the end
all_blank-other : (front : List ℕ) (byte : ℕ) → is_blank byte ≡ false
    → list_all is_blank (front ++ (byte ∷ [])) ≡ false
all_blank-other [] byte h = rw h refl
all_blank-other (x ∷ front) byte h =
    and_right (is_blank x) (list_all is_blank (front ++ (byte ∷ []))) (all_blank-other front byte h)

pub trim_blanks-push : (front : List ℕ) (byte : ℕ) → is_blank byte ≡ true
    → trim_blanks (front ++ (byte ∷ [])) ≡ trim_blanks front
unfolding trim_blanks
trim_blanks-push [] byte h = rw h refl
trim_blanks-push (x ∷ front) byte h =
    rw (all_blank-push front byte h, trim_blanks-push front byte h) refl

pub trim_blanks-other : (front : List ℕ) (byte : ℕ) → is_blank byte ≡ false
    → trim_blanks (front ++ (byte ∷ [])) ≡ front ++ (byte ∷ [])
unfolding trim_blanks
trim_blanks-other [] byte h = rw h refl
trim_blanks-other (x ∷ front) byte h =
    rw (all_blank-other (x ∷ front) byte h, trim_blanks-other front byte h) refl

pub trim_blanks-none : (text : List ℕ) → length text ≡ 0 → trim_blanks text ≡ text
unfolding trim_blanks
trim_blanks-none [] h = refl
trim_blanks-none (byte ∷ rest) h = absurd (omega arith)
