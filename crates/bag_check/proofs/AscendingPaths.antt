-- Entries whose paths ascend.
use Rattle.std.proofs.Common.{◌≡◌, ℕ, Bool, true, false, ◌||◌, List, sym, ap, subst, ◌∙◌, refl}
use Rattle.std.proofs.Common.{Ordering, is_ge}
use Rattle.std.specs.Cmp.Lexicographic.{slice_cmp}
use Rattle.std.specs.Ordering.{nat_cmp, ordering_reverse}
use Rattle.std.specs.Str.{bytes_eq}
use Rattle.std.specs.declared.cmp.Ordering.TheVariants.{Less, Greater}
use Rattle.std.proofs.Math.Bool.{or-false}
use Rattle.std.proofs.lemmas.Cmp.{nat_list_cmp_total}
use Rattle.std.proofs.lemmas.Slice.Eq.{bytes_eq-Decides}

-- the one text isn't greater than the other
abbrev pub IsUpTo : List ℕ → List ℕ → Type 0
IsUpTo p q = slice_cmp nat_cmp q p ≡ Less → ⊥

pub less_from_not_ge : (o : Ordering) → is_ge o ≡ false → o ≡ Less
less_from_not_ge Less h = refl
less_from_not_ge o h = cc

-- no text is less than itself
pub up_to_itself : (p : List ℕ) → IsUpTo p p
up_to_itself p less =
    let other : Less ≡ Greater =
    sym less ∙ (nat_list_cmp_total.antisymm p p ∙ ap ordering_reverse less) in
    absurd (cc other)

-- what isn't greater than a text isn't greater than one above it
pub up_to_more : (p q above : List ℕ) → slice_cmp nat_cmp q above ≡ Less → IsUpTo p q
    → IsUpTo p above
up_to_more p q above less is_up_to more =
    is_up_to (nat_list_cmp_total.trans q above p less more)

-- what is listed up to the next path isn't greater than it
pub up_to_next : (next last q : List ℕ) (listed : Bool) → slice_cmp nat_cmp last next ≡ Less
    → (listed ≡ true → IsUpTo q last) → (bytes_eq next q || listed) ≡ true → IsUpTo q next
up_to_next next last q true less below here = up_to_more q last next less (below refl)
up_to_next next last q false less below here =
    subst (λ p. IsUpTo p next)
    ((bytes_eq-Decides next q).0 (sym (or-false (bytes_eq next q)) ∙ here))
    (up_to_itself next)
