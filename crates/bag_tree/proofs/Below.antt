-- A path below a folder begins with it, has a slash there, and is longer.
use Rattle.std.proofs.Common.{◌≡◌, ℕ, suc, Bool, true, false, ◌&&◌, eqb, ltb, List, [], ◌∷◌, length}
use Rattle.std.proofs.Common.{◌<◌, take, get_or, ◌+◌, inl, inr, refl, sym, ap, ◌∙◌, arith}
use Rattle.std.proofs.lemmas.Bool.{and_parts, cases_lt, eqb-true, ltb-true, lt-ltb}
use Rattle.std.proofs.lemmas.List.{length-take}
use Rattle.std.proofs.lemmas.Slice.Eq.{bytes_eq-Decides}
use Rattle.std.proofs.lemmas.Bool.Decides.{nat_tests}
use Rattle.std.specs.Cmp.Lexicographic.{pointwise}
use Rattle.bag_tree.specs.Path.{slash, is_below}

abbrev begins : List ℕ → List ℕ → Bool
begins folder path = pointwise (λ a b. eqb a b) folder (take (length folder) path)

regrouped : (same less front last : Bool)
    → (same && (less && (front && last))) ≡ (less && (same && front && last))
regrouped true less front last = refl
regrouped false true front last = refl
regrouped false false front last = refl

slash_first : (b n : ℕ) → (eqb slash b && true) ≡ (ltb 0 (suc n) && eqb b slash)
slash_first b n = grind (arith, nat_tests)

past_end : (n : ℕ) → false ≡ (ltb (suc n) 0 && false)
past_end n = grind (arith, nat_tests)

longer : (m n : ℕ) → ltb (suc m) (suc n) ≡ ltb m n
longer m n = grind (arith, nat_tests)

one_more : (same : Bool) (m n : ℕ) (rest front last : Bool) → rest ≡ (ltb m n && (front && last))
    → (same && rest) ≡ (ltb (suc m) (suc n) && (same && front && last))
one_more same m n rest front last h = rw (longer m n, h) (regrouped same (ltb m n) front last)

-- the three tests of the code, with the folder's length as a number
pub is_below_split : (folder path : List ℕ)
    → is_below folder path
    ≡ (ltb (length folder) (length path)
    && (begins folder path && eqb (get_or path (length folder) 0) slash))
is_below_split [] [] = refl
is_below_split [] (b ∷ path) = slash_first b (length path)
is_below_split (a ∷ folder) [] = past_end (length folder)
is_below_split (a ∷ folder) (b ∷ path) =
    one_more (eqb a b) (length folder) (length path) _ _ _ (is_below_split folder path)

-- a path lies below what it has before a slash, and below nothing else
pub below_at : (path : List ℕ) (end : ℕ) → end < length path → get_or path end 0 ≡ slash
    → is_below (take end path) path ≡ true
below_at path end within here =
    let size : length (take end path) ≡ end = omega (arith, length-take end path) in
    is_below_split (take end path) path
    ∙ rw (size, lt-ltb end (length path) within, here)
    (ap (λ t. t && true) ((bytes_eq-Decides (take end path) (take end path)).1 refl))

pub below_parts : (folder path : List ℕ) → is_below folder path ≡ true
    → (length folder < length path) × (folder ≡ take (length folder) path)
    × (get_or path (length folder) 0 ≡ slash)
below_parts folder path h =
    let split = sym (is_below_split folder path) ∙ h in
    let less = and_parts (ltb (length folder) (length path)) _ split in
    let others = and_parts (begins folder path) _ less.1 in (
      ltb-true (length folder) (length path) less.0,
      (bytes_eq-Decides folder (take (length folder) path)).0 others.0,
      eqb-true (get_or path (length folder) 0) slash others.1,
    )

-- what holds of each folder of a path that ends before here, and of the one that ends here
pub next_folder : {P : List ℕ → Type 0} (path : List ℕ) (end : ℕ)
    → ((folder : List ℕ) → length folder < end → is_below folder path ≡ true → P folder)
    → (get_or path end 0 ≡ slash → P (take end path))
    → (folder : List ℕ) → length folder < end + 1 → is_below folder path ≡ true → P folder
next_folder {P} path end before here folder short below =
    elim (cases_lt (length folder) end) [
      | inl less ↦ before folder less below
      | inr past ↦
          let parts = below_parts folder path below in
          let last : length folder ≡ end = omega (arith, past, short) in
          let is : folder ≡ take end path = rw last at parts.1 in
          rw is (here (rw last at parts.2))
    ]
