-- Paths that are compared one by one.
use Rattle.std.proofs.Common.{◌≡◌, ℕ, ◌+◌, ◌<◌, true, false, not, List, [], ◌∷◌, ◌++◌, length, take}
use Rattle.std.proofs.Common.{map, get_or, sym, ap, ◌∙◌, subst}
use Rattle.std.specs.Str.{bytes_eq}
use Rattle.std.proofs.lemmas.Bool.{not-false}
use Rattle.std.proofs.lemmas.List.{take_more, length-map, get_or-map}
use Rattle.std.proofs.lemmas.Slice.Eq.{bytes_eq-Decides}

-- one element more
map_next : {X : Type 0} (f : X → List ℕ) (xs : List X) (i : ℕ) (d : X) → i < length xs
    → take (i + 1) (map f xs) ≡ take i (map f xs) ++ f (get_or xs i d) ∷ []
map_next f xs i d within =
    take_more (map f xs) i (f d) (subst (λ n. i < n) (sym (length-map xs f)) within)
    ∙ ap (λ path. take i (map f xs) ++ path ∷ []) (get_or-map f xs i d (f d) within)

-- one path more is the same
pub same_next : {X Y : Type 0} (f : X → List ℕ) (h : Y → List ℕ) (xs : List X) (ys : List Y)
    (i : ℕ) (x : X) (d : Y) (text : List ℕ) → length xs ≡ length ys → i < length ys
    → x ≡ get_or xs i x → text ≡ f x → false ≡ not (bytes_eq text (h (get_or ys i d)))
    → take i (map f xs) ≡ take i (map h ys) → take (i + 1) (map f xs) ≡ take (i + 1) (map h ys)
same_next f h xs ys i x d text long within is text_is same before =
    let here : f (get_or xs i x) ≡ h (get_or ys i d) =
    sym (text_is ∙ ap f is)
    ∙ (bytes_eq-Decides text (h (get_or ys i d))).0 (not-false _ (sym same)) in
    map_next f xs i x (subst (λ n. i < n) (sym long) within)
    ∙ (ap (λ l. l ++ f (get_or xs i x) ∷ []) before
    ∙ (ap (λ path. take i (map h ys) ++ path ∷ []) here ∙ sym (map_next h ys i d within)))

-- ---- paths that aren't the same

-- the same paths are as many
pub as_many : {X Y : Type 0} (f : X → List ℕ) (h : Y → List ℕ) (xs : List X) (ys : List Y)
    → map f xs ≡ map h ys → length xs ≡ length ys
as_many f h xs ys same = sym (length-map xs f) ∙ (ap length same ∙ length-map ys h)

-- the same paths have the same one at each place
pub same_here : {X Y : Type 0} (f : X → List ℕ) (h : Y → List ℕ) (xs : List X) (ys : List Y)
    (i : ℕ) (x : X) (d : Y) (text : List ℕ) → length xs ≡ length ys → i < length ys
    → x ≡ get_or xs i x → text ≡ f x → map f xs ≡ map h ys
    → bytes_eq text (h (get_or ys i d)) ≡ true
same_here f h xs ys i x d text long within is text_is same =
    (bytes_eq-Decides text (h (get_or ys i d))).1
    (text_is ∙ (ap f is
    ∙ (sym (get_or-map f xs i x (f x) (subst (λ n. i < n) (sym long) within))
    ∙ (ap (λ l. get_or l i (f x)) same ∙ get_or-map h ys i d (f x) within))))

-- paths of which these aren't the same
pub other_here : {X Y : Type 0} (f : X → List ℕ) (h : Y → List ℕ) (xs : List X) (ys : List Y)
    (i : ℕ) (x : X) (d : Y) (text : List ℕ) → length xs ≡ length ys → i < length ys
    → x ≡ get_or xs i x → text ≡ f x → not (bytes_eq text (h (get_or ys i d))) ≡ true
    → map f xs ≡ map h ys → ⊥
other_here f h xs ys i x d text long within is text_is other same =
    let e : false ≡ true =
    ap not (sym (same_here f h xs ys i x d text long within is text_is same)) ∙ other in cc e
