-- Sites that may stand in one file.
use Rattle.std.proofs.Common.{◌<◌, ◌≡◌, ℕ, suc, ◌==◌, not, Bool, true, List, [], ◌∷◌, ◌++◌, length}
use Rattle.std.proofs.Common.{get_or, refl, inl, inr, arith, length-append}
use Rattle.std.proofs.Math.Seq.{get_or-append_seam}
use Rattle.std.proofs.lemmas.Bool.{cases_lt, ne_eqb, true_from_ne_false, and_parts, eqb-false}
use Rattle.std.proofs.lemmas.Bool.{not-true}
use Rattle.std.proofs.lemmas.List.{get_or_append_left}
use Rattle.std.proofs.lemmas.List.Folds.{list_all_at}
use Rattle.std.specs.List.{list_all}
use Rattle.members_file.specs.declared.listed_site.ListedSite.{ListedSite}
use Rattle.members_file.specs.declared.place.Place.{Place}
use Rattle.members_file.specs.declared.place.PlaceKind.{PlaceKind}
use Rattle.members_file.specs.declared.place.PlaceKind.TheVariants.{Port, Ipv4, Ipv6}
use Rattle.members_file.specs.Files.{AreTogether}
use Rattle.members_file.specs.Places.{GoTogether, address_at, kind_of, same_kind}
use Rattle.members_file.specs.inner.Sites.{fits, goes_with}

-- ---- the test of two places

kind_is : (a b : PlaceKind) → same_kind a b ≡ true → a ≡ b
kind_is Port Port same = refl
kind_is Ipv4 Ipv4 same = refl
kind_is Ipv6 Ipv6 same = refl
kind_is _ _ same = absurd (cc same)

kind_same : (a : PlaceKind) → same_kind a a ≡ true
kind_same Port = refl
kind_same Ipv4 = refl
kind_same Ipv6 = refl

go_together : (a b : Place) → goes_with a b ≡ true → GoTogether a b
go_together a b go =
    let both = and_parts (same_kind (kind_of a) (kind_of b)) (not (address_at a == address_at b)) go
    in
    (kind_is (kind_of a) (kind_of b) both.0, eqb-false _ _ (not-true _ both.1))

goes_together : (a b : Place) → GoTogether a b → goes_with a b ≡ true
goes_together a b go = rw (go.0, kind_same (kind_of b), ne_eqb (address_at a) (address_at b) go.1)

-- ---- a list of places

-- where all pass a test, each does
each_passes : {X : Type 0} (p : X → Bool) (xs : List X) (i : ℕ) (d : X) → i < length xs
    → list_all p xs ≡ true → p (get_or xs i d) ≡ true
each_passes p xs i d within all =
    true_from_ne_false (p (get_or xs i d)) (λ fails. cc (all, list_all_at p xs i d within fails))

-- and where each does, all do
all_pass : {X : Type 0} (p : X → Bool) (xs : List X)
    → ((i : ℕ) (d : X) → i < length xs → p (get_or xs i d) ≡ true) → list_all p xs ≡ true
all_pass p [] each = refl
all_pass p (x ∷ xs) each =
    rw (each 0 x (omega arith)) (all_pass p xs (λ i d within. each (suc i) d
    (omega (arith, within))))

-- those before a later one
pub AreTogether-front : (front more : List ListedSite) → AreTogether (front ++ more)
    → AreTogether front
AreTogether-front front more are = λ i j d below within.
    rw (← get_or_append_left front more d i (omega arith))
    (rw (← get_or_append_left front more d j within)
    (are i j d below (omega (arith, length-append front more))))

-- one more that may stand beside each of them
pub AreTogether-more : (sites : List ListedSite) (s : ListedSite) → AreTogether sites
    → fits sites s.place ≡ true → AreTogether (sites ++ s ∷ [])
AreTogether-more sites s are new = λ i j d below within.
    elim (cases_lt j (length sites)) [
      | inl earlier ↦
          rw (get_or_append_left sites (s ∷ []) d i (omega arith))
          (rw (get_or_append_left sites (s ∷ []) d j earlier) (are i j d below earlier))
      | inr last ↦
          let place : j ≡ length sites = omega (arith, length-append sites (s ∷ [])) in
          let first : i < length sites = omega arith in
          rw (get_or_append_left sites (s ∷ []) d i first, place, get_or-append_seam sites s [] d)
          (go_together (get_or sites i d).place s.place
          (each_passes (λ (x : ListedSite). goes_with x.place s.place) sites i d first new))
    ]

-- the last may stand beside each of those before it
pub AreTogether-last : (sites : List ListedSite) (s : ListedSite)
    → AreTogether (sites ++ s ∷ []) → fits sites s.place ≡ true
AreTogether-last sites s are =
    all_pass (λ (x : ListedSite). goes_with x.place s.place) sites (λ i d within.
    goes_together (get_or sites i d).place s.place
    (rw (get_or_append_left sites (s ∷ []) d i within, get_or-append_seam sites s [] d)
    at (are i (length sites) d within (omega (arith, length-append sites (s ∷ []))))))
