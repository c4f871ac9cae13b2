-- The stations of the members, each at its place.
use Rattle.std.proofs.Common.{ℕ, zero, suc, ◌+◌, ◌-◌, ◌<◌, ◌≤◌, ◌≡◌, ◌==◌, true, false, cond}
use Rattle.std.proofs.Common.{List, [], ◌∷◌, ◌++◌, length, Option, Some, None, refl, sym, ap, ◌∙◌}
use Rattle.std.proofs.Common.{◌⊎◌, inl, inr, ◌≢◌, get_or, if◌then◌else◌, arith}
use Rattle.std.proofs.lemmas.Bool.{cases_Bool}
use Rattle.std.proofs.lemmas.List.{length-set, length-append}
use Rattle.std.specs.Prelude.{slice_get, slice_set, nat_le}
use Rattle.std.specs.List.{range_with_len}
use Rattle.std.proofs.lemmas.Option.{slice_get_read}
use Rattle.std.proofs.lemmas.Bool.Decides.{eqb_tells, nat_tests}
use Rattle.fed_types.specs.Lists.{is_in}
use Rattle.fed_types.specs.Laws.Lists.{is_in_decides}
use Rattle.fed_types.specs.Laws.Sites.{has_sites_to, is_in-sites_to}
use Rattle.fed_types.specs.Sites.{Membership, count_of, members_of, sites_to}
use Rattle.fed_types.specs.inner.After.{sites_after}
use Rattle.fed_types.proofs.After.{all_sites, next_site}
use Rattle.sim_stations.specs.declared.station.Station.{Station}
use Rattle.world_law.specs.Networks.{SiteState, new_site}
use Rattle.simulator.specs.Federations.{IsStation, AreStations, AreNew}
use Rattle.simulator.specs.Inputs.{place_in}

-- ---- which places there are

-- a member's place is one less than its number
pub record IsPlace (members : Membership) (count site place : ℕ) : Type 0 where
  pub member : is_in (members_of members) site ≡ true
  pub number : site ≡ place + 1
  pub within : place < count

pub some_is : {X : Type 0} {a b : X} → ◌≡◌ {A = Option X} (Some a) (Some b) → a ≡ b
some_is e = cc

-- 0 is no site
zero_is_none : (n : ℕ) → is_in (sites_to n) 0 ≡ false
zero_is_none n = elim (cases_Bool (is_in (sites_to n) 0)) [
  | inl e ↦ absurd (omega (arith, (has_sites_to n 0 ((is_in_decides (sites_to n) 0).0 e)).0))
  | inr e ↦ e
]

place_is : (count before : ℕ)
    → place_in count (suc before) ≡ cond (nat_le (suc before) count) (Some before) None
place_is count before =
    let low : nat_le 1 (suc before) ≡ true = grind (arith, nat_tests) in
    let less : suc before - 1 ≡ before = omega arith in
    rw (low, less) refl

pub member_at : (members : Membership) (count site place : ℕ) → count ≡ count_of members
    → place_in count site ≡ Some place → IsPlace members count site place
member_at members count zero place counts is = absurd (cc)
member_at members count (suc before) place counts is =
    let so = sym (place_is count before) ∙ is in
    elim (cases_Bool (nat_le (suc before) count)) [
      | inl e ↦
          let same : before ≡ place = some_is (rw e at so) in
          record {
            member = rw (is_in-sites_to (count_of members) (suc before) (omega arith), ← counts) e;
            number = omega (arith, same);
            within = rw (← same) (less before count e);
          }
      | inr e ↦ absurd (cc (rw e at so))
    ]
  where
    less : (n m : ℕ) → nat_le (suc n) m ≡ true → n < m
    less n m e = grind (arith, nat_tests, e)

pub none_at : (members : Membership) (count site : ℕ) → count ≡ count_of members
    → place_in count site ≡ None → is_in (members_of members) site ≡ false
none_at members count zero counts is = zero_is_none (count_of members)
none_at members count (suc before) counts is =
    let so = sym (place_is count before) ∙ is in
    elim (cases_Bool (nat_le (suc before) count)) [
      | inl e ↦ absurd (cc (rw e at so))
      | inr e ↦ rw (is_in-sites_to (count_of members) (suc before) (omega arith), ← counts) e
    ]

-- ---- one station changes

get_set_same : {X : Type 0} (xs : List X) (k : ℕ) (x y : X)
    → slice_get (slice_set xs k x) k ≡ Some y → y ≡ x
get_set_same [] k x y is = absurd (cc)
get_set_same (z ∷ xs) zero x y is = sym (some_is is)
get_set_same (z ∷ xs) (suc k) x y is = get_set_same xs k x y is

get_set_other : {X : Type 0} (xs : List X) (k j : ℕ) (x : X) → j ≢ k
    → slice_get (slice_set xs k x) j ≡ slice_get xs j
get_set_other [] k j x apart = refl
get_set_other (z ∷ xs) zero zero x apart = absurd (apart refl)
get_set_other (z ∷ xs) zero (suc j) x apart = refl
get_set_other (z ∷ xs) (suc k) zero x apart = refl
get_set_other (z ∷ xs) (suc k) (suc j) x apart =
    get_set_other xs k j x (λ e. apart (ap suc e))

-- the sites, of which one is in another state
abbrev pub with_state : (site : ℕ) → SiteState → (ℕ → SiteState) → ℕ → SiteState
with_state site s sites n = if n == site then s else sites n

pub with_station : (members : Membership) (all : List Station) (sites : ℕ → SiteState) (place : ℕ)
    (station : Station) (s : SiteState) → AreStations members all sites
    → IsStation members (place + 1) station s
    → AreStations members (slice_set all place station) (with_state (place + 1) s sites)
with_station members all sites place station s are is = record {
  count = length-set all place station ∙ are.count;
  each = λ k other seen. elim (eqb_tells (k + 1) (place + 1)) [
    | inl same ↦
        let one : k ≡ place = omega (arith, same.1) in
        rw (same.0, one, get_set_same all place station other (rw one at seen)) is
    | inr apart ↦
        rw apart.0
        (are.each k other
        (rw (get_set_other all place k station (λ e. apart.1 (omega (arith, e)))) at seen))
  ];
}

-- the station at a place
pub station_at : (members : Membership) (all : List Station) (sites : ℕ → SiteState)
    (place : ℕ) (station : Station) → AreStations members all sites
    → place < length all → station ≡ get_or all place station
    → IsStation members (place + 1) station (sites (place + 1))
station_at members all sites place station are within is =
    are.each place station (slice_get_read all (length all) place station refl within is)

-- ---- new stations, one after the other

-- the stations so far, and the sites that are left
pub record NewSoFar (members : Membership) (all : List Station) (left : List ℕ) : Type 0 where
  pub left_is : left ≡ sites_after (length all) (count_of members)
  pub within : length all ≤ count_of members
  pub each : (place : ℕ) (station : Station) → slice_get all place ≡ Some station
      → IsStation members (place + 1) station new_site

pub new_none : (members : Membership) (left : List ℕ) → left ≡ members_of members
    → NewSoFar members [] left
new_none members left is = record {
  left_is = is ∙ sym (all_sites (count_of members));
  within = omega arith;
  each = λ k station seen. absurd (cc seen);
}

-- while a site is left, there are fewer stations than sites
fewer : (before last site : ℕ) (rest : List ℕ) → sites_after before last ≡ site ∷ rest
    → before < last
fewer before last site rest is = go (last - before) refl is
  where
    go : (n : ℕ) → last - before ≡ n → range_with_len (before + 1) n ≡ site ∷ rest
        → before < last
    go zero same none = absurd (cc none)
    go (suc n) same some = omega (arith, same)

pub new_more : (members : Membership) (all : List Station) (left rest : List ℕ) (site : ℕ)
    (station : Station)
    → NewSoFar members all left → left ≡ site ∷ rest
    → IsStation members site station new_site
    → NewSoFar members (all ++ station ∷ []) rest
new_more members all left rest site station so_far next is = record {
  left_is = rw (length-append all (station ∷ [])) (cc whole);
  within = rw (length-append all (station ∷ [])) (omega (arith, more));
  each = λ k other seen. elim (split all k other seen) [
    | inl before ↦ so_far.each k other before
    | inr last ↦ rw (last.0, last.1, ← site_is) is
  ];
}
  where
    now : site ∷ rest ≡ sites_after (length all) (count_of members)
    now = sym next ∙ so_far.left_is

    more : length all < count_of members
    more = fewer (length all) (count_of members) site rest (sym now)

    whole : site ∷ rest ≡ (length all + 1) ∷ sites_after (length all + 1) (count_of members)
    whole = now ∙ next_site (length all) (count_of members) more

    site_is : site ≡ length all + 1
    site_is = cc whole

    split : (xs : List Station) (k : ℕ) (other : Station)
        → slice_get (xs ++ station ∷ []) k ≡ Some other
        → (slice_get xs k ≡ Some other) ⊎ ((k ≡ length xs) × (other ≡ station))
    split [] zero other seen = inr (refl, sym (some_is seen))
    split [] (suc k) other seen = absurd (cc seen)
    split (x ∷ xs) zero other seen = inl seen
    split (x ∷ xs) (suc k) other seen = elim (split xs k other seen) [
      | inl before ↦ inl before
      | inr last ↦ inr (ap suc last.0, last.1)
    ]

pub are_new : (members : Membership) (all : List Station) (left : List ℕ)
    → NewSoFar members all left → left ≡ [] → AreNew members all
are_new members all left so_far none = record {
  count = go (count_of members - length all) refl (sym so_far.left_is ∙ none);
  each = so_far.each;
}
  where
    go : (n : ℕ) → count_of members - length all ≡ n → range_with_len (length all + 1) n ≡ []
        → length all ≡ count_of members
    go zero same e = omega (arith, same, so_far.within)
    go (suc n) same e = absurd (cc e)
