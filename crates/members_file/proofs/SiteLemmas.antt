-- The lines of sites, one after another.
use Rattle.std.proofs.Common.{◌≡◌, ℕ, ◌+◌, ◌≤◌, ◌&&◌, Bool, cond, true, false, eqb, List, [], ◌∷◌}
use Rattle.std.proofs.Common.{◌++◌, length, All, Option, Some, None, refl, ap, ◌∙◌, subst, arith}
use Rattle.std.specs.Prelude.{codes}
use Rattle.std.specs.Str.{bytes_eq}
use Rattle.std.proofs.lemmas.Bool.{eqb-true, eq-eqb}
use Rattle.std.proofs.lemmas.Option.{same_Some}
use Rattle.std.proofs.lemmas.List.Elements.{All-nil, All-cons}
use Rattle.fed_types.specs.Limits.{greatest_weight}
use Rattle.fed_types.specs.Sites.{IsWeight}
use Rattle.tokens.specs.Words.{◌>>=◌, number_in, words_of}
use Rattle.tokens.proofs.GrammarLemmas.{IsNumeral-number_in}
use Rattle.tokens.proofs.StepLemmas.{bind_some}
use Rattle.members_file.specs.declared.listed_site.ListedSite.{ListedSite}
use Rattle.members_file.specs.Files.{AreTogether, AreSites, AreSitesFrom}
use Rattle.members_file.specs.Limits.{most_sites, greatest_port}
use Rattle.members_file.specs.Lines.{listed, site_in, weight_in}
use Rattle.members_file.specs.declared.place.Place.{Place}
use Rattle.members_file.specs.declared.place.Place.TheVariants as place
use Rattle.members_file.specs.Places.{IsPlace, place_in, place_of}
use Rattle.addresses.specs.Texts.{address_in}
use Rattle.addresses.proofs.TextLemmas.{reads}
use Rattle.members_file.specs.inner.Sites.{fits, if_next, next_site}
use Rattle.members_file.proofs.TogetherLemmas.{AreTogether-more, AreTogether-last}

-- the range of a weight
weight_in-range : (words : List (List ℕ)) (w : ℕ) → weight_in words ≡ Some w → IsWeight w
unfolding weight_in
weight_in-range [] w is =
    let one : 1 ≡ w = cc is in (omega arith, omega arith)
weight_in-range (word ∷ []) w is =
    let of_weight = IsNumeral-number_in 1 greatest_weight word w is in (of_weight.1, of_weight.2)
weight_in-range (a ∷ b ∷ more) w is = absurd (cc is)

-- a site's number and the site
abbrev pair_of : ℕ → Place → ℕ → Option (ℕ × ListedSite)
pair_of n place weight = Some (n, listed place weight)

-- the same, with the weight by its words
abbrev with_weight : List (List ℕ) → ℕ → Place → Option (ℕ × ListedSite)
with_weight words n place = weight_in words >>= pair_of n place

-- the same, with the place by its word
abbrev with_place : List ℕ → List (List ℕ) → ℕ → Option (ℕ × ListedSite)
with_place word words n = place_in word >>= with_weight words n

-- what is true of a place that a word names
IsPlace-place_in : (word : List ℕ) (p : Place) → place_in word ≡ Some p → IsPlace p
unfolding place_in
IsPlace-place_in word p is =
    go (number_in 1 greatest_port word) refl (address_in word) refl is
  where
    go : (port : Option ℕ) → number_in 1 greatest_port word ≡ port
        → (address : Option ℕ) → address_in word ≡ address
        → place_of port address ≡ Some p → IsPlace p
    go (Some port) number address other is =
        let of_port = IsNumeral-number_in 1 greatest_port word port number in
        subst IsPlace (same_Some (place.Port port) p is) (of_port.1, of_port.2)
    go None number (Some a) address is =
        let text = (reads word a).1 address in
        subst IsPlace (same_Some (place.Address a) p is) (text.in_range, text.listable)
    go None number None address is = absurd (cc is)

-- the ranges of what a site's line says
pub record InRange (n : ℕ) (site : ListedSite) : Type 0 where
  pub number : n ≤ most_sites
  pub place : IsPlace site.place
  pub weight : IsWeight site.weight

pub site_in-range : (words : List (List ℕ)) (n : ℕ) (s : ListedSite)
    → site_in words ≡ Some (n, s) → InRange n s
unfolding site_in
site_in-range (name ∷ site ∷ place ∷ weight) n s is =
    go (bytes_eq name (codes "site")) refl is
  where
    go : (test : Bool) → bytes_eq name (codes "site") ≡ test
        → cond test (number_in 1 most_sites site >>= with_place place weight) None ≡ Some (n, s)
        → InRange n s
    go false named found = absurd (cc found)
    go true named found =
        let a = bind_some (number_in 1 most_sites site) (with_place place weight) (n, s) found in
        let p = bind_some (place_in place) (with_weight weight a.0) (n, s) a.2 in
        let w = bind_some (weight_in weight) (pair_of a.0 p.0) (n, s) p.2 in
        subst (λ (x : ℕ × ListedSite). InRange x.0 x.1)
        (same_Some (a.0, listed p.0 w.0) (n, s) w.2)
        (record {
          number = (IsNumeral-number_in 1 most_sites site a.0 a.1).2;
          place = IsPlace-place_in place p.0 p.1;
          weight = weight_in-range weight w.0 w.1;
        })
site_in-range _ n s is = absurd (cc is)

-- as many sites as lines
pub AreSitesFrom-length : (n : ℕ) (lines : List (List ℕ)) (sites : List ListedSite)
    → AreSitesFrom n lines sites → length lines ≡ length sites
AreSitesFrom-length n [] [] are = refl
AreSitesFrom-length n (line ∷ lines) (site ∷ sites) are =
    omega (arith, AreSitesFrom-length (n + 1) lines sites are.1)
AreSitesFrom-length n _ _ are = absurd are

-- no more of them than can be
pub AreSitesFrom-most : (n : ℕ) (lines : List (List ℕ)) (sites : List ListedSite)
    → AreSitesFrom n lines sites → n ≤ most_sites + 1 → n + length sites ≤ most_sites + 1
AreSitesFrom-most n [] [] are most = omega arith
AreSitesFrom-most n (line ∷ lines) (site ∷ sites) are most =
    let here = site_in-range (words_of line) n site are.0 in
    omega (arith, AreSitesFrom-most (n + 1) lines sites are.1 (omega arith))
AreSitesFrom-most n _ _ are most = absurd are

-- each in its ranges
pub AreSitesFrom-ranges : {P : ListedSite → Type 0}
    → ((n : ℕ) (site : ListedSite) → InRange n site → P site) → (n : ℕ) (lines : List (List ℕ))
    (sites : List ListedSite) → AreSitesFrom n lines sites → All P sites
AreSitesFrom-ranges {P} holds n [] [] are = All-nil P
AreSitesFrom-ranges {P} holds n (line ∷ lines) (site ∷ sites) are =
    All-cons P site sites (holds n site (site_in-range (words_of line) n site are.0))
    (AreSitesFrom-ranges holds (n + 1) lines sites are.1)
AreSitesFrom-ranges holds n _ _ are = absurd are

-- lines have one list of sites at most
pub AreSitesFrom-same : (n : ℕ) (lines : List (List ℕ)) (a b : List ListedSite)
    → AreSitesFrom n lines a → AreSitesFrom n lines b → a ≡ b
AreSitesFrom-same n [] [] [] are also = refl
AreSitesFrom-same n (line ∷ lines) (s ∷ a) (t ∷ b) are also =
    let pairs : Some (n, s) ≡ Some (n, t) = cc (are.0, also.0) in
    let first : s ≡ t = ap (λ (x : ℕ × ListedSite). x.1) (same_Some (n, s) (n, t) pairs) in
    cc (first, AreSitesFrom-same (n + 1) lines a b are.1 also.1)
AreSitesFrom-same n lines a b are also =
    absurd (omega (arith, AreSitesFrom-length n lines a are, AreSitesFrom-length n lines b also))

-- the sites of the first lines, and of those after them
pub record Parts (n : ℕ) (front back : List (List ℕ)) (sites : List ListedSite) : Type 0 where
  pub first : List ListedSite
  pub later : List ListedSite
  pub is : sites ≡ first ++ later
  pub are_first : AreSitesFrom n front first
  pub are_later : AreSitesFrom (n + length front) back later

pub Parts-from : (n : ℕ) (front back : List (List ℕ)) (sites : List ListedSite)
    → AreSitesFrom n (front ++ back) sites → Parts n front back sites
Parts-from n [] back sites are = record {
  first = [];
  later = sites;
  is = refl;
  are_first = tt;
  are_later = subst (λ (k : ℕ). AreSitesFrom k back sites) (omega arith) are;
}
Parts-from n (line ∷ front) back [] are = absurd are
Parts-from n (line ∷ front) back (site ∷ sites) are =
    let rest = Parts-from (n + 1) front back sites are.1 in
    record {
      first = site ∷ rest.first;
      later = rest.later;
      is = ap (λ (xs : List ListedSite). site ∷ xs) rest.is;
      are_first = (are.0, rest.are_first);
      are_later = subst (λ (k : ℕ). AreSitesFrom k back rest.later) (omega arith) rest.are_later;
    }

-- the line of one more site
pub AreSitesFrom-more : (n : ℕ) (lines : List (List ℕ)) (sites : List ListedSite) (line : List ℕ)
    (site : ListedSite) → AreSitesFrom n lines sites
    → site_in (words_of line) ≡ Some (n + length sites, site)
    → AreSitesFrom n (lines ++ line ∷ []) (sites ++ site ∷ [])
AreSitesFrom-more n [] [] line site are is =
    (is ∙ ap (λ (k : ℕ). Some (k, site)) (omega arith), tt)
AreSitesFrom-more n (first ∷ lines) (s ∷ sites) line site are is = (
  are.0,
  AreSitesFrom-more (n + 1) lines sites line site are.1
      (is ∙ ap (λ (k : ℕ). Some (k, site)) (omega arith)),
)
AreSitesFrom-more n _ _ line site are is = absurd are

-- what the line of one more site says
pub one_more : (n : ℕ) (lines : List (List ℕ)) (line : List ℕ) (sites more : List ListedSite)
    → AreSitesFrom n lines sites → AreSitesFrom n (lines ++ line ∷ []) more
    → (site : ListedSite) × (more ≡ sites ++ site ∷ [])
    × (site_in (words_of line) ≡ Some (n + length sites, site))
one_more n lines line sites more are also =
    let parts = Parts-from n lines (line ∷ []) more also in
    let same = AreSitesFrom-same n lines parts.first sites parts.are_first are in
    go parts.later (rw (← AreSitesFrom-length n lines sites are) parts.are_later)
    (rw same at parts.is)
  where
    go : (later : List ListedSite) → AreSitesFrom (n + length sites) (line ∷ []) later
        → more ≡ sites ++ later
        → (site : ListedSite) × (more ≡ sites ++ site ∷ [])
        × (site_in (words_of line) ≡ Some (n + length sites, site))
    go [] last is = absurd last
    go (site ∷ []) last is = (site, is, last.0)
    go (site ∷ other ∷ later) last is = absurd last.1

-- ---- the next site

-- the line of the next site goes on
pub AreSites-more : (lines : List (List ℕ)) (sites : List ListedSite) (line : List ℕ)
    (site : ListedSite) → AreSites lines sites → next_site sites (words_of line) ≡ Some site
    → AreSites (lines ++ line ∷ []) (sites ++ site ∷ [])
unfolding next_site
AreSites-more lines sites line site are is =
    let found =
    bind_some (site_in (words_of line)) (λ (s : ℕ × ListedSite). if_next sites s.0 s.1) site is in
    go found.0.0 found.0.1 found.1 (eqb found.0.0 (length sites + 1)) refl
    (fits sites found.0.1.place) refl found.2
  where
    go : (n : ℕ) (s : ListedSite) → site_in (words_of line) ≡ Some (n, s)
        → (next : Bool) → eqb n (length sites + 1) ≡ next
        → (fit : Bool) → fits sites s.place ≡ fit
        → cond (next && fit) (Some s) None ≡ Some site
        → AreSites (lines ++ line ∷ []) (sites ++ site ∷ [])
    go n s says true next true has found =
        let same = same_Some s site found in
        let place : n ≡ 1 + length sites = omega (arith, eqb-true n (length sites + 1) next) in (
          AreSitesFrom-more 1 lines sites line site are.0 (rw (place, same) at says),
          AreTogether-more sites site are.1 (rw same at has),
        )
    go n s says _ next _ has found = absurd (cc found)

-- any other line doesn't
pub AreSites-no_more : (lines : List (List ℕ)) (sites : List ListedSite) (line : List ℕ)
    (more : List ListedSite) → AreSites lines sites → next_site sites (words_of line) ≡ None
    → ¬ AreSites (lines ++ line ∷ []) more
unfolding next_site
AreSites-no_more lines sites line more are none also =
    let next = one_more 1 lines line sites more are.0 also.0 in
    let place : eqb (1 + length sites) (length sites + 1) ≡ true =
    eq-eqb (1 + length sites) (length sites + 1) (omega arith) in
    let fit = AreTogether-last sites next.0 (subst AreTogether next.1 also.1) in
    cc (rw (next.2, place, fit) at none)
