-- Each text is one members file, or has one first line at fault, and never both.
use Rattle.std.proofs.Common.{◌≡◌, ℕ, ◌+◌, List, ◌∷◌, ◌++◌, [], Bool, true, false, Option, None}
use Rattle.std.proofs.Common.{◌⊎◌, inl, inr, length, Some, refl, sym, ap, ◌∙◌, subst, arith}
use Rattle.std.specs.Str.Lines.{lines}
use Rattle.tokens.specs.Words.{words_of}
use Rattle.members_file.specs.declared.listed_site.ListedSite.{ListedSite}
use Rattle.members_file.specs.Files.{HasFault, IsTextOf, MembersFile, are_blank, named_by}
use Rattle.members_file.specs.Files.{no_federation, no_site}
use Rattle.members_file.specs.Lines.{federation_in}
use Rattle.members_file.specs.inner.Sites.{BeginsSites, HasSites, next_site}
use Rattle.members_file.proofs.SiteLemmas.{AreSitesFrom-length}
use Rattle.members_file.proofs.ReadLemmas.{BeginsSites-none, BeginsSites-more, HasSites-from}
use Rattle.members_file.proofs.ReadLemmas.{HasSites-end, fault_of_none, fault_of_first, fault_after}
use Rattle.members_file.proofs.EndLemmas.{HasSites-agree, blank_ends}

-- the sites of a members file
sites_of : {text : List ℕ} {file : MembersFile} (t : IsTextOf text file)
    → HasSites (t.named ++ t.rest) file.sites t.rest
sites_of {file = file} t = record {
  named = t.named;
  is = refl;
  sites = t.sites;
  no_more = blank_ends t.named t.rest file.sites t.sites t.blank;
}

pub one_file : (text : List ℕ) (a b : MembersFile) → IsTextOf text a → IsTextOf text b → a ≡ b
one_file text a b t u =
    let rest : t.named ++ t.rest ≡ u.named ++ u.rest = cc (t.is, u.is) in
    let agree = HasSites-agree (sites_of t) (subst (λ ls. HasSites ls b.sites u.rest) (sym rest)
    (sites_of u)) in
    let federation : a.federation ≡ b.federation = cc (t.is, u.is, t.federation, u.federation) in
    λ i. named_by (federation i) (agree.sites i)

pub one_fault : (text : List ℕ) (m n : ℕ) → HasFault text m → HasFault text n → m ≡ n
one_fault _ _ n (no_federation text m none at) (no_federation _ _ also likewise) =
    at ∙ sym likewise
one_fault _ _ n (no_federation text m none at)
    (no_site _ _ f first named rest sites is says are no_more no_end likewise) =
    absurd (none first (named ++ rest) f is says)
one_fault _ _ n (no_site text m f first named rest sites is says are no_more no_end at)
    (no_federation _ _ none likewise) = absurd (none first (named ++ rest) f is says)
one_fault _ _ _ (no_site text m f first named rest sites is says are no_more no_end at)
    (no_site _ n g other lines_of left others also tells likewise no_other no_stop place) =
    let here : HasSites (named ++ rest) sites rest =
    record { named = named; is = refl; sites = are; no_more = no_more } in
    let there : HasSites (named ++ rest) others left =
    record { named = lines_of; is = cc (is, also); sites = likewise; no_more = no_other } in
    rw (at, (HasSites-agree here there).named) (sym place)

pub never_both : (text : List ℕ) (file : MembersFile) (n : ℕ) → IsTextOf text file
    → ¬ HasFault text n
never_both _ file _ t (no_federation text n none at) =
    none t.first (t.named ++ t.rest) file.federation t.is t.federation
never_both _ file _ t (no_site text n f first named rest sites is says are no_more no_end at) =
    let here : HasSites (named ++ rest) sites rest =
    record { named = named; is = refl; sites = are; no_more = no_more } in
    let same : named ++ rest ≡ t.named ++ t.rest = cc (is, t.is) in
    let agree = HasSites-agree here (subst (λ ls. HasSites ls file.sites t.rest) (sym same)
    (sites_of t)) in
    let many = AreSitesFrom-length 1 named sites are.0 in
    no_end (omega (arith, t.some, ap length agree.sites), rw agree.rest t.blank)

-- ---- each text is one or the other

-- the sites of lines
all_sites : (all : List (List ℕ)) (sites : List ListedSite) (rest : List (List ℕ))
    → BeginsSites all sites rest
    → (said : List ListedSite) × (left : List (List ℕ)) × HasSites all said left
all_sites all sites [] begins = (sites, [], HasSites-end begins refl)
all_sites all sites (line ∷ later) begins =
    go (next_site sites (words_of line)) refl
    (λ site is. all_sites all (sites ++ site ∷ []) later (BeginsSites-more begins refl is))
  where
    go : (next : Option ListedSite) → next_site sites (words_of line) ≡ next
        → ((site : ListedSite) → next_site sites (words_of line) ≡ Some site
        → (said : List ListedSite) × (left : List (List ℕ)) × HasSites all said left)
        → (said : List ListedSite) × (left : List (List ℕ)) × HasSites all said left
    go None is later_sites = (sites, line ∷ later, HasSites-from begins refl is)
    go (Some site) is later_sites = later_sites site is

-- a members file, or a line at fault
abbrev Answer : List ℕ → Type 0
Answer text = ((file : MembersFile) × IsTextOf text file) ⊎ ((n : ℕ) × HasFault text n)

after_first : (text first : List ℕ) (later : List (List ℕ)) (f : ℕ) → lines text ≡ first ∷ later
    → federation_in (words_of first) ≡ Some f → Answer text
after_first text first later f is says =
    let found = all_sites later [] later (BeginsSites-none later) in
    go found.0 found.1 found.2 (are_blank found.1) refl
  where
    go : (sites : List ListedSite) (rest : List (List ℕ)) → HasSites later sites rest
        → (blank : Bool) → are_blank rest ≡ blank → Answer text
    go sites rest has false isnt =
        inr (
          length sites + 2,
          fault_after text first later rest f sites is says has
              (λ ends. cc (isnt, ends.1)),
        )
    go [] rest has true blank =
        inr (2, fault_after text first later rest f [] is says has (λ ends. omega (arith, ends.0)))
    go (site ∷ sites) rest has true blank =
        inl (
          named_by f (site ∷ sites),
          record {
            first = first;
            named = has.named;
            rest = rest;
            is = cc (is, has.is);
            federation = says;
            sites = has.sites;
            some = omega arith;
            blank = blank;
          },
        )

pub some_answer : (text : List ℕ) → Answer text
some_answer text = go (lines text) refl
  where
    named : (first : List ℕ) (later : List (List ℕ)) → lines text ≡ first ∷ later
        → (f : Option ℕ) → federation_in (words_of first) ≡ f → Answer text
    named first later is None says = inr (1, fault_of_first text first later is says)
    named first later is (Some f) says = after_first text first later f is says

    go : (ls : List (List ℕ)) → lines text ≡ ls → Answer text
    go [] is = inr (1, fault_of_none text is)
    go (first ∷ later) is =
        named first later is (federation_in (words_of first)) refl
