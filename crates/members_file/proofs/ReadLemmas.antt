-- Lines that are read one after another: the sites, and what is at fault.
use Rattle.std.proofs.Common.{◌≡◌, ℕ, ◌+◌, ◌≤◌, true, List, [], ◌∷◌, ◌++◌, length, Option, Some}
use Rattle.std.proofs.Common.{None, Err, refl, arith, append_assoc}
use Rattle.std.specs.List.{Contains}
use Rattle.std.specs.Option.{ok_or}
use Rattle.std.specs.Str.Lines.{lines}
use Rattle.std.proofs.lemmas.List.{length-map}
use Rattle.std.proofs.lemmas.List.Elements.{All-contains, All-map}
use Rattle.fed_types.specs.Sites.{CountFits, IsWeight}
use Rattle.tokens.specs.Words.{words_of}
use Rattle.members_file.specs.declared.listed_site.ListedSite.{ListedSite}
use Rattle.members_file.specs.declared.members_fault.MembersFault.{MembersFault}
use Rattle.members_file.specs.Files.{AreListed, HasFault, are_blank, no_federation, no_site}
use Rattle.members_file.specs.Files.{weights_of}
use Rattle.members_file.specs.Limits.{most_sites}
use Rattle.members_file.specs.Lines.{federation_in}
use Rattle.members_file.specs.inner.Sites.{BeginsSites, HasSites, next_site}
use Rattle.members_file.proofs.SiteLemmas.{AreSites-more, AreSites-no_more, AreSitesFrom-length}
use Rattle.members_file.proofs.SiteLemmas.{AreSitesFrom-most, AreSitesFrom-ranges}

-- no line is read
pub BeginsSites-none : (all : List (List ℕ)) → BeginsSites all [] all
BeginsSites-none all = record {
  named = [];
  is = refl;
  sites = (tt, λ i j d below within. absurd (omega arith));
}

-- the next line is of the next site
pub BeginsSites-more : {all rest later : List (List ℕ)} {sites : List ListedSite} {line : List ℕ}
    {site : ListedSite} → BeginsSites all sites rest → rest ≡ line ∷ later
    → next_site sites (words_of line) ≡ Some site → BeginsSites all (sites ++ site ∷ []) later
BeginsSites-more {sites = sites} {line} {site} begins next is = record {
  named = begins.named ++ line ∷ [];
  is = rw (append_assoc, ← next) begins.is;
  sites = AreSites-more begins.named sites line site begins.sites is;
}

-- the next line isn't
pub HasSites-from : {all rest later : List (List ℕ)} {sites : List ListedSite} {line : List ℕ}
    → BeginsSites all sites rest → rest ≡ line ∷ later → next_site sites (words_of line) ≡ None
    → HasSites all sites rest
HasSites-from {sites = sites} {line} begins next is = record {
  named = begins.named;
  is = begins.is;
  sites = begins.sites;
  no_more = λ other more_lines more also.
      let same : line ≡ other = cc (next, also) in
      AreSites-no_more begins.named sites other more begins.sites (rw (← same) is);
}

-- there is none
pub HasSites-end : {all rest : List (List ℕ)} {sites : List ListedSite}
    → BeginsSites all sites rest → rest ≡ [] → HasSites all sites rest
HasSites-end begins none = record {
  named = begins.named;
  is = begins.is;
  sites = begins.sites;
  no_more = λ other more_lines more also. absurd (cc (none, also));
}

-- ---- all that is read

-- no more sites than can be
HasSites-most : {all rest : List (List ℕ)} {sites : List ListedSite} → HasSites all sites rest
    → length sites ≤ most_sites
HasSites-most {sites = sites} has =
    omega (arith, AreSitesFrom-most 1 has.named sites has.sites.0 (omega arith))

-- what is true of one site or more
pub AreListed-read : {all rest : List (List ℕ)} {sites : List ListedSite}
    → HasSites all sites rest → 1 ≤ length sites → AreListed sites
AreListed-read {sites = sites} has some = record {
  some = some;
  most = HasSites-most has;
  places = AreSitesFrom-ranges (λ n s range. range.place) 1 has.named sites has.sites.0;
  weights = AreSitesFrom-ranges (λ n s range. range.weight) 1 has.named sites has.sites.0;
  together = has.sites.1;
}

-- members can have the weights of one site or more
pub weights-fit : {all rest : List (List ℕ)} {sites : List ListedSite}
    → HasSites all sites rest → 1 ≤ length sites
    → CountFits (weights_of sites) × ¬ Contains {X = ℕ} (weights_of sites) 0
weights-fit {sites = sites} has some =
    let many = length-map sites (λ (s : ListedSite). s.weight) in
    let most = HasSites-most has in
    let each = All-map IsWeight (λ (s : ListedSite). s.weight) sites
    (AreListed-read has some).weights in (
      (omega arith, omega arith),
      λ zero. omega (arith, (All-contains IsWeight (weights_of sites) 0 each zero).0),
    )

-- there are none without a site
pub weights-some : (sites : List ListedSite) → CountFits (weights_of sites) → 1 ≤ length sites
weights-some sites fit =
    omega (arith, length-map sites (λ (s : ListedSite). s.weight), fit.0)

-- the first line names no federation, or there is none
pub fault_of_none : (text : List ℕ) → lines text ≡ [] → HasFault text 1
fault_of_none text none =
    no_federation text 1
    (λ first later f is says. cc (none, is)) refl

pub fault_of_first : (text first : List ℕ) (later : List (List ℕ)) → lines text ≡ first ∷ later
    → federation_in (words_of first) ≡ None → HasFault text 1
fault_of_first text first later is none =
    no_federation text 1 (λ other others f also says. cc (is, none, also, says)) refl

-- the line after the sites' isn't one of a members file
pub fault_after : (text first : List ℕ) (later rest : List (List ℕ)) (f : ℕ)
    (sites : List ListedSite)
    → lines text ≡ first ∷ later → federation_in (words_of first) ≡ Some f
    → HasSites later sites rest → ¬ ((1 ≤ length sites) × (are_blank rest ≡ true))
    → HasFault text (length sites + 2)
fault_after text first later rest f sites is says has no_end =
    let many = AreSitesFrom-length 1 has.named sites has.sites.0 in
    no_site text (length sites + 2) f first has.named rest sites
    (cc (is, has.is)) says has.sites has.no_more
    (λ ends. no_end (omega (arith, ends.0), ends.1)) (omega arith)

-- a test that answers by a fault
pub fault_from_ok_or : {X : Type 0} (found : Option X) (wanted fault : MembersFault)
    → Err fault ≡ ok_or found wanted → (found ≡ None) × (fault ≡ wanted)
fault_from_ok_or None wanted fault e = (refl, cc)
fault_from_ok_or (Some x) wanted fault e = absurd (cc e)
