-- Where the lines of the sites end, and which lines a text has.
use Rattle.std.proofs.Common.{◌≡◌, ℕ, true, eqb, List, [], ◌∷◌, ◌++◌, length, None, refl, sym, ◌∙◌}
use Rattle.std.proofs.Common.{subst, arith, append_assoc}
use Rattle.std.proofs.lemmas.Bool.{eqb-true, and_parts}
use Rattle.tokens.specs.Words.{words_of}
use Rattle.members_file.specs.declared.listed_site.ListedSite.{ListedSite}
use Rattle.members_file.specs.Files.{AreTogether, AreSites, are_blank}
use Rattle.members_file.specs.Lines.{site_in}
use Rattle.members_file.specs.inner.Sites.{HasSites, next_site}
use Rattle.members_file.proofs.TogetherLemmas.{AreTogether-front}
use Rattle.members_file.proofs.SiteLemmas.{AreSites-no_more, AreSitesFrom-same, Parts-from}

-- a list that is parted twice
data Parted (a b x y : List (List ℕ)) : Type 0 where
  same : a ≡ x → b ≡ y → Parted a b x y
  shorter : (line : List ℕ) (between : List (List ℕ)) → x ≡ a ++ line ∷ between
      → b ≡ line ∷ (between ++ y) → Parted a b x y
  longer : (line : List ℕ) (between : List (List ℕ)) → a ≡ x ++ line ∷ between
      → y ≡ line ∷ (between ++ b) → Parted a b x y

parted : (a b x y : List (List ℕ)) → a ++ b ≡ x ++ y → Parted a b x y
parted [] b [] y is = same refl is
parted [] b (line ∷ x) y is = shorter line x refl is
parted (line ∷ a) b [] y is = longer line a refl (sym is)
parted (l ∷ a) b (m ∷ x) y is =
    go (cc is) (parted a b x y (cc is))
  where
    go : l ≡ m → Parted a b x y → Parted (l ∷ a) b (m ∷ x) y
    go head (same front back) = same (cc) back
    go head (shorter line between front back) = shorter line between (cc) back
    go head (longer line between front back) = longer line between (cc) back

-- the sites of the first lines, and of one line more
one_line_more : (front back : List (List ℕ)) (line : List ℕ) (sites : List ListedSite)
    → AreSites (front ++ line ∷ back) sites
    → (more : List ListedSite) × AreSites (front ++ line ∷ []) more
one_line_more front back line sites are =
    let all = rw (← append_assoc front (line ∷ []) back) at are in
    let parts = Parts-from 1 (front ++ line ∷ []) back sites all.0 in (
      parts.first,
      (
        parts.are_first,
        AreTogether-front parts.first parts.later (subst AreTogether parts.is all.1),
      ),
    )

-- what two ways of reading the sites have in common
pub record Agree (a b : List (List ℕ)) (p q : List ListedSite) (r u : List (List ℕ)) : Type 0 where
  pub named : a ≡ b
  pub sites : p ≡ q
  pub rest : r ≡ u

-- the sites' lines end in one place
pub HasSites-agree : {all : List (List ℕ)} {p q : List ListedSite} {r u : List (List ℕ)}
    (s : HasSites all p r) (t : HasSites all q u) → Agree s.named t.named p q r u
HasSites-agree {all} {p} {q} {r} {u} s t = go (parted s.named r t.named u (sym s.is ∙ t.is))
  where
    go : Parted s.named r t.named u → Agree s.named t.named p q r u
    go (same named rest) = record {
      named = named;
      sites = AreSitesFrom-same 1 t.named p q (rw named at s.sites).0 t.sites.0;
      rest = rest;
    }
    go (shorter line between named rest) =
        let more = one_line_more s.named between line q (rw named at t.sites) in
        absurd (s.no_more line (between ++ u) more.0 rest more.1)
    go (longer line between named rest) =
        let more = one_line_more t.named between line p (rw named at s.sites) in
        absurd (t.no_more line (between ++ r) more.0 rest more.1)

-- a line without words is of no site
no_words : (words : List (List ℕ)) → length words ≡ 0 → (sites : List ListedSite)
    → next_site sites words ≡ None
unfolding next_site site_in
no_words [] is sites = refl
no_words (word ∷ words) is sites = absurd (omega arith)

pub blank_ends : (named rest : List (List ℕ)) (sites : List ListedSite) → AreSites named sites
    → are_blank rest ≡ true → (line : List ℕ) (later : List (List ℕ)) (more : List ListedSite)
    → rest ≡ line ∷ later → ¬ AreSites (named ++ line ∷ []) more
blank_ends named rest sites are blank line later more is =
    let none = and_parts (eqb (length (words_of line)) 0) (are_blank later) (rw is at blank) in
    AreSites-no_more named sites line more are
    (no_words (words_of line) (eqb-true (length (words_of line)) 0 none.0) sites)
