-- Members files: the texts of one, and the first line at fault of any other text. A text's lines
-- and a line's words are those of a schedule. Every line of a members file is ASCII, so bytes that
-- aren't UTF-8 are in a line at fault.
use Rattle.std.specs.Prelude.{◌≡◌, ◌≢◌, ℕ, ◌+◌, ◌≤◌, ◌==◌, Bool, true, ⊤}
use Rattle.std.specs.Prelude.{List, [], ◌∷◌, ◌++◌, length, map, All, Some}
use Rattle.std.specs.List.{AllPairs, list_all, list_any}
use Rattle.std.specs.Str.Lines.{lines}
use Rattle.fed_types.specs.Sites.{IsWeight, Membership, membership_of}
use Rattle.tokens.specs.Words.{words_of}
use Rattle.members_file.specs.declared.listed_site.ListedSite.{ListedSite}
use Rattle.members_file.specs.Limits.{most_sites}
use Rattle.members_file.specs.Places.{GoTogether, IsPlace, address_at, is_address}
use Rattle.members_file.specs.Lines.{federation_in, site_in}

-- what a members file says: the number of the federation, and the place and the weight of each
-- site, site 1 first
pub record MembersFile : Type 0 where
  pub federation : ℕ
  pub sites : List ListedSite

-- the file that says this
abbrev pub named_by : ℕ → List ListedSite → MembersFile
named_by federation sites = record { federation = federation; sites = sites }

-- the addresses of sites, and their weights
abbrev pub addresses_of : List ListedSite → List ℕ
addresses_of sites = map (λ s. address_at s.place) sites

abbrev pub weights_of : List ListedSite → List ℕ
weights_of sites = map (λ s. s.weight) sites

-- the members that it names
abbrev pub members_named : MembersFile → Membership
members_named file = membership_of file.federation (weights_of file.sites)

-- whether sites have addresses; else they have ports of this machine
abbrev pub names_addresses : List ListedSite → Bool
names_addresses sites = list_any (λ s. is_address s.place) sites

-- the lines are those of the sites n, n + 1 and so on, each with its place and its weight
abbrev pub AreSitesFrom : ℕ → List (List ℕ) → List ListedSite → Type 0
AreSitesFrom n [] [] = ⊤
AreSitesFrom n (line ∷ lines) (site ∷ sites) =
    (site_in (words_of line) ≡ Some (n, site)) × AreSitesFrom (n + 1) lines sites
AreSitesFrom n lines sites = ⊥

-- all of them are written in one way, and no two have the same address
abbrev pub AreTogether : List ListedSite → Type 0
AreTogether sites = AllPairs (λ a b. GoTogether a.place b.place) sites

-- the lines are those of the sites 1, 2, 3 and so on, which may stand in one file
abbrev pub AreSites : List (List ℕ) → List ListedSite → Type 0
AreSites lines sites = AreSitesFrom 1 lines sites × AreTogether sites

-- the lines have no words
abbrev pub are_blank : List (List ℕ) → Bool
are_blank lines = list_all (λ line. length (words_of line) == 0) lines

-- The text is a members file that says this: its first line is `federation F`, then come the lines
-- of one or more sites, and then blank lines, if any.
pub record IsTextOf (text : List ℕ) (file : MembersFile) : Type 0 where
  pub first : List ℕ
  pub named : List (List ℕ)
  pub rest : List (List ℕ)
  pub is : lines text ≡ first ∷ (named ++ rest)
  pub federation : federation_in (words_of first) ≡ Some file.federation
  pub sites : AreSites named file.sites
  pub some : 1 ≤ length file.sites
  pub blank : are_blank rest ≡ true

-- The text is no members file, and this is the number of its first line at fault. It is line 1 if
-- that isn't `federation F`, or isn't there. Else come the lines of sites, as many as can be, and
-- it is the line after them, which may not be there: unless there is a site, and all lines after
-- the sites' are blank.
pub data HasFault : List ℕ → ℕ → Type 0 where
  no_federation : (text : List ℕ) (number : ℕ)
      → ((first : List ℕ) (later : List (List ℕ)) (f : ℕ) → lines text ≡ first ∷ later
      → federation_in (words_of first) ≢ Some f)
      → number ≡ 1 → HasFault text number
  no_site : (text : List ℕ) (number f : ℕ) (first : List ℕ) (named rest : List (List ℕ))
      (sites : List ListedSite) → lines text ≡ first ∷ (named ++ rest)
      → federation_in (words_of first) ≡ Some f → AreSites named sites
      → ((line : List ℕ) (later : List (List ℕ)) (more : List ListedSite) → rest ≡ line ∷ later
      → ¬ AreSites (named ++ line ∷ []) more)
      → ¬ ((1 ≤ length named) × (are_blank rest ≡ true))
      → number ≡ length named + 2 → HasFault text number

-- what is true of the sites of every members file
pub record AreListed (sites : List ListedSite) : Type 0 where
  pub some : 1 ≤ length sites
  pub most : length sites ≤ most_sites
  pub places : All (λ s. IsPlace s.place) sites
  pub weights : All (λ s. IsWeight s.weight) sites
  pub together : AreTogether sites
