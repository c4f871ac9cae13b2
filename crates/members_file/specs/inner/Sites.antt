-- The lines of sites, read one after another.
use Rattle.std.specs.Prelude.{◌≡◌, ℕ, ◌+◌, ◌==◌, ◌&&◌, not, if◌then◌else◌}
use Rattle.std.specs.Prelude.{List, [], ◌∷◌, ◌++◌, Bool, length, Option, Some, None}
use Rattle.std.specs.List.{list_all}
use Rattle.tokens.specs.Words.{◌>>=◌}
use Rattle.members_file.specs.declared.listed_site.ListedSite.{ListedSite}
use Rattle.members_file.specs.declared.place.Place.{Place}
use Rattle.members_file.specs.Files.{AreSites}
use Rattle.members_file.specs.Places.{address_at, kind_of, same_kind}
use Rattle.members_file.specs.Lines.{site_in}

-- whether a file may have sites at both places
abbrev pub goes_with : Place → Place → Bool
goes_with a b = same_kind (kind_of a) (kind_of b) && not (address_at a == address_at b)

-- whether a site at this place may stand beside each of these
abbrev pub fits : List ListedSite → Place → Bool
fits sites place = list_all (λ s. goes_with s.place place) sites

-- the site n, if it is the next one after these, and may stand beside them
abbrev pub if_next : List ListedSite → ℕ → ListedSite → Option ListedSite
if_next sites n site =
    if n == length sites + 1 && fits sites site.place then Some site else None

-- the next site, after these, by the words of its line
unfoldable pub next_site : List ListedSite → List (List ℕ) → Option ListedSite
next_site sites words = do
  found ← site_in words
  if_next sites found.0 found.1

-- the lines begin with those of these sites, and these are left
pub record BeginsSites (all : List (List ℕ)) (said : List ListedSite) (rest : List (List ℕ)) :
    Type 0 where
  pub named : List (List ℕ)
  pub is : all ≡ named ++ rest
  pub sites : AreSites named said

-- and the next line is of no further site
pub record HasSites (all : List (List ℕ)) (said : List ListedSite) (rest : List (List ℕ)) :
    Type 0 where
  pub named : List (List ℕ)
  pub is : all ≡ named ++ rest
  pub sites : AreSites named said
  pub no_more : (line : List ℕ) (later : List (List ℕ)) (more : List ListedSite)
      → rest ≡ line ∷ later → ¬ AreSites (named ++ line ∷ []) more
