-- The lines of a members file, each by its words.
use Rattle.std.specs.Prelude.{ℕ, List, [], ◌∷◌, codes, if◌then◌else◌, Option, Some, None}
use Rattle.std.specs.Str.{bytes_eq}
use Rattle.fed_types.specs.Limits.{greatest_federation, greatest_weight}
use Rattle.tokens.specs.Words.{◌>>=◌, number_in}
use Rattle.members_file.specs.declared.listed_site.ListedSite.{ListedSite}
use Rattle.members_file.specs.declared.place.Place.{Place}
use Rattle.members_file.specs.Limits.{most_sites}
use Rattle.members_file.specs.Places.{place_in}

-- F, of `federation F`
unfoldable pub federation_in : List (List ℕ) → Option ℕ
federation_in (name ∷ federation ∷ []) =
    if bytes_eq name (codes "federation")
    then number_in 0 greatest_federation federation
    else None
federation_in words = None

-- the weight that the last words of a site's line name: WEIGHT, or 1 where there is none
unfoldable pub weight_in : List (List ℕ) → Option ℕ
weight_in [] = Some 1
weight_in (weight ∷ []) = number_in 1 greatest_weight weight
weight_in words = None

-- the site of this place and this weight
abbrev pub listed : Place → ℕ → ListedSite
listed place weight = record { place = place; weight = weight }

-- a site's number and the site, if there are its number, its place and its weight
abbrev pub site_of : Option ℕ → Option Place → Option ℕ → Option (ℕ × ListedSite)
site_of number place weight = do
  n ← number
  p ← place
  w ← weight
  Some (n, listed p w)

-- N, and PLACE with the weight, of `site N PLACE` or `site N PLACE WEIGHT`
unfoldable pub site_in : List (List ℕ) → Option (ℕ × ListedSite)
site_in (name ∷ site ∷ place ∷ weight) =
    if bytes_eq name (codes "site")
    then site_of (number_in 1 most_sites site) (place_in place) (weight_in weight)
    else None
site_in words = None
