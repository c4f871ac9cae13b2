-- Members files as they are written.
use Rattle.std.specs.Prelude.{ℕ, ◌+◌, ◌==◌, List, [], ◌∷◌, ◌++◌, codes, if◌then◌else◌}
use Rattle.std.specs.Fmt.{decimal}
use Rattle.members_file.specs.declared.listed_site.ListedSite.{ListedSite}
use Rattle.members_file.specs.declared.text.Weights.{Weights}
use Rattle.members_file.specs.Places.{place_text}
use Rattle.members_file.specs.declared.text.Weights.TheVariants.{All, Greater}

-- `federation F`
abbrev pub federation_line : ℕ → List ℕ
federation_line federation = codes "federation " ++ decimal federation ++ 10 ∷ []

-- `site N PLACE WEIGHT`
abbrev pub whole_line : ℕ → ListedSite → List ℕ
whole_line n site =
    codes "site " ++ decimal n ++ 32 ∷ place_text site.place ++ 32 ∷ decimal site.weight ++ 10 ∷ []

-- `site N PLACE`
abbrev pub short_line : ℕ → ListedSite → List ℕ
short_line n site = codes "site " ++ decimal n ++ 32 ∷ place_text site.place ++ 10 ∷ []

-- the line of site n, with its weight, or only where that is over 1
abbrev pub line_of : Weights → ℕ → ListedSite → List ℕ
line_of All n site = whole_line n site
line_of Greater n site = if site.weight == 1 then short_line n site else whole_line n site

-- the lines of the sites n, n + 1 and so on
abbrev pub lines_from : Weights → ℕ → List ListedSite → List ℕ
lines_from weights n [] = []
lines_from weights n (site ∷ sites) = line_of weights n site ++ lines_from weights (n + 1) sites

-- the lines of all sites
unfoldable pub lines_of : Weights → List ListedSite → List ℕ
lines_of weights sites = lines_from weights 1 sites

-- the file of a federation with these sites
unfoldable pub text_of : Weights → ℕ → List ListedSite → List ℕ
text_of weights federation sites = federation_line federation ++ lines_of weights sites
