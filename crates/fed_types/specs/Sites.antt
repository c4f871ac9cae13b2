-- Site numbers, and the members of a federation with their weights.
use Rattle.std.specs.Prelude.{ℕ, zero, suc, ◌-◌, ◌≤◌, List, [], ◌∷◌, ◌++◌, length, slice_index}
use Rattle.std.specs.List.{All, Contains, sum_by}
use Rattle.fed_types.specs.Limits.{greatest_site, greatest_weight, most_members}

-- a site's number is 1 to the greatest
abbrev pub IsSiteNumber : ℕ → Type 0
IsSiteNumber n = (1 ≤ n) × (n ≤ greatest_site)

-- a federation by its number, and the weights of its members: the first is that of site 1
pub record Membership : Type 0 where
  pub federation : ℕ
  pub weights : List ℕ

-- the federation of this number with members of these weights
abbrev pub membership_of : ℕ → List ℕ → Membership
membership_of federation weights = record { federation = federation; weights = weights }

-- how many members there are
abbrev pub count_of : Membership → ℕ
count_of m = length m.weights

-- a federation has at least one member, and no more than the most
abbrev pub IsMemberCount : ℕ → Type 0
IsMemberCount n = (1 ≤ n) × (n ≤ most_members)

-- a weight is 1 to the greatest
abbrev pub IsWeight : ℕ → Type 0
IsWeight w = (1 ≤ w) × (w ≤ greatest_weight)

-- there are as many weights as a federation may have members: 1 to 63
abbrev pub CountFits : List ℕ → Type 0
CountFits weights = IsMemberCount (length weights)

-- there are as many weights as that, and one of them is 0
abbrev pub HasZeroWeight : List ℕ → Type 0
HasZeroWeight weights = CountFits weights × Contains weights 0

-- the weights of a federation's members
abbrev pub AreWeights : List ℕ → Type 0
AreWeights weights = CountFits weights × All IsWeight weights

-- the sites 1 to n, ascending
unfoldable pub sites_to : ℕ → List ℕ
sites_to zero = []
sites_to (suc n) = sites_to n ++ suc n ∷ []

-- the members: the sites 1 to their count
abbrev pub members_of : Membership → List ℕ
members_of m = sites_to (count_of m)

-- the weight of a site, by its number from 1 on; 0 where it is no member
abbrev pub weight_of : Membership → ℕ → ℕ
weight_of m site = slice_index m.weights (site - 1)

-- the weights of these sites, added
abbrev pub weight_sum : Membership → List ℕ → ℕ
weight_sum m sites = sum_by (weight_of m) sites
