-- Why the places of two sites can't stand in one file.
use Rattle.std.specs.Prelude.{ℕ, ◌==◌, not, if◌then◌else◌, List, ◌++◌, codes, Option, None, Some}
use Rattle.std.specs.Fmt.{decimal}
use Rattle.members_file.specs.declared.place.Place.{Place}
use Rattle.members_file.specs.declared.place.PlaceKind.{PlaceKind}
use Rattle.members_file.specs.declared.place.PlaceKind.TheVariants.{Port, Ipv4, Ipv6}
use Rattle.members_file.specs.Places.{address_at, kind_of, same_kind}

-- a place of this kind
abbrev pub kind_name : PlaceKind → List ℕ
kind_name Port = codes "a port of this machine"
kind_name Ipv4 = codes "an address of IPv4"
kind_name Ipv6 = codes "an address of IPv6"

-- what no two sites share
abbrev pub shared_name : PlaceKind → List ℕ
shared_name Port = codes "port"
shared_name Ipv4 = codes "address"
shared_name Ipv6 = codes "address"

-- that places are of two kinds
abbrev pub kinds_words : (site : ℕ) → (earlier kind : PlaceKind) → List ℕ
kinds_words site earlier kind =
    codes "site " ++ (decimal site ++ (codes " has " ++ (kind_name earlier
    ++ (codes ", and this one " ++ (kind_name kind
    ++ codes "; all sites of a file have one or the other")))))

-- that two places of a kind are one
abbrev pub same_words : (site : ℕ) → (kind : PlaceKind) → List ℕ
same_words site kind =
    codes "that is the " ++ (shared_name kind ++ (codes " of site " ++ (decimal site
    ++ codes ", and each has its own")))

-- why a place doesn't go with that of this earlier site, if it doesn't
abbrev pub pair_fault : (site : ℕ) → (earlier place : Place) → Option (List ℕ)
pair_fault site earlier place =
    if not (same_kind (kind_of earlier) (kind_of place))
    then Some (kinds_words site (kind_of earlier) (kind_of place))
    else if address_at earlier == address_at place then Some (same_words site (kind_of place))
    else None
