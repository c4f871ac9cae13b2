-- Where a members file has a site: at a port of this machine, or at an address.
use Rattle.std.specs.Prelude.{◌≡◌, ◌≢◌, ℕ, ◌<◌, ◌≤◌, Bool, true, false, if◌then◌else◌}
use Rattle.std.specs.Prelude.{List, Option, Some, None}
use Rattle.std.specs.Fmt.{decimal}
use Rattle.addresses.specs.Addresses.{at_port}
use Rattle.addresses.specs.Texts.{ADDRESSES, address_in, is_ipv4, is_listable, text_of}
use Rattle.tokens.specs.Words.{number_in}
use Rattle.members_file.specs.declared.place.Place.{Place}
use Rattle.members_file.specs.declared.place.Place.TheVariants as place
use Rattle.members_file.specs.declared.place.PlaceKind.{PlaceKind}
use Rattle.members_file.specs.declared.place.PlaceKind.TheVariants as kind
use Rattle.members_file.specs.Limits.{greatest_port}

-- the address: that of a port is of 127.0.0.1
abbrev pub address_at : Place → ℕ
address_at (place.Port port) = at_port port
address_at (place.Address address) = address

-- how it is written: as a port, or as an address of a family
abbrev pub kind_of : Place → PlaceKind
kind_of (place.Port port) = kind.Port
kind_of (place.Address address) = if is_ipv4 address then kind.Ipv4 else kind.Ipv6

-- whether two are written in one way
abbrev pub same_kind : PlaceKind → PlaceKind → Bool
same_kind kind.Port kind.Port = true
same_kind kind.Ipv4 kind.Ipv4 = true
same_kind kind.Ipv6 kind.Ipv6 = true
same_kind a b = false

-- one file may have both: they are written in one way, and aren't one address
abbrev pub GoTogether : Place → Place → Type 0
GoTogether a b = (kind_of a ≡ kind_of b) × (address_at a ≢ address_at b)

-- whether it is an address
abbrev pub is_address : Place → Bool
is_address (place.Port port) = false
is_address (place.Address address) = true

-- what is true of the places in a members file
abbrev pub IsPlace : Place → Type 0
IsPlace (place.Port port) = (1 ≤ port) × (port ≤ greatest_port)
IsPlace (place.Address address) = (address < ADDRESSES) × (is_listable address ≡ true)

-- PORT, or ADDRESS:PORT
abbrev pub place_text : Place → List ℕ
place_text (place.Port port) = decimal port
place_text (place.Address address) = text_of address

-- the place of a number, or else of an address
abbrev pub place_of : Option ℕ → Option ℕ → Option Place
place_of (Some port) address = Some (place.Port port)
place_of None (Some address) = Some (place.Address address)
place_of None None = None

-- the place that a word names
unfoldable pub place_in : List ℕ → Option Place
place_in word = place_of (number_in 1 greatest_port word) (address_in word)
