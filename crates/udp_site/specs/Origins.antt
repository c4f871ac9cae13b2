-- From where a message between sites counts.
use Rattle.std.specs.Prelude.{ℕ, ◌-◌, ◌==◌, ◌||◌, ◌&&◌, not, Bool, true, false, if◌then◌else◌}
use Rattle.std.specs.Prelude.{List, [], Option, Some, None, get_or, slice_get}
use Rattle.addresses.specs.Addresses.{is_on_this_machine}
use Rattle.tags.specs.Rings.{is_between_sites}
use Rattle.udp_site.specs.declared.origins.Origins.{Origins}
use Rattle.udp_site.specs.declared.origins.Origins.TheVariants.{ThisMachine, Anywhere, Sites}

-- the place of the byte of the site that sends a message (the kinds 1 to 7)
abbrev pub SENDER_PLACE : ℕ
SENDER_PLACE = 12

-- it, or 0 where there is none
abbrev pub sender_byte : List ℕ → ℕ
sender_byte bytes = get_or bytes SENDER_PLACE 0

-- it is this address
abbrev pub is_this : Option ℕ → (from : ℕ) → Bool
is_this None from = false
is_this (Some address) from = address == from

-- this is the address of this site: that of site 1 is first, and none has the number 0
abbrev pub comes_from : (addresses : List ℕ) → (from site : ℕ) → Bool
comes_from addresses from site =
    not (site == 0) && is_this (slice_get addresses (site - 1)) from

-- a datagram from this address is passed over, as if it hadn't come
abbrev pub passes_over : Origins → (from : ℕ) → Bool
passes_over ThisMachine from = not (is_on_this_machine from)
passes_over Anywhere from = false
passes_over (Sites addresses) from = false

-- A datagram from this address counts. Where the sites' addresses are given, a message between
-- sites counts only from the address of the one that sends it.
abbrev pub counts : Origins → (from : ℕ) → List ℕ → Bool
counts ThisMachine from bytes = true
counts Anywhere from bytes = true
counts (Sites addresses) from bytes =
    not (is_between_sites bytes) || comes_from addresses.items from (sender_byte bytes)

-- what is handed on of a datagram from this address: all of it, or no bytes where it doesn't count
abbrev pub counted : Origins → (from : ℕ) → List ℕ → List ℕ
counted origins from bytes = if counts origins from bytes then bytes else []
