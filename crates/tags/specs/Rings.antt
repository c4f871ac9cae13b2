-- The keys of a process, by the kinds of datagrams, and datagrams with tags by them.
use Rattle.std.specs.Prelude.{ℕ, ◌&&◌, nat_le, Bool, if◌then◌else◌}
use Rattle.std.specs.Prelude.{List, [], ◌∷◌, take, get_or, Option, Some, None}
use Rattle.std.specs.Int.{w32, from_be_bytes}
use Rattle.std.specs.List.{list_any}
use Rattle.sha2.specs.Sha256.{sha256}
use Rattle.tags.specs.Tags.{sealed, text_in, is_sealed}

-- The keys of messages between sites, and those of what clients ask and are answered, each as its
-- block. Of either the first is sent with, and all are taken.
pub record Ring : Type 0 where
  pub sites : List (List ℕ)
  pub clients : List (List ℕ)

-- the ring of these keys
abbrev pub ring_of : (sites clients : List (List ℕ)) → Ring
ring_of sites clients = record { sites = sites; clients = clients }

-- the place of the kind's byte in a datagram, and the greatest kind of a message between sites
abbrev pub KIND_PLACE : ℕ
KIND_PLACE = 3

abbrev pub GREATEST_SITE_KIND : ℕ
GREATEST_SITE_KIND = 15

-- a datagram is a message between sites, by its kind: 1 to 15
unfoldable pub is_between_sites : List ℕ → Bool
is_between_sites datagram =
    nat_le 1 (get_or datagram KIND_PLACE 0)
    && nat_le (get_or datagram KIND_PLACE 0) GREATEST_SITE_KIND

-- the keys for a datagram
unfoldable pub keys_for : Ring → List ℕ → List (List ℕ)
keys_for ring datagram = if is_between_sites datagram then ring.sites else ring.clients

-- a text with its tag by the first of these keys, if there is one
abbrev pub sealed_first : List (List ℕ) → List ℕ → Option (List ℕ)
sealed_first [] text = None
sealed_first (key ∷ keys) text = Some (sealed key text)

-- a datagram with its tag behind it, by the first key for it, if there is one
unfoldable pub sealed_by : Ring → List ℕ → Option (List ℕ)
sealed_by ring datagram = sealed_first (keys_for ring datagram) datagram

-- one of the keys for the datagram before the tag made the tag
unfoldable pub is_sealed_by : Ring → List ℕ → Bool
is_sealed_by ring bytes = list_any (λ key. is_sealed key bytes) (keys_for ring (text_in bytes))

-- the datagram before its tag, where that is right
unfoldable pub opened_by : Ring → List ℕ → Option (List ℕ)
opened_by ring bytes = if is_sealed_by ring bytes then Some (text_in bytes) else None

-- the name of a key: the first 4 bytes of the digest of its block, the most significant first
unfoldable pub name_of : List ℕ → ℕ
name_of block = from_be_bytes w32 (take 4 (sha256 block))

-- the names of these, if there are some of both kinds
abbrev pub first_names : (sites clients : List (List ℕ)) → Option (ℕ × ℕ)
first_names (site ∷ sites) (client ∷ clients) = Some (name_of site, name_of client)
first_names sites clients = None

-- the names of the keys that are sent with
abbrev pub names_of : Ring → Option (ℕ × ℕ)
names_of ring = first_names ring.sites ring.clients
