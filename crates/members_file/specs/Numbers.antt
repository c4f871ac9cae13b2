-- The number of a federation that comes from its list of sites, and the digest of a members file.
-- Digests are of SHA-256 (FIPS 180-4). A number is 8 bytes, the most significant first.
use Rattle.std.specs.Prelude.{◌≡◌, ◌<◌, ℕ, ◌==◌, ◌||◌, ◌&&◌, not, Bool, List, ◌++◌, length, take}
use Rattle.std.specs.Prelude.{All}
use Rattle.std.specs.Int.{w64, to_be_bytes, from_be_bytes}
use Rattle.sha2.specs.Sha256.{sha256}
use Rattle.members_file.specs.declared.listed_site.ListedSite.{ListedSite}
use Rattle.members_file.specs.declared.text.Weights.TheVariants as weights
use Rattle.members_file.specs.Files.{MembersFile, names_addresses, weights_of}
use Rattle.members_file.specs.Texts.{lines_of, text_of}

-- ---- new federations

-- What the lower half of a number is the digest of: the upper half, which is 4 bytes, the number of
-- sites in 8 bytes, and the weight of each in a byte, that of site 1 first. No port or
-- address is in it, since no promise rests on these.
unfoldable pub weighed : (upper : List ℕ) → (weights : List ℕ) → List ℕ
weighed upper weights = upper ++ to_be_bytes w64 (length weights) ++ weights

-- the lower half: the first 4 bytes of the digest
unfoldable pub lower_half : (upper : List ℕ) → (weights : List ℕ) → List ℕ
lower_half upper weights = take 4 (sha256 (weighed upper weights))

-- the number of a new federation: its upper half is four random bytes
unfoldable pub new_number : (random : List ℕ) → (weights : List ℕ) → ℕ
new_number random weights = from_be_bytes w64 (random ++ lower_half random weights)

-- as these are
abbrev pub AreFourBytes : List ℕ → Type 0
AreFourBytes bytes = (length bytes ≡ 4) × All (λ b. b < 256) bytes

-- the upper half of a number
unfoldable pub upper_half : ℕ → List ℕ
upper_half federation = take 4 (to_be_bytes w64 federation)

-- ---- federations of before

-- the first 8 bytes of a text's digest
unfoldable pub digest_of_text : List ℕ → ℕ
digest_of_text text = from_be_bytes w64 (take 8 (sha256 text))

-- the number was that of the lines of the sites, ports and all
unfoldable pub old_number : List ListedSite → ℕ
old_number sites = digest_of_text (lines_of weights.All sites)

-- ---- files

-- the number comes from the list: the lower half from the upper half and the number and weights of
-- the sites; or, where the sites have ports alone, it is the number by the earlier rule
unfoldable pub is_listed : MembersFile → Bool
is_listed file =
    file.federation == new_number (upper_half file.federation) (weights_of file.sites)
    || (not (names_addresses file.sites) && file.federation == old_number file.sites)

-- the digest of what a file says, of the whole text with every weight
unfoldable pub digest_of : MembersFile → ℕ
digest_of file = digest_of_text (text_of weights.All file.federation file.sites)
