-- The checksum that follows a message's fields: the first 8 bytes of the SHA-256 (FIPS 180-4) of
-- all bytes before it.
use Rattle.std.specs.Prelude.{◌≡◌, ◌↔◌, ℕ, ◌-◌, List, ◌++◌, length, take, drop}
use Rattle.std.specs.Prelude.{Option, Some, None, nat_lt, bytes_eq, if◌then◌else◌}
use Rattle.sha2.specs.Sha256.{sha256}

-- the bytes of a checksum
abbrev pub checksum_len : ℕ
checksum_len = 8

-- the checksum of bytes
unfoldable pub checksum : List ℕ → List ℕ
checksum bytes = take checksum_len (sha256 bytes)

-- bytes, and their checksum
abbrev pub with_checksum : List ℕ → List ℕ
with_checksum bytes = bytes ++ checksum bytes

-- the place where a checksum that ends the bytes begins
abbrev pub before_checksum : List ℕ → ℕ
before_checksum bytes = length bytes - checksum_len

-- the bytes before the last 8, if these are their checksum
unfoldable pub without_checksum : List ℕ → Option (List ℕ)
without_checksum bytes =
    let front = take (before_checksum bytes) bytes in
    if nat_lt (length bytes) checksum_len then None else
    (if bytes_eq (drop (before_checksum bytes) bytes) (checksum front) then Some front else None)

-- a checksum has its length, whatever it is of
abbrev pub ChecksumsHaveTheirLength : Type 0
ChecksumsHaveTheirLength = (bytes : List ℕ) → length (checksum bytes) ≡ checksum_len

-- what is read is what was written, and nothing else is read
abbrev pub ChecksumsAreExact : Type 0
ChecksumsAreExact = (front bytes : List ℕ) → (without_checksum bytes ≡ Some front)
    ↔ (bytes ≡ with_checksum front)
