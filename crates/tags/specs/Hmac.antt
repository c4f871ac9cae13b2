-- HMAC with SHA-256 (RFC 2104, 2; FIPS 198-1, 4).
use Rattle.std.specs.Prelude.{ℕ, ◌-◌, nat_lt, if◌then◌else◌, List, ◌++◌, length, map, replicate}
use Rattle.std.specs.Prelude.{bit_xor}
use Rattle.sha2.specs.Sha256.{sha256}

-- the bytes of a block of SHA-256
abbrev pub block_len : ℕ
block_len = 64

-- the bytes of a tag
abbrev pub tag_len : ℕ
tag_len = 32

-- a key that is longer than a block is hashed first
abbrev pub shortened : List ℕ → List ℕ
shortened key = if nat_lt block_len (length key) then sha256 key else key

-- the key as one block: zeros are behind it
unfoldable pub key_block : List ℕ → List ℕ
key_block key = shortened key ++ replicate (block_len - length (shortened key)) 0

-- each byte of the key's block, combined with the byte of a pad
abbrev pub padded : ℕ → List ℕ → List ℕ
padded pad block = map (λ byte. bit_xor byte pad) block

-- the tag of a text by the key with this block
unfoldable pub tag_by : List ℕ → List ℕ → List ℕ
tag_by block text = sha256 (padded 0x5C block ++ sha256 (padded 0x36 block ++ text))

-- the tag of a text by a key
abbrev pub hmac : List ℕ → List ℕ → List ℕ
hmac key text = tag_by (key_block key) text
