-- What the digest algorithms are called, and how long their digests are.
use Rattle.std.specs.Prelude.{ℕ, ◌*◌, List, codes}
use Rattle.bag_text.specs.declared.algorithm.Algorithm.{Algorithm}
use Rattle.bag_text.specs.declared.algorithm.Algorithm.TheVariants.{Md5, Sha1, Sha256, Sha512}

-- the bytes of a digest (RFC 1321; FIPS 180-4)
abbrev pub digest_len : Algorithm → ℕ
digest_len Md5 = 16
digest_len Sha1 = 20
digest_len Sha256 = 32
digest_len Sha512 = 64

-- its hex digits
abbrev pub hex_len : Algorithm → ℕ
hex_len algorithm = 2 * digest_len algorithm

-- the name as in `manifest-sha512.txt` (RFC 8493, 2.4)
abbrev pub algorithm_name : Algorithm → List ℕ
algorithm_name Md5 = codes "md5"
algorithm_name Sha1 = codes "sha1"
algorithm_name Sha256 = codes "sha256"
algorithm_name Sha512 = codes "sha512"
