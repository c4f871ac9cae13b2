-- What a `Digester` keeps of the bytes that came so far.
use Rattle.std.specs.Prelude.{ℕ, Bool, true, false, List}
use Rattle.md5.specs.Md5 as M
use Rattle.md5.specs.declared.Md5.{Md5}
use Rattle.sha1.specs.Sha1 as S
use Rattle.sha1.specs.declared.Sha1.{Sha1}
use Rattle.sha2.specs.Hashers.{Holds256, Holds512}
use Rattle.sha2.specs.declared.Sha256.{Sha256}
use Rattle.sha2.specs.declared.Sha512.{Sha512}
use Rattle.bag_tree.specs.declared.algorithms.Algorithms.{Algorithms}

-- the fact, asked only where the test holds
abbrev pub Where : Bool → Type 0 → Type 0
Where true fact = fact
Where false fact = Unit {0}

-- the wanted hash functions have taken these bytes
abbrev pub HaveTaken : Algorithms → Md5 → Sha1 → Sha256 → Sha512 → List ℕ → Type 0
HaveTaken wanted md5 sha1 sha256 sha512 bytes =
    Where wanted.md5 (M.Holds md5 bytes) × Where wanted.sha1 (S.Holds sha1 bytes)
    × Where wanted.sha256 (Holds256 sha256 bytes) × Where wanted.sha512 (Holds512 sha512 bytes)
