-- The digests of bytes, by the algorithms that manifests may use.
use Rattle.std.specs.Prelude.{ℕ, Bool, false, if◌then◌else◌, List, [], ◌++◌}
use Rattle.std.specs.Prelude.{Option, Some, None}
use Rattle.std.specs.Str.{bytes_eq}
use Rattle.md5.specs.Md5.{md5}
use Rattle.sha1.specs.Sha1.{sha1}
use Rattle.sha2.specs.Sha256.{sha256}
use Rattle.sha2.specs.Sha512.{sha512}
use Rattle.bag_text.specs.declared.algorithm.Algorithm.{Algorithm}
use Rattle.bag_text.specs.declared.algorithm.Algorithm.TheVariants.{Md5, Sha1, Sha256, Sha512}
use Rattle.bag_tree.specs.declared.algorithms.Algorithms.{Algorithms}
use Rattle.bag_tree.specs.declared.digests.Digests.{Digests}
use Rattle.bag_tree.specs.Algorithms.{all_algorithms}

-- the wanted digests of a file's bytes, and no other (RFC 1321, FIPS 180-4)
abbrev pub digests_by : Algorithms → List ℕ → Digests
digests_by wanted bytes = record {
  md5 = if wanted.md5 then Some (md5 bytes) else None;
  sha1 = if wanted.sha1 then Some (sha1 bytes) else None;
  sha256 = if wanted.sha256 then Some (sha256 bytes) else None;
  sha512 = if wanted.sha512 then Some (sha512 bytes) else None;
}

-- all digests of a file's bytes
abbrev pub digests_of : List ℕ → Digests
digests_of bytes = digests_by all_algorithms bytes

-- the digest by an algorithm, where it is there
abbrev pub digest_by : Algorithm → Digests → Option (List ℕ)
digest_by Md5 digests = digests.md5
digest_by Sha1 digests = digests.sha1
digest_by Sha256 digests = digests.sha256
digest_by Sha512 digests = digests.sha512

-- the digest is known, and is this one
abbrev pub is_digest : List ℕ → Option (List ℕ) → Bool
is_digest digest None = false
is_digest digest (Some known) = bytes_eq known digest

-- what a digester was fed: the bytes so far, and which of their digests are wanted
pub record Feed : Type 0 where
  pub wanted : Algorithms
  pub bytes : List ℕ

-- nothing yet
abbrev pub nothing_fed : Algorithms → Feed
nothing_fed wanted = record { wanted = wanted; bytes = [] }

-- the next bytes
abbrev pub fed_with : Feed → List ℕ → Feed
fed_with feed piece = record { wanted = feed.wanted; bytes = feed.bytes ++ piece }
