-- The digests of bytes by an algorithm, among those that are known of them.
use Rattle.std.proofs.Common.{◌≡◌, ℕ, Bool, true, false, cond, List, Some, None, refl}
use Rattle.md5.specs.Md5.{md5}
use Rattle.sha1.specs.Sha1.{sha1}
use Rattle.sha2.specs.Sha256.{sha256}
use Rattle.sha2.specs.Sha512.{sha512}
use Rattle.bag_text.specs.declared.algorithm.Algorithm.{Algorithm}
use Rattle.bag_text.specs.declared.algorithm.Algorithm.TheVariants.{Md5, Sha1, Sha256, Sha512}
use Rattle.bag_tree.specs.declared.algorithms.Algorithms.{Algorithms}
use Rattle.bag_tree.specs.Algorithms.{has_algorithm}
use Rattle.bag_tree.specs.Digests.{digests_by, digests_of, digest_by}

known : (is : Bool) (digest other : List ℕ) → cond is (Some digest) None ≡ Some other
    → Some digest ≡ Some other
known true digest other h = h
known false digest other h = absurd (cc h)

-- a digest that is known is that of the bytes
pub of_computed : (by : Algorithms) (algorithm : Algorithm) (bytes digest : List ℕ)
    → digest_by algorithm (digests_by by bytes) ≡ Some digest
    → digest_by algorithm (digests_of bytes) ≡ Some digest
of_computed by Md5 bytes digest h = known by.md5 (md5 bytes) digest h
of_computed by Sha1 bytes digest h = known by.sha1 (sha1 bytes) digest h
of_computed by Sha256 bytes digest h = known by.sha256 (sha256 bytes) digest h
of_computed by Sha512 bytes digest h = known by.sha512 (sha512 bytes) digest h

-- a digest that is wanted is that of the bytes
pub of_wanted : (wanted : Algorithms) (algorithm : Algorithm) (bytes : List ℕ)
    → has_algorithm algorithm wanted ≡ true
    → digest_by algorithm (digests_by wanted bytes) ≡ digest_by algorithm (digests_of bytes)
of_wanted wanted Md5 bytes h = rw h refl
of_wanted wanted Sha1 bytes h = rw h refl
of_wanted wanted Sha256 bytes h = rw h refl
of_wanted wanted Sha512 bytes h = rw h refl
