-- Sets of the algorithms that manifests may use.
use Rattle.std.specs.Prelude.{Bool, true, false, ◌||◌, ◌&&◌}
use Rattle.bag_text.specs.declared.algorithm.Algorithm.{Algorithm}
use Rattle.bag_text.specs.declared.algorithm.Algorithm.TheVariants.{Md5, Sha1, Sha256, Sha512}
use Rattle.bag_tree.specs.declared.algorithms.Algorithms.{Algorithms}

-- each of the four
abbrev pub all_algorithms : Algorithms
all_algorithms = record { md5 = true; sha1 = true; sha256 = true; sha512 = true }

abbrev pub no_algorithms : Algorithms
no_algorithms = record { md5 = false; sha1 = false; sha256 = false; sha512 = false }

-- the set has this algorithm
abbrev pub has_algorithm : Algorithm → Algorithms → Bool
has_algorithm Md5 set = set.md5
has_algorithm Sha1 set = set.sha1
has_algorithm Sha256 set = set.sha256
has_algorithm Sha512 set = set.sha512

-- the algorithms of either set
abbrev pub either_of : Algorithms → Algorithms → Algorithms
either_of a b = record {
  md5 = a.md5 || b.md5;
  sha1 = a.sha1 || b.sha1;
  sha256 = a.sha256 || b.sha256;
  sha512 = a.sha512 || b.sha512;
}

-- the algorithms of both sets
abbrev pub both_of : Algorithms → Algorithms → Algorithms
both_of a b = record {
  md5 = a.md5 && b.md5;
  sha1 = a.sha1 && b.sha1;
  sha256 = a.sha256 && b.sha256;
  sha512 = a.sha512 && b.sha512;
}
