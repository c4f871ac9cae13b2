-- The algorithms of the manifests of a tree, by their names. The answer about a bag needs no digest
-- by another algorithm: `named_law` says so.
use Rattle.std.specs.Prelude.{ℕ, Bool, if◌then◌else◌, List, map, None}
use Rattle.std.specs.List.{list_any}
use Rattle.std.specs.Str.{bytes_eq}
use Rattle.bag_text.specs.declared.algorithm.Algorithm.{Algorithm}
use Rattle.bag_text.specs.declared.algorithm.Algorithm.TheVariants.{Md5, Sha1, Sha256, Sha512}
use Rattle.bag_tree.specs.declared.algorithms.Algorithms.{Algorithms}
use Rattle.bag_tree.specs.declared.digests.Digests.{Digests}
use Rattle.bag_tree.specs.Tree.{Files, payload_exists}
use Rattle.bag_tree.specs.Facts.{FileFact, TreeFacts, fact_by}
use Rattle.bag_check.specs.Manifests.{kinds, manifest_name}

-- ---- what is asked for

-- the path is the name of a manifest of this algorithm, of either kind
unfoldable pub asks : Algorithm → List ℕ → Bool
asks algorithm path = list_any (λ kind. bytes_eq path (manifest_name kind algorithm)) kinds

-- the algorithm for which it is the name of a manifest, or none
abbrev pub asked_by : List ℕ → Algorithms
asked_by path = record {
  md5 = asks Md5 path;
  sha1 = asks Sha1 path;
  sha256 = asks Sha256 path;
  sha512 = asks Sha512 path;
}

-- the algorithms for which one of these paths is the name of a manifest
abbrev pub named_of : List (List ℕ) → Algorithms
named_of paths = record {
  md5 = list_any (asks Md5) paths;
  sha1 = list_any (asks Sha1) paths;
  sha256 = list_any (asks Sha256) paths;
  sha512 = list_any (asks Sha512) paths;
}

-- ---- facts without what isn't asked for

-- the digests that are wanted; an unknown one stays unknown
abbrev pub only : Algorithms → Digests → Digests
only wanted digests = record {
  md5 = if wanted.md5 then digests.md5 else None;
  sha1 = if wanted.sha1 then digests.sha1 else None;
  sha256 = if wanted.sha256 then digests.sha256 else None;
  sha512 = if wanted.sha512 then digests.sha512 else None;
}

abbrev pub with_only : Algorithms → FileFact → FileFact
with_only wanted file = record {
  path = file.path;
  digests = only wanted file.digests;
  text = file.text;
}

-- the facts without the digests that none of the tree's manifests asks for
abbrev pub only_named : TreeFacts → TreeFacts
only_named facts = record {
  files = map (with_only (named_of (map (λ file. file.path) facts.files))) facts.files;
  payload = facts.payload;
}

-- what is known of a tree if only those digests were computed that its manifests ask for
abbrev pub named_facts_of : Files → TreeFacts
named_facts_of tree = record {
  files = map (fact_by (named_of (map (λ file. file.path) tree.files))) tree.files;
  payload = payload_exists tree;
}
