-- What the manifests of a tree list, line by line.
use Rattle.std.specs.Prelude.{ℕ, List, [], ◌∷◌, map}
use Rattle.bag_text.specs.declared.algorithm.Algorithm.{Algorithm}
use Rattle.bag_text.specs.Lines.{lines_of}
use Rattle.bag_tree.specs.Facts.{FileFact}
use Rattle.bag_check.specs.declared.manifests.Kind.{Kind}
use Rattle.bag_check.specs.Manifests.{Manifest, manifests_of}
use Rattle.bag_explain.specs.Lines.{NumberedFile, numbered_from, malformed_from}

-- a manifest: the numbers of its malformed lines, and what its lines list where none is malformed
pub record NumberedListing : Type 0 where
  pub kind : Kind
  pub algorithm : Algorithm
  pub malformed : List ℕ
  pub files : List NumberedFile

-- the list, unless there are malformed lines: what a manifest with such a line lists doesn't matter
abbrev pub unless_malformed : {X : Type 0} → List ℕ → List X → List X
unless_malformed [] xs = xs
unless_malformed (line ∷ lines) xs = []

abbrev pub listing_by : Manifest → List ℕ → List NumberedFile → NumberedListing
listing_by manifest malformed files = record {
  kind = manifest.kind;
  algorithm = manifest.algorithm;
  malformed = malformed;
  files = unless_malformed malformed files;
}

unfoldable pub listing_of : Manifest → NumberedListing
listing_of manifest =
    listing_by manifest (malformed_from manifest.algorithm 1 (lines_of manifest.text))
    (numbered_from manifest.algorithm 1 (lines_of manifest.text))

-- what the manifests among these files list, payload manifests first
unfoldable pub listings_of : List FileFact → List NumberedListing
listings_of files = map listing_of (manifests_of files)
