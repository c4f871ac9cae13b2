-- The facts of files one after another, with the digests that their manifests name.
use Rattle.std.proofs.Common.{◌≡◌, ℕ, List, [], ◌∷◌, ◌++◌, map, refl}
use Rattle.std.proofs.lemmas.List.{map-append}
use Rattle.bag_tree.specs.declared.algorithms.Algorithms.{Algorithms}
use Rattle.bag_tree.specs.Algorithms.{no_algorithms}
use Rattle.bag_tree.specs.Tree.{File}
use Rattle.bag_tree.specs.Facts.{FileFact, fact_by}
use Rattle.bag_folders.specs.Disk.{IsFactBy}

-- these are the facts of files of these paths
pub record AreFactsBy (wanted : Algorithms) (paths : List (List ℕ)) (facts : List FileFact)
    : Type 0 where
  pub files : List File
  pub named : map (λ file. file.path) files ≡ paths
  pub hashed : facts ≡ map (fact_by wanted) files

-- a file more was hashed
pub fact_more : (wanted : Algorithms) (paths : List (List ℕ)) (facts : List FileFact)
    (path : List ℕ) (fact : FileFact) → AreFactsBy wanted paths facts → IsFactBy wanted path fact
    → AreFactsBy wanted (paths ++ path ∷ []) (facts ++ fact ∷ [])
fact_more wanted paths facts path fact are (bytes, is) =
    let file : File = record { path = path; bytes = bytes } in record {
      files = are.files ++ file ∷ [];
      named = rw (map-append (λ (f : File). f.path) are.files (file ∷ []), are.named) refl;
      hashed = rw (map-append (fact_by wanted) are.files (file ∷ []), are.hashed, is) refl;
    }

-- these are the facts of some files, without any digest
pub record AreBare (facts : List FileFact) : Type 0 where
  pub files : List File
  pub bare : facts ≡ map (fact_by no_algorithms) files

-- a file more was listed
pub bare_more : (facts : List FileFact) (path : List ℕ) (fact : FileFact) → AreBare facts
    → IsFactBy no_algorithms path fact → AreBare (facts ++ fact ∷ [])
bare_more facts path fact are (bytes, is) =
    let file : File = record { path = path; bytes = bytes } in record {
      files = are.files ++ file ∷ [];
      bare = rw (map-append (fact_by no_algorithms) are.files (file ∷ []), are.bare, is) refl;
    }
