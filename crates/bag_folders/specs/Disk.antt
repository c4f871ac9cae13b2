-- What is known of the facts that a disk gives, though no contract knows its bytes.
use Rattle.std.specs.Prelude.{◌≡◌, ◌⊎◌, ℕ, Bool, true, false, List, map, IsTrue}
use Rattle.std.specs.Prelude.{Option, Some, None, is_err}
use Rattle.bag_tree.specs.declared.algorithms.Algorithms.{Algorithms}
use Rattle.bag_tree.specs.Algorithms.{no_algorithms}
use Rattle.bag_tree.specs.Tree.{File}
use Rattle.bag_tree.specs.Facts.{FileFact, TreeFacts, fact_by}
use Rattle.bag_check.specs.declared.fault.BagFault.{BagFault}
use Rattle.bag_check.specs.declared.fault.BagFault.TheVariants.{WrongDigest, Memory}
use Rattle.bag_check.specs.Check.{check_of, first_fault}
use Rattle.bag_check.specs.Named.{named_of}

-- it is the fact of a file of this path and of some bytes: it has the digests of these bytes by the
-- algorithms that are wanted, and no other
abbrev pub IsFactBy : Algorithms → List ℕ → FileFact → Type 0
IsFactBy wanted path fact =
    (bytes : List ℕ) × (fact ≡ fact_by wanted (record { path = path; bytes = bytes }))

-- they are the facts of some files: each has the digests by the algorithms that the manifests among
-- these files name, and no other
abbrev pub HasNamedDigests : TreeFacts → Type 0
HasNamedDigests facts = (files : List File)
    × (facts.files ≡ map (fact_by (named_of (map (λ file. file.path) files))) files)

-- ---- what is known before any file is read but the texts that describe the bag

-- the fault shows in these texts and in the list of the files: it is any but a wrong digest
abbrev pub shows : BagFault → Bool
shows WrongDigest = false
shows Memory = false
shows fault = true

-- there is a first fault, and it shows so
abbrev pub is_shown : Option BagFault → Bool
is_shown None = false
is_shown (Some fault) = shows fault

-- they are the facts of some files, with no digest of any
abbrev pub HasNoDigests : TreeFacts → Type 0
HasNoDigests facts =
    (files : List File) × (facts.files ≡ map (fact_by no_algorithms) files)

-- no digest is needed: the first fault shows without one
pub record NeedsNoDigest (facts : TreeFacts) : Type 0 where
  pub bare : HasNoDigests facts
  pub faulty : IsTrue (is_shown (first_fault facts))

-- they have the digests that the answer about the bag needs: `needed_law` says so
abbrev pub HasNeededDigests : TreeFacts → Type 0
HasNeededDigests facts = HasNamedDigests facts ⊎ NeedsNoDigest facts

-- a check refuses the bag of these facts
abbrev pub IsRefused : TreeFacts → Type 0
IsRefused facts = IsTrue (is_err (check_of facts))

-- They have the digests that the answer needs; or they take the place of a bag that was refused,
-- and is refused again.
abbrev pub IsKnownOrRefused : TreeFacts → Type 0
IsKnownOrRefused facts = HasNeededDigests facts ⊎ IsRefused facts

-- what is known of files whose digests by these algorithms are wanted
abbrev pub facts_by : Algorithms → List File → Bool → TreeFacts
facts_by wanted files payload = record { files = map (fact_by wanted) files; payload = payload }
