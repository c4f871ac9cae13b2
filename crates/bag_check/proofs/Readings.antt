-- Reading manifests, one manifest on.
use Rattle.std.proofs.Common.{◌≡◌, ℕ, ◌+◌, ◌<◌, ◌||◌, List, [], ◌∷◌, ◌++◌, length, take, drop}
use Rattle.std.proofs.Common.{get_or, Some, None, Result, Ok, Err, refl, sym, ap, append_assoc}
use Rattle.std.proofs.Common.{append-nil}
use Rattle.std.specs.List.{flat_map}
use Rattle.std.specs.Result.{IsErrAnd, IfErr}
use Rattle.std.proofs.Math.Bool.{or-true}
use Rattle.std.proofs.lemmas.Grind.{flat_map-append}
use Rattle.std.proofs.lemmas.List.{take_more, take-append-drop}
use Rattle.std.proofs.lemmas.List.Folds.{list_any-append}
use Rattle.bag_text.specs.declared.algorithm.Algorithm.{Algorithm}
use Rattle.bag_text.specs.ListedFile.{ListedFile}
use Rattle.bag_text.specs.Readers.{entries_of}
use Rattle.bag_tree.specs.Facts.{FileFact}
use Rattle.bag_check.specs.declared.fault.BagFault.{BagFault}
use Rattle.bag_check.specs.declared.fault.BagFault.TheVariants.{MalformedLine, Memory}
use Rattle.bag_check.specs.declared.manifests.Kind.{Kind}
use Rattle.bag_check.specs.declared.manifests.Kind.TheVariants.{Payload, Tag}
use Rattle.bag_check.specs.Manifests.{Manifest, text_at, manifest_name, manifest_at}
use Rattle.bag_check.specs.Manifests.{manifests_of_kind, manifests_of, is_malformed, entries}
use Rattle.bag_check.specs.inner.Order.{Listed, listed_in, listings, some_malformed, Reads}
use Rattle.bag_check.specs.inner.Order.{FailsToRead}

listings-append : (a b : List Manifest) → listings (a ++ b) ≡ listings a ++ listings b
unfolding listings
listings-append a b =
    flat_map-append (λ (m : Manifest). listed_in m.kind m.algorithm (entries m)) a b

some_malformed-append : (a b : List Manifest)
    → some_malformed (a ++ b) ≡ (some_malformed a || some_malformed b)
unfolding some_malformed
some_malformed-append a b = list_any-append (λ (m : Manifest). is_malformed (entries m)) a b

pub reads_none : (before : List Listed) → Reads [] before before
unfolding some_malformed listings
reads_none before = (refl, sym (append-nil before))

pub reads_both : (a b : List Manifest) (before between after : List Listed) → Reads a before between
    → Reads b between after → Reads (a ++ b) before after
reads_both a b before between after (sound, found) (sound_too, more) = (
  rw (some_malformed-append a b, sound) sound_too,
  rw (more, found, listings-append a b) (append_assoc before (listings a) (listings b)),
)

-- reading fails where reading a part fails
pub fails_first : (a b : List Manifest) (fault : BagFault) → FailsToRead a fault
    → FailsToRead (a ++ b) fault
fails_first a b Memory h = tt
fails_first a b MalformedLine h = rw (some_malformed-append a b, h) refl
fails_first a b fault h = absurd h

pub fails_second : (a b : List Manifest) (fault : BagFault) → FailsToRead b fault
    → FailsToRead (a ++ b) fault
fails_second a b Memory h = tt
fails_second a b MalformedLine h =
    rw (some_malformed-append a b, h) (or-true (some_malformed a))
fails_second a b fault h = absurd h

-- ---- the algorithms of one kind

abbrev pub manifests_by : Kind → List FileFact → List Algorithm → List Manifest
manifests_by kind files = flat_map (λ algorithm. manifest_at kind algorithm files)

module _ (kind : Kind) (files : List FileFact) (all : List Algorithm) (place : ℕ)
    (other : Algorithm) (within : place < length all) where
  abbrev algorithm : Algorithm
  algorithm = get_or all place other

  next : manifests_by kind files (take (place + 1) all)
      ≡ manifests_by kind files (take place all) ++ manifest_at kind algorithm files
  next =
      rw (
        take_more all place other within,
        flat_map-append (λ (a : Algorithm). manifest_at kind a files) (take place all)
            (algorithm ∷ []),
        append-nil (manifest_at kind algorithm files),
      ) refl

  pub read_next : (before between after : List Listed)
      → Reads (manifests_by kind files (take place all)) before between
      → Reads (manifest_at kind algorithm files) between after
      → Reads (manifests_by kind files (take (place + 1) all)) before after
  read_next before between after so_far now =
      rw next
      (reads_both (manifests_by kind files (take place all)) (manifest_at kind algorithm files)
      before between after so_far now)

  pub fails_here : (fault : BagFault) → FailsToRead (manifest_at kind algorithm files) fault
      → FailsToRead (manifests_by kind files all) fault
  fails_here fault h =
      let now =
      fails_second (manifests_by kind files (take place all)) (manifest_at kind algorithm files)
      fault h in
      rw (
        ← take-append-drop (place + 1) all,
        flat_map-append (λ (a : Algorithm). manifest_at kind a files) (take (place + 1) all)
            (drop (place + 1) all),
        next,
      )
      (fails_first (manifests_by kind files (take place all) ++ manifest_at kind algorithm files)
      (manifests_by kind files (drop (place + 1) all)) fault now)

pub of_both : (files : List FileFact)
    → manifests_of files ≡ manifests_of_kind Payload files ++ manifests_of_kind Tag files
unfolding manifests_of
of_both files =
    ap (λ x. manifests_of_kind Payload files ++ x) (append-nil (manifests_of_kind Tag files))

-- an error that a `?` hands on
pub handed_on : {X : Type 0} (answer : Result X BagFault) (fault : BagFault) (P : BagFault → Type 0)
    → IsErrAnd answer (λ other. other ≡ fault) → P fault → IfErr answer P
handed_on (Ok x) fault P is h = absurd is
handed_on (Err other) fault P is h = rw is h

-- ---- one manifest

pub no_manifest : (kind : Kind) (algorithm : Algorithm) (files : List FileFact)
    (before : List Listed) → text_at (manifest_name kind algorithm) files ≡ None
    → Reads (manifest_at kind algorithm files) before before
unfolding manifest_at
no_manifest kind algorithm files before h = rw h (reads_none before)

module _ (kind : Kind) (algorithm : Algorithm) (files : List FileFact) (text : List ℕ)
    (there : text_at (manifest_name kind algorithm) files ≡ Some text) where
  pub one_read : (found : List ListedFile) (before : List Listed)
      → entries_of algorithm text ≡ Ok found
      → Reads (manifest_at kind algorithm files) before
      (before ++ record { kind = kind; algorithm = algorithm; files = found } ∷ [])
  unfolding manifest_at some_malformed listings
  one_read found before read = rw there (rw read (refl, refl))

  pub one_malformed : (line : ℕ) → entries_of algorithm text ≡ Err line
      → FailsToRead (manifest_at kind algorithm files) MalformedLine
  unfolding manifest_at some_malformed
  one_malformed line read = rw there (rw read refl)
