-- What a listing has is what its manifest lists.
use Rattle.std.proofs.Common.{◌≡◌, ℕ, List, [], ◌∷◌, Result, Ok, Err, refl, sym, ap, ◌∙◌, subst}
use Rattle.std.specs.Prelude.{Contains}
use Rattle.std.specs.List.{flat_map}
use Rattle.std.proofs.lemmas.List.Folds.{flat_map-map}
use Rattle.bag_text.specs.ListedFile.{ListedFile}
use Rattle.bag_text.specs.Lines.{lines_of}
use Rattle.bag_tree.specs.Facts.{FileFact}
use Rattle.bag_check.specs.Manifests.{Manifest, manifests_of, entries}
use Rattle.bag_explain.specs.Lines.{NumberedFile, numbered_from, malformed_from}
use Rattle.bag_explain.specs.LineNumbers.{ListsAt, IsMalformedAt}
use Rattle.bag_explain.specs.Listings.{NumberedListing, listing_of, listings_of, unless_malformed}
use Rattle.bag_explain.specs.Places.{Place, files_in}
use Rattle.bag_explain.specs.Wrong.{ListsNumbered}
use Rattle.bag_explain.specs.Findings.{has_some}
use Rattle.bag_explain.proofs.LineLaws.{Agrees, text_agrees}
use Rattle.bag_explain.proofs.NumberLaws.{numbered_are, malformed_are}
use Rattle.bag_explain.proofs.Members.{In, contained_in, in_contained, of_each, in_some, some_in}
use Rattle.bag_explain.proofs.Members.{in_unless, unless_in}
use Rattle.bag_explain.proofs.ListedLines.{listed_numbered, malformed_numbered}
use Rattle.bag_explain.proofs.RisingLines.{Rises, rises}

-- ---- where no line is malformed, the text is read

is_read : (read : Result (List ListedFile) ℕ) (malformed : List ℕ) (found : List NumberedFile)
    → Agrees read malformed found → malformed ≡ []
    → (files : List ListedFile) × (read ≡ Ok files) × (files_in found ≡ files)
is_read (Ok files) malformed found (sound, are) h = (files, refl, are)
is_read (Err line) malformed found h none = absurd (cc (sym h ∙ ap has_some none))

unless_rises : (malformed : List ℕ) (found : List NumberedFile) → Rises 1 found
    → Rises 1 (unless_malformed malformed found)
unless_rises [] found h = h
unless_rises (line ∷ malformed) found h = tt

-- ---- one manifest

module _ (manifest : Manifest) where
  abbrev malformed : List ℕ
  malformed = malformed_from manifest.algorithm 1 (lines_of manifest.text)

  abbrev numbered : List NumberedFile
  numbered = numbered_from manifest.algorithm 1 (lines_of manifest.text)

  agrees : Agrees (entries manifest) malformed numbered
  agrees = text_agrees manifest.algorithm manifest.text

  reads : (files : List ListedFile) → entries manifest ≡ Ok files
      → (malformed ≡ []) × (files_in numbered ≡ files)
  reads files e = subst (λ r. Agrees r malformed numbered) e agrees

  -- the malformed lines of the listing are those of the manifest
  pub malformed_here : (line : ℕ) → In line (listing_of manifest).malformed
      → IsMalformedAt manifest.algorithm (lines_of manifest.text) line
  unfolding listing_of
  malformed_here line h =
      of_each (IsMalformedAt manifest.algorithm (lines_of manifest.text)) malformed line
      (malformed_are manifest.algorithm manifest.text) h

  pub here_malformed : (line : ℕ) → IsMalformedAt manifest.algorithm (lines_of manifest.text) line
      → In line (listing_of manifest).malformed
  unfolding listing_of
  here_malformed line h = malformed_numbered manifest.algorithm manifest.text line h

  -- the entries of the listing are what the manifest lists
  pub entry_listed : (entry : NumberedFile) → In entry (listing_of manifest).files
      → ListsNumbered manifest entry
  unfolding listing_of
  entry_listed entry h =
      let parts = in_unless malformed numbered entry h in
      let read = is_read (entries manifest) malformed numbered agrees parts.0 in (
        (read.0, read.1),
        of_each (ListsAt manifest.algorithm (lines_of manifest.text)) numbered entry
            (numbered_are manifest.algorithm manifest.text) parts.1,
      )

  pub listed_entry : (entry : NumberedFile) → ListsNumbered manifest entry
      → In entry (listing_of manifest).files
  unfolding listing_of
  listed_entry entry ((files, e), lists) =
      unless_in malformed numbered entry (reads files e).0
      (listed_numbered manifest.algorithm manifest.text entry lists)

  -- a manifest with no malformed line is read, and its listing has what it lists
  pub all_listed : (listing_of manifest).malformed ≡ []
      → (files : List ListedFile) × (entries manifest ≡ Ok files)
      × (files_in (listing_of manifest).files ≡ files)
  unfolding listing_of
  all_listed none =
      let read = is_read (entries manifest) malformed numbered agrees none in
      (read.0, read.1, ap (λ m. files_in (unless_malformed m numbered)) none ∙ read.2)

  pub listed_all : (files : List ListedFile) → entries manifest ≡ Ok files
      → ((listing_of manifest).malformed ≡ []) × (files_in (listing_of manifest).files ≡ files)
  unfolding listing_of
  listed_all files e =
      let read = reads files e in
      (read.0, ap (λ m. files_in (unless_malformed m numbered)) read.0 ∙ read.1)

  -- the lines of its entries rise
  pub entries_rise : Rises 1 (listing_of manifest).files
  unfolding listing_of
  entries_rise =
      unless_rises malformed numbered (rises manifest.algorithm 1 (lines_of manifest.text))

-- ---- all manifests

-- a place among all is one of some manifest's
pub of_manifest : (places : NumberedListing → List Place) (files : List FileFact) (place : Place)
    → In place (flat_map places (listings_of files))
    → (manifest : Manifest) × Contains (manifests_of files) manifest
    × In place (places (listing_of manifest))
unfolding listings_of
of_manifest places files place h =
    let (manifest, m, here) =
    in_some (λ manifest. places (listing_of manifest)) (manifests_of files) place
    (subst (In place) (flat_map-map places listing_of (manifests_of files)) h) in
    (manifest, in_contained (manifests_of files) manifest m, here)

pub manifest_of : (places : NumberedListing → List Place) (files : List FileFact) (place : Place)
    (manifest : Manifest) → Contains (manifests_of files) manifest
    → In place (places (listing_of manifest)) → In place (flat_map places (listings_of files))
unfolding listings_of
manifest_of places files place manifest m h =
    subst (In place) (sym (flat_map-map places listing_of (manifests_of files)))
    (some_in (λ manifest. places (listing_of manifest)) (manifests_of files) manifest place
    (contained_in (manifests_of files) manifest m) h)
