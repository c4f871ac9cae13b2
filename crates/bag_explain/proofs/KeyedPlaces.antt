-- Places that say of what they are come once, where each of those comes once.
use Rattle.std.proofs.Common.{◌≡◌, ◌≢◌, ℕ, ◌<◌, Bool, List, [], ◌∷◌, sym, ap, ◌∙◌, subst, arith}
use Rattle.std.specs.List.{flat_map}
use Rattle.std.proofs.lemmas.List.Folds.{flat_map-map}
use Rattle.bag_tree.specs.Facts.{FileFact}
use Rattle.bag_check.specs.declared.manifests.Kind.{Kind}
use Rattle.bag_check.specs.declared.manifests.Kind.TheVariants.{Payload, Tag}
use Rattle.bag_check.specs.Manifests.{Manifest, manifests_of}
use Rattle.bag_explain.specs.Lines.{NumberedFile}
use Rattle.bag_explain.specs.Listings.{NumberedListing, listing_of, listings_of}
use Rattle.bag_explain.specs.Places.{Place, at_file, at_line, at_entry, at_digest, at_unlisted}
use Rattle.bag_explain.specs.Places.{when, of_payload}
use Rattle.bag_explain.proofs.Members.{In, in_some, in_when}
use Rattle.bag_explain.proofs.Pairs.{Pairs, pairs_each, pairs_when}
use Rattle.bag_explain.proofs.RisingLines.{Rises}
use Rattle.bag_explain.proofs.RisingPairs.{rising_pairs}
use Rattle.bag_explain.proofs.ManifestNames.{name_in, AreOther, manifests_once}

-- ---- what a place says

-- the path, the name and the number of the line; the one is the other where there is only one of
-- them, and the number is 0 where there is none
abbrev pub said_at : Place → List ℕ × List ℕ × ℕ
said_at (at_file path) = (path, path, 0)
said_at (at_line name line) = (name, name, line)
said_at (at_entry path name line) = (path, name, line)
said_at (at_digest path algorithm name line) = (path, name, line)
said_at (at_unlisted path name) = (path, name, 0)

abbrev pub path_at : Place → List ℕ
path_at place = (said_at place).0

abbrev pub name_at : Place → List ℕ
name_at place = (said_at place).1

abbrev pub line_at : Place → ℕ
line_at place = (said_at place).2

-- no place comes twice
abbrev pub Once : List Place → Type 0
Once places = Pairs (λ (a b : Place). a ≢ b) places

-- the places of each are once, and say of which they are: so all are once
by_key : {X K : Type 0} (key : Place → K) (own : X → K) (R : X → X → Type 0) (f : X → List Place)
    → ((x : X) → Once (f x)) → ((x : X) (place : Place) → In place (f x) → key place ≡ own x)
    → ((a b : X) → R a b → own a ≢ own b) → (xs : List X) → Pairs R xs → Once (flat_map f xs)
by_key key own R f one is apart xs h =
    pairs_each R (λ (a b : Place). a ≢ b) f one
    (λ a b r x y j k same. apart a b r (sym (is a x j) ∙ (ap key same ∙ is b y k))) xs h

-- so it is of what all manifests give, since they have a name each
pub of_manifests : (places : NumberedListing → List Place) (files : List FileFact)
    → ((manifest : Manifest) → Once (places (listing_of manifest)))
    → ((manifest : Manifest) (place : Place) → In place (places (listing_of manifest))
    → name_at place ≡ name_in manifest) → Once (flat_map places (listings_of files))
unfolding listings_of
of_manifests places files one named =
    subst Once (sym (flat_map-map places listing_of (manifests_of files)))
    (by_key name_at name_in AreOther (λ manifest. places (listing_of manifest)) one named
    (λ a b ne. ne) (manifests_of files) (manifests_once files))

-- ---- a place of each that passes a test

module _ {X : Type 0} (test : X → Bool) (at : X → Place) where
  abbrev pub each : X → List Place
  each x = when (test x) (at x ∷ [])

  -- they come once, where what they say of it differs
  pub tested : {K : Type 0} (key : Place → K) (own : X → K) (R : X → X → Type 0)
      → ((x : X) → key (at x) ≡ own x) → ((a b : X) → R a b → own a ≢ own b) → (xs : List X)
      → Pairs R xs → Once (flat_map each xs)
  tested key own R is apart xs h =
      by_key key own R each (λ x. pairs_when (λ (a b : Place). a ≢ b) (test x) (at x))
      (λ x place k. ap key (sym (in_when (test x) (at x) place k).1) ∙ is x) apart xs h

  -- they say the name that each says
  pub all_named : (name : List ℕ) → ((x : X) → name_at (at x) ≡ name) → (xs : List X)
      (place : Place) → In place (flat_map each xs) → name_at place ≡ name
  all_named name is xs place h =
      let (x, there, here) = in_some each xs place h in
      ap name_at (sym (in_when (test x) (at x) place here).1) ∙ is x

-- so it is of entries, whose lines rise
pub of_entries : (test : NumberedFile → Bool) (at : NumberedFile → Place)
    → ((entry : NumberedFile) → line_at (at entry) ≡ entry.line) → (entries : List NumberedFile)
    → Rises 1 entries → Once (flat_map (each test at) entries)
of_entries test at is entries h =
    tested test at line_at (λ entry. entry.line) (λ (a b : NumberedFile). a.line < b.line) is
    (λ a b below same. absurd (omega (arith, below, same))) entries (rising_pairs 1 entries h)

pub once_payload : (kind : Kind) (places : List Place) → Once places → Once (of_payload kind places)
once_payload Payload places h = h
once_payload Tag places h = tt
