-- The numbered lines of a manifest, one line on, and its listing.
use Rattle.std.proofs.Common.{◌≡◌, ℕ, ◌+◌, ◌<◌, ◌≤◌, List, [], ◌∷◌, ◌++◌, length, take, get_or, map}
use Rattle.std.proofs.Common.{refl, sym, ap, ◌∙◌, append_assoc, append-nil, arith, None, Some}
use Rattle.std.specs.Borrow.{Bor}
use Rattle.std.proofs.lemmas.List.{map-append, take_more, take_all, length-take-le, length-map}
use Rattle.bag_text.specs.declared.algorithm.Algorithm.{Algorithm}
use Rattle.bag_text.specs.declared.algorithm.Algorithm.TheVariants.{Md5, Sha1, Sha256, Sha512}
use Rattle.bag_text.specs.Lines.{lines_of}
use Rattle.bag_text.specs.Readers.{entries_of}
use Rattle.bag_tree.specs.Facts.{FileFact}
use Rattle.bag_check.specs.declared.manifests.Kind.{Kind}
use Rattle.bag_check.specs.declared.manifests.Kind.TheVariants.{Payload, Tag}
use Rattle.bag_check.specs.Manifests.{Manifest, text_at, manifest_name, manifest_at}
use Rattle.bag_check.specs.Manifests.{manifests_of_kind, manifests_of}
use Rattle.bag_explain.specs.Lines.{NumberedFile, numbered, if_malformed, numbered_from}
use Rattle.bag_explain.specs.Lines.{malformed_from}
use Rattle.bag_explain.specs.Listings.{NumberedListing, listing_by, listing_of, listings_of}

-- one line more: `at` gives what a line and its number say, and `from` what lines say
from-snoc : {X : Type 0} (at : ℕ → List ℕ → List X) (from : ℕ → List (List ℕ) → List X)
    → ((number : ℕ) → from number [] ≡ [])
    → ((number : ℕ) (line : List ℕ) (lines : List (List ℕ))
    → from number (line ∷ lines) ≡ at number line ++ from (number + 1) lines)
    → (number : ℕ) (lines : List (List ℕ)) (line : List ℕ)
    → from number (lines ++ line ∷ []) ≡ from number lines ++ at (number + length lines) line
from-snoc at from none more number [] line =
    let e : number ≡ number + 0 = omega arith in
    rw (more number line [], none (number + 1), none number, append-nil (at number line))
    (ap (λ (n : ℕ). at n line) e)
from-snoc at from none more number (first ∷ lines) line =
    let e : (number + 1) + length lines ≡ number + length (first ∷ lines) = omega arith in
    rw (
      more number first (lines ++ line ∷ []),
      more number first lines,
      from-snoc at from none more (number + 1) lines line,
      e,
      append_assoc,
    )

-- ---- the loop over the lines

abbrev pub texts_of : List (Bor (List ℕ)) → List (List ℕ)
texts_of lines = map (λ line. line.now) lines

module _ (algorithm : Algorithm) (items : List (Bor (List ℕ))) (place number : ℕ)
    (other : Bor (List ℕ)) (within : place < length items) (counted : number ≡ place) where
  abbrev text : List ℕ
  text = (get_or items place other).now

  next : texts_of (take (place + 1) items) ≡ texts_of (take place items) ++ text ∷ []
  next =
      rw (take_more items place other within)
      (map-append (λ (line : Bor (List ℕ)). line.now) (take place items)
      (get_or items place other ∷ []))

  here : 1 + length (texts_of (take place items)) ≡ number + 1
  here =
      let e : length (texts_of (take place items)) ≡ length (take place items) =
      length-map (take place items) (λ (line : Bor (List ℕ)). line.now) in
      let k : length (take place items) ≡ place =
      length-take-le place items (omega (arith, within)) in
      omega (arith, e, k, counted)

  from_more : {X : Type 0} (at : ℕ → List ℕ → List X) (from : ℕ → List (List ℕ) → List X)
      → ((number : ℕ) → from number [] ≡ [])
      → ((number : ℕ) (line : List ℕ) (lines : List (List ℕ))
      → from number (line ∷ lines) ≡ at number line ++ from (number + 1) lines)
      → (before after : List X) → before ≡ from 1 (texts_of (take place items))
      → after ≡ before ++ at (number + 1) text → after ≡ from 1 (texts_of (take (place + 1) items))
  from_more at from none more before after e h =
      rw (next, from-snoc at from none more 1 (texts_of (take place items)) text, here, ← e) h

  pub malformed_more : (before after : List ℕ)
      → before ≡ malformed_from algorithm 1 (texts_of (take place items))
      → after ≡ before ++ if_malformed (number + 1) (entries_of algorithm text)
      → after ≡ malformed_from algorithm 1 (texts_of (take (place + 1) items))
  unfolding malformed_from
  malformed_more = from_more (λ n line. if_malformed n (entries_of algorithm line))
      (malformed_from algorithm) (λ n. refl) (λ n line lines. refl)

  pub numbered_more : (before after : List NumberedFile)
      → before ≡ numbered_from algorithm 1 (texts_of (take place items))
      → after ≡ before ++ numbered (number + 1) (entries_of algorithm text)
      → after ≡ numbered_from algorithm 1 (texts_of (take (place + 1) items))
  unfolding numbered_from
  numbered_more = from_more (λ n line. numbered n (entries_of algorithm line))
      (numbered_from algorithm) (λ n. refl) (λ n line lines. refl)

-- after the last line
pub all_read : (manifest : Manifest) (items : List (Bor (List ℕ))) (place : ℕ)
    (malformed : List ℕ) (files : List NumberedFile) (result : NumberedListing)
    → length items ≤ place
    → texts_of items ≡ lines_of manifest.text
    → malformed ≡ malformed_from manifest.algorithm 1 (texts_of (take place items))
    → files ≡ numbered_from manifest.algorithm 1 (texts_of (take place items))
    → result ≡ listing_by manifest malformed files → result ≡ listing_of manifest
unfolding listing_of
all_read manifest items place malformed files result past lines e f is =
    let all : texts_of (take place items) ≡ lines_of manifest.text =
    rw (take_all place items past) lines in
    rw (is, e, f, all)

-- ---- the manifests

module _ (kind : Kind) (algorithm : Algorithm) (files : List FileFact)
    (found : List NumberedListing) where
  pub no_manifest : text_at (manifest_name kind algorithm) files ≡ None
      → found ≡ found ++ map listing_of (manifest_at kind algorithm files)
  unfolding manifest_at
  no_manifest h = rw h (sym (append-nil found))

  pub one_manifest : (text : List ℕ) (listing : NumberedListing) (after : List NumberedListing)
      → text_at (manifest_name kind algorithm) files ≡ Some text
      → listing ≡ listing_of (record { kind = kind; algorithm = algorithm; text = text })
      → after ≡ found ++ listing ∷ []
      → after ≡ found ++ map listing_of (manifest_at kind algorithm files)
  unfolding manifest_at
  one_manifest text listing after h is now = rw h (now ∙ ap (λ l. found ++ l ∷ []) is)

module _ (kind : Kind) (files : List FileFact) (f0 f1 f2 f3 f4 : List NumberedListing) where
  abbrev listed : Algorithm → List NumberedListing
  listed algorithm = map listing_of (manifest_at kind algorithm files)

  pub kind_read : f1 ≡ f0 ++ listed Md5 → f2 ≡ f1 ++ listed Sha1 → f3 ≡ f2 ++ listed Sha256
      → f4 ≡ f3 ++ listed Sha512 → f4 ≡ f0 ++ map listing_of (manifests_of_kind kind files)
  unfolding manifests_of_kind
  kind_read e1 e2 e3 e4 = rw (e4, e3, e2, e1) (simp (map-append, append-nil, append_assoc))

pub kinds_read : (files : List FileFact) (empty between after : List NumberedListing) → empty ≡ []
    → between ≡ empty ++ map listing_of (manifests_of_kind Payload files)
    → after ≡ between ++ map listing_of (manifests_of_kind Tag files)
    → after ≡ listings_of files
unfolding listings_of manifests_of
kinds_read files empty between after none payload tags =
    rw (tags, payload, none) (simp (map-append, append-nil))
