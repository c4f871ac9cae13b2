-- Entries that are as many as the payload's files.
use Rattle.std.proofs.Common.{◌≡◌, ℕ, ◌≤◌, Bool, true, false, not, List, [], ◌∷◌, map, length}
use Rattle.std.proofs.Common.{get_or, sym, ◌∙◌, refl, arith, inl, inr}
use Rattle.std.specs.List.{list_any, filter, IsDistinct, AllByRecursion}
use Rattle.std.specs.Set.{is_member}
use Rattle.std.specs.Str.{bytes_eq}
use Rattle.std.proofs.lemmas.Bool.{or_parts, and_parts, false_from_ne_true, not-true, not-false}
use Rattle.std.proofs.lemmas.Bool.{cases_Bool}
use Rattle.std.proofs.lemmas.List.Folds.{list_any_at, list_any_none}
use Rattle.std.proofs.lemmas.Cmp.{nat_list_eq_equiv}
use Rattle.std.proofs.lemmas.List.{length-map}
use Rattle.std.proofs.lemmas.Map.Made.{length-le_from_is_member}
use Rattle.std.proofs.lemmas.Slice.Eq.{bytes_eq-Decides}
use Rattle.bag_text.specs.ListedFile.{ListedFile}
use Rattle.bag_tree.specs.Path.{is_payload, is_unsafe}
use Rattle.bag_tree.specs.Facts.{FileFact}
use Rattle.bag_check.specs.declared.manifests.Kind.TheVariants.{Payload}
use Rattle.bag_check.specs.Manifests.{is_listed, has_file}
use Rattle.bag_check.specs.Check.{is_astray, is_missing, is_unlisted, repeats}
use Rattle.bag_check.proofs.Sets.{is_some-find}
use Rattle.bag_check.proofs.Repeats.{bytes_eq-sym}

abbrev pub in_payload : FileFact → Bool
in_payload f = is_payload f.path

abbrev pub payload_paths : List FileFact → List (List ℕ)
payload_paths files = map (λ (f : FileFact). f.path) (filter in_payload files)

abbrev pub paths : List ListedFile → List (List ℕ)
paths entries = map (λ (e : ListedFile). e.path) entries

-- a path that isn't listed is none of the paths
apart : (p : List ℕ) (entries : List ListedFile) → is_listed p entries ≡ false
    → AllByRecursion (λ q. bytes_eq p q ≡ false) (paths entries)
apart p [] h = tt
apart p (entry ∷ entries) h =
    let both = or_parts (bytes_eq entry.path p) (is_listed p entries) h in
    (bytes_eq-sym p entry.path ∙ both.0, apart p entries both.1)

distinct : (entries : List ListedFile) → repeats entries ≡ false
    → IsDistinct bytes_eq (paths entries)
unfolding repeats IsDistinct
distinct [] h = tt
distinct (entry ∷ entries) h =
    let both = or_parts (is_listed entry.path entries) (repeats entries) h in
    (apart entry.path entries both.0, distinct entries both.1)

-- the paths have what is listed
member_listed : (q : List ℕ) (entries : List ListedFile)
    → is_member bytes_eq (paths entries) q ≡ is_listed q entries
member_listed q [] = refl
member_listed q (entry ∷ entries) =
    rw (bytes_eq-sym q entry.path, member_listed q entries) refl

-- a file of a payload's path is one of the payload's
in_files : (q : List ℕ) (files : List FileFact) → is_payload q ≡ true
    → list_any (λ (f : FileFact). bytes_eq f.path q) files ≡ true
    → is_member bytes_eq (payload_paths files) q ≡ true
in_files q [] payload h = cc
in_files q (file ∷ files) payload h = elim (cases_Bool (bytes_eq file.path q)) [
  | inl here ↦
      let inside : in_payload file ≡ true = rw ((bytes_eq-Decides file.path q).0 here) payload in
      rw (inside, bytes_eq-sym q file.path, here) refl
  | inr other ↦
      let later = in_files q files payload (rw other at h) in
      elim (cases_Bool (in_payload file)) [
        | inl inside ↦ rw (inside, bytes_eq-sym q file.path, other) later
        | inr outside ↦ rw outside later
      ]
]

-- what is listed is a payload's file that is there
found_listed : (q : List ℕ) (files : List FileFact) (entries : List ListedFile)
    → list_any (is_astray Payload) entries ≡ false → list_any (is_missing files) entries ≡ false
    → is_listed q entries ≡ true → is_member bytes_eq (payload_paths files) q ≡ true
found_listed q files [] placed there listed = cc
found_listed q files (entry ∷ entries) placed there listed =
    let astray = or_parts (is_astray Payload entry) (list_any (is_astray Payload) entries) placed in
    let missing = or_parts (is_missing files entry) (list_any (is_missing files) entries) there in
    elim (cases_Bool (bytes_eq entry.path q)) [
      | inl here ↦
          rw (← (bytes_eq-Decides entry.path q).0 here)
          (in_files entry.path files
          (not-false (is_payload entry.path)
          (or_parts (is_unsafe entry.path) (not (is_payload entry.path)) astray.0).1)
          (sym (is_some-find (λ (f : FileFact). bytes_eq f.path entry.path) files)
          ∙ not-false (has_file entry.path files) missing.0))
      | inr other ↦ found_listed q files entries astray.1 missing.1 (rw other at listed)
    ]

module _ (entries : List ListedFile) (files : List FileFact)
    (placed : list_any (is_astray Payload) entries ≡ false) (once : repeats entries ≡ false)
    (there : list_any (is_missing files) entries ≡ false)
    (few : length (filter in_payload files) ≤ length entries) where
  -- a further file of the payload would be one too many
  is_listed_too : (p : List ℕ) → is_payload p ≡ true
      → list_any (λ (f : FileFact). bytes_eq f.path p) files ≡ true → is_listed p entries ≡ false
      → ⊥
  unfolding IsDistinct
  is_listed_too p payload here absent =
      let many : length (p ∷ paths entries) ≤ length (payload_paths files) =
      length-le_from_is_member nat_list_eq_equiv (p ∷ paths entries) (payload_paths files)
      (apart p entries absent, distinct entries once) each in
      absurd (omega (
        arith,
        many,
        few,
        length-map entries (λ (e : ListedFile). e.path),
        length-map (filter in_payload files) (λ (f : FileFact). f.path),
      ))
    where
      each : (q : List ℕ) → is_member bytes_eq (p ∷ paths entries) q ≡ true
          → is_member bytes_eq (payload_paths files) q ≡ true
      each q h = elim (cases_Bool (bytes_eq q p)) [
        | inl same ↦ rw ((bytes_eq-Decides q p).0 same) (in_files p files payload here)
        | inr other ↦
            found_listed q files entries placed there
            (sym (member_listed q entries) ∙ rw other at h)
      ]

  -- no file of the payload is left out
  pub none_unlisted : list_any (is_unlisted entries) files ≡ false
  none_unlisted =
      list_any_none (is_unlisted entries) files
      (λ k d within.
      let path : List ℕ = (get_or files k d).path in
      false_from_ne_true (is_unlisted entries (get_or files k d))
      (λ unlisted.
      let both = and_parts (is_payload path) (not (is_listed path entries)) unlisted in
      is_listed_too path both.0
      (list_any_at (λ (f : FileFact). bytes_eq f.path path) files k d within
      ((bytes_eq-Decides path path).1 refl))
      (not-true (is_listed path entries) both.1)))
