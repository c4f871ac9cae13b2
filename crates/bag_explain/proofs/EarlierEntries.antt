-- The entries that are repeated are those whose path an earlier line lists.
use Rattle.std.proofs.Common.{◌≡◌, ℕ, ◌+◌, ◌<◌, ◌⊎◌, Bool, true, false, ◌||◌, List, [], ◌∷◌}
use Rattle.std.proofs.Common.{◌++◌, refl, sym, ap, ◌∙◌, subst, inl, inr, arith}
use Rattle.std.specs.Str.{bytes_eq}
use Rattle.std.proofs.lemmas.List.Folds.{list_any-append}
use Rattle.std.proofs.lemmas.Slice.Eq.{bytes_eq-Decides}
use Rattle.std.proofs.Math.Bool.{or-true}
use Rattle.bag_text.specs.ListedFile.{ListedFile}
use Rattle.bag_check.specs.Manifests.{is_listed}
use Rattle.bag_explain.specs.Lines.{NumberedFile}
use Rattle.bag_explain.specs.Places.{when, repeated_after}
use Rattle.bag_explain.proofs.Members.{In, in_either, in_left, in_right, in_when, when_in}
use Rattle.bag_explain.proofs.RisingLines.{Rises, from_there}

-- ---- one file more is listed

listed_more : (path : List ℕ) (before : List ListedFile) (file : ListedFile)
    → is_listed path (before ++ file ∷ []) ≡ true
    → (is_listed path before ≡ true) ⊎ (file.path ≡ path)
listed_more path before file h =
    go (is_listed path before) (bytes_eq file.path path) refl
    (sym (list_any-append (λ (f : ListedFile). bytes_eq f.path path) before (file ∷ [])) ∙ h)
  where
    go : (early same : Bool) → bytes_eq file.path path ≡ same → (early || (same || false)) ≡ true
        → (early ≡ true) ⊎ (file.path ≡ path)
    go true same e k = inl refl
    go false true e k = inr ((bytes_eq-Decides file.path path).0 e)
    go false false e k = absurd cc

more_listed : (path : List ℕ) (before : List ListedFile) (file : ListedFile)
    → (is_listed path before ≡ true) ⊎ (file.path ≡ path)
    → is_listed path (before ++ file ∷ []) ≡ true
more_listed path before file h =
    rw (list_any-append (λ (f : ListedFile). bytes_eq f.path path) before (file ∷ []))
    (elim h [
      | inl early ↦ rw early
      | inr same ↦ rw ((bytes_eq-Decides file.path path).1 same, or-true)
    ])

-- ---- the entries that are repeated

-- the path is that of a file before all of these, or that of an entry on a line before this one
abbrev pub IsBefore : List ListedFile → List NumberedFile → NumberedFile → Type 0
IsBefore before entries entry =
    (is_listed entry.file.path before ≡ true)
    ⊎ ((earlier : NumberedFile) × In earlier entries × (earlier.file.path ≡ entry.file.path)
    × (earlier.line < entry.line))

-- an entry that is repeated is one of them, and its path comes before it
pub repeated_before : (before : List ListedFile) (entries : List NumberedFile) (number : ℕ)
    (entry : NumberedFile) → Rises number entries → In entry (repeated_after before entries)
    → In entry entries × IsBefore before entries entry
unfolding repeated_after
repeated_before before [] number entry all h = absurd h
repeated_before before (first ∷ entries) number entry (least, others) h =
    elim (in_either (when (is_listed first.file.path before) (first ∷ []))
    (repeated_after (before ++ first.file ∷ []) entries) entry h) [
      | inl here ↦
          let (listed, is) = in_when (is_listed first.file.path before) first entry here in
          let early : is_listed entry.file.path before ≡ true =
          rw is at listed in
          (inl is, inl early)
      | inr there ↦
          let rest = repeated_before (before ++ first.file ∷ []) entries (first.line + 1) entry
          others there in
          (inr rest.0, later rest.0 rest.1)
    ]
  where
    later : In entry entries → IsBefore (before ++ first.file ∷ []) entries entry
        → IsBefore before (first ∷ entries) entry
    later h (inl listed) =
        elim (listed_more entry.file.path before first.file listed) [
          | inl early ↦ inl early
          | inr same ↦
              let above = from_there (first.line + 1) entries entry others h in
              inr (first, inl refl, same, omega (arith, above))
        ]
    later h (inr (earlier, k, same, below)) = inr (earlier, inr k, same, below)

-- and one whose path comes before it is repeated
pub before_repeated : (before : List ListedFile) (entries : List NumberedFile) (number : ℕ)
    (entry : NumberedFile) → Rises number entries → In entry entries
    → IsBefore before entries entry → In entry (repeated_after before entries)
unfolding repeated_after
before_repeated before [] number entry all h is = absurd h
before_repeated before (first ∷ entries) number entry (least, others) (inl e) is =
    let test : Bool = is_listed first.file.path before in
    in_left (when test (first ∷ [])) (repeated_after (before ++ first.file ∷ []) entries) entry
    (subst (λ x. In x (when test (first ∷ []))) e (when_in test first (go is)))
  where
    go : IsBefore before (first ∷ entries) entry → is_listed first.file.path before ≡ true
    go (inl listed) =
        rw e listed
    go (inr (earlier, inl same, path, below)) =
        let one : first.line ≡ earlier.line = ap (λ (x : NumberedFile). x.line) same in
        let two : first.line ≡ entry.line = ap (λ (x : NumberedFile). x.line) e in
        absurd (omega (arith, one, two, below))
    go (inr (earlier, inr k, path, below)) =
        let above = from_there (first.line + 1) entries earlier others k in
        let two : first.line ≡ entry.line = ap (λ (x : NumberedFile). x.line) e in
        absurd (omega (arith, above, two, below))
before_repeated before (first ∷ entries) number entry (least, others) (inr h) is =
    in_right (when (is_listed first.file.path before) (first ∷ []))
    (repeated_after (before ++ first.file ∷ []) entries) entry
    (before_repeated (before ++ first.file ∷ []) entries (first.line + 1) entry others h (go is))
  where
    go : IsBefore before (first ∷ entries) entry
        → IsBefore (before ++ first.file ∷ []) entries entry
    go (inl listed) = inl (more_listed entry.file.path before first.file (inl listed))
    go (inr (earlier, inl same, path, below)) =
        inl (more_listed entry.file.path before first.file
        (inr (ap (λ (x : NumberedFile). x.file.path) same ∙ path)))
    go (inr (earlier, inr k, path, below)) = inr (earlier, k, path, below)
