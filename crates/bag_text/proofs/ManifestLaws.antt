-- A text is a manifest that lists some files exactly where reading it gives those files, and what
-- is read
-- otherwise is the number of the first malformed line.
use Rattle.std.proofs.Common.{◌≡◌, ℕ, suc, ◌+◌, Bool, true, false, cond, List, [], ◌∷◌, ◌++◌}
use Rattle.std.proofs.Common.{length, Option, Some, None, Result, Ok, Err, refl, sym}
use Rattle.std.proofs.Common.{◌∙◌, append_assoc, zero-add, arith}
use Rattle.std.proofs.lemmas.List.{append-nil}
use Rattle.std.specs.Prelude.{IfOk, MatchResult, IsErrOf}
use Rattle.std.specs.List.{list_all, All}
use Rattle.std.specs.Str.{IsUtf8}
use Rattle.std.proofs.lemmas.List.Elements.{All-nil, All-cons}
use Rattle.hex.proofs.HexLemmas.{decode_of-ok}
use Rattle.bag_text.specs.declared.algorithm.Algorithm.{Algorithm}
use Rattle.bag_text.specs.declared.fault.TextFault.{TextFault}
use Rattle.bag_text.specs.declared.fault.TextFault.TheVariants.{Malformed, Memory}
use Rattle.bag_text.specs.Algorithms.{digest_len}
use Rattle.bag_text.specs.Lines.{lines_of}
use Rattle.bag_text.specs.Blanks.{is_blank, IsBlank}
use Rattle.bag_text.specs.ListedFile.{ListedFile}
use Rattle.bag_text.specs.Manifests.{IsEntryLine, ListsAll, none_left, skipped, listed, IsManifest}
use Rattle.bag_text.specs.Manifests.{IsFirstMalformed}
use Rattle.bag_text.specs.Fault.{IsOrMemory}
use Rattle.bag_text.specs.Readers.{file_in, onto, onto_or, files_from, entries_of}
use Rattle.std.proofs.lemmas.Bool.{false_from_ne_true}
use Rattle.bag_text.proofs.Lists.{none-from_not}
use Rattle.bag_text.proofs.EntryLaws.{file_in-entry, entry-file_in, entry-not_blank}

pub files_from-listed : (algorithm : Algorithm) (number : ℕ) (lines : List (List ℕ))
    (files : List ListedFile) → ListsAll algorithm lines files
    → files_from algorithm number lines ≡ Ok files
unfolding files_from
files_from-listed algorithm number lines files none_left = refl
files_from-listed algorithm number lines files (skipped line more some blank rest) =
    rw blank (files_from-listed algorithm (number + 1) more some rest)
files_from-listed algorithm number lines files (listed line file more some entry rest) =
    rw (
      entry-not_blank algorithm line file entry,
      file_in-entry algorithm line file entry,
      files_from-listed algorithm (number + 1) more some rest,
    ) refl

pub listed-files_from : (algorithm : Algorithm) (number : ℕ) (lines : List (List ℕ))
    (files : List ListedFile) → files_from algorithm number lines ≡ Ok files
    → ListsAll algorithm lines files
unfolding files_from
listed-files_from algorithm number [] files h =
    let none : [] ≡ files = cc in rw (← none) none_left
listed-files_from algorithm number (line ∷ lines) files h =
    go (list_all is_blank line) refl (file_in algorithm line) refl
    (files_from algorithm (number + 1) lines)
    (λ rest e. listed-files_from algorithm (number + 1) lines rest e) h
  where
    go : (blank : Bool) → list_all is_blank line ≡ blank
        → (found : Option ListedFile) → file_in algorithm line ≡ found
        → (others : Result (List ListedFile) ℕ)
        → ((rest : List ListedFile) → others ≡ Ok rest → ListsAll algorithm lines rest)
        → cond blank others (onto_or found number others) ≡ Ok files
        → ListsAll algorithm (line ∷ lines) files
    go true b found e others ih k = skipped line lines files b (ih files k)
    go false b (Some file) e (Ok rest) ih k =
        let same : file ∷ rest ≡ files = cc in
        rw (← same)
        (listed line file lines rest (entry-file_in algorithm line file e) (ih rest refl))
    go false b _ e _ ih k = absurd cc

-- ---- the first malformed line

-- the line of this number is the first malformed one, where the first of the lines has number first
abbrev pub IsMalformedFrom : Algorithm → ℕ → List (List ℕ) → ℕ → Type 0
IsMalformedFrom algorithm first lines number =
    (before : List (List ℕ)) × (line : List ℕ) × (after : List (List ℕ)) × (files : List ListedFile)
    × (lines ≡ before ++ (line ∷ after)) × (number ≡ length before + first)
    × ListsAll algorithm before files
    × (¬ (IsBlank line)) × ((file : ListedFile) → ¬ (IsEntryLine algorithm line file))

pub malformed-files_from : (algorithm : Algorithm) (first : ℕ) (lines : List (List ℕ)) (number : ℕ)
    → files_from algorithm first lines ≡ Err number → IsMalformedFrom algorithm first lines number
unfolding files_from
malformed-files_from algorithm first [] number h = absurd cc
malformed-files_from algorithm first (line ∷ lines) number h =
    go (list_all is_blank line) refl (file_in algorithm line) refl
    (files_from algorithm (first + 1) lines)
    (λ e. malformed-files_from algorithm (first + 1) lines number e) h
  where
    -- one line more before them
    later : ((files : List ListedFile) (before : List (List ℕ)) → ListsAll algorithm before files
        → (more : List ListedFile) × ListsAll algorithm (line ∷ before) more)
        → IsMalformedFrom algorithm (first + 1) lines number
        → IsMalformedFrom algorithm first (line ∷ lines) number
    later add m =
        let grown = add m.3 m.0 m.6 in
        let whole : line ∷ lines ≡ line ∷ (m.0 ++ (m.1 ∷ m.2)) = cc m.4 in
        (line ∷ m.0, m.1, m.2, grown.0, whole, omega (arith, m.5), grown.1, m.7, m.8)

    go : (blank : Bool) → list_all is_blank line ≡ blank
        → (found : Option ListedFile) → file_in algorithm line ≡ found
        → (others : Result (List ListedFile) ℕ)
        → (others ≡ Err number → IsMalformedFrom algorithm (first + 1) lines number)
        → cond blank others (onto_or found first others) ≡ Err number
        → IsMalformedFrom algorithm first (line ∷ lines) number
    go true b found e others ih k =
        later (λ files before all. (files, skipped line before files b all)) (ih k)
    go false b None e others ih k =
        let here : first ≡ number = cc in (
          [],
          line,
          lines,
          [],
          refl,
          omega (arith, here),
          none_left,
          λ blank. absurd (cc (b, blank)),
          λ file entry. absurd (cc (e, file_in-entry algorithm line file entry)),
        )
    go false b (Some file) e (Ok rest) ih k = absurd cc
    go false b (Some file) e (Err n) ih k =
        let entry = entry-file_in algorithm line file e in
        later (λ files before all. (file ∷ files, listed line file before files entry all)) (ih k)

shifted : (n first : ℕ) → n + (first + 1) ≡ suc n + first
shifted n first = omega arith

-- what comes after lines that list files
files_from-more : (algorithm : Algorithm) (first : ℕ) (before more : List (List ℕ))
    (files : List ListedFile) (line : ℕ) → ListsAll algorithm before files
    → files_from algorithm (length before + first) more ≡ Err line
    → files_from algorithm first (before ++ more) ≡ Err line
unfolding files_from
files_from-more algorithm first before more files line none_left h =
    rw (zero-add first) at h
files_from-more algorithm first before more files line (skipped blank lines some b rest) h =
    rw b
    (files_from-more algorithm (first + 1) lines more files line rest
    (rw (shifted (length lines) first) h))
files_from-more algorithm first before more files line (listed entry file lines some e rest) h =
    rw (
      entry-not_blank algorithm entry file e,
      file_in-entry algorithm entry file e,
      files_from-more algorithm (first + 1) lines more some line rest
          (rw (shifted (length lines) first) h),
    ) refl

pub files_from-malformed : (algorithm : Algorithm) (lines : List (List ℕ)) (number : ℕ)
    → IsFirstMalformed algorithm lines number → files_from algorithm 1 lines ≡ Err number
unfolding files_from
files_from-malformed algorithm lines number h =
    let none =
    none-from_not (file_in algorithm h.1)
    (λ file e. h.8 file (entry-file_in algorithm h.1 file e)) in
    rw h.4
    (files_from-more algorithm 1 h.0 (h.1 ∷ h.2) h.3 number h.6
    (rw (false_from_ne_true (list_all is_blank h.1) h.7, none, h.5) refl))

-- ---- what each listed file is

listed_each : (P : ListedFile → Type 0) {algorithm : Algorithm} {lines : List (List ℕ)}
    {files : List ListedFile}
    → ((line : List ℕ) (file : ListedFile) → IsEntryLine algorithm line file → P file)
    → ListsAll algorithm lines files → All P files
listed_each P each none_left = All-nil P
listed_each P each (skipped line more some blank rest) = listed_each P each rest
listed_each P each (listed line file more some entry rest) =
    All-cons P file some (each line file entry) (listed_each P each rest)

pub listed_digests : {algorithm : Algorithm} {lines : List (List ℕ)} {files : List ListedFile}
    → ListsAll algorithm lines files → All (λ file. length file.digest ≡ digest_len algorithm) files
listed_digests {algorithm} h =
    listed_each (λ file. length file.digest ≡ digest_len algorithm)
    (λ line file entry. let digits = decode_of-ok entry.0 file.digest entry.4.digest in
    omega (arith, digits.2, entry.4.whole)) h

pub listed_paths : {algorithm : Algorithm} {lines : List (List ℕ)} {files : List ListedFile}
    → ListsAll algorithm lines files → All (λ file. IsUtf8 file.path) files
listed_paths h = listed_each (λ file. IsUtf8 file.path) (λ line file entry. entry.4.text) h

-- ---- what a call that reads so promises

pub is_found : {X : Type 0} (view : X → List ListedFile) (r : Result X TextFault)
    (algorithm : Algorithm) (text : List ℕ) → IsOrMemory view r (entries_of algorithm text)
    → IfOk r (λ x. IsManifest algorithm text (view x))
is_found view (Ok x) algorithm text h = listed-files_from algorithm 1 (lines_of text) (view x) h
is_found view (Err fault) algorithm text h = tt

pub is_only : {X : Type 0} (view : X → List ListedFile) (r : Result X TextFault)
    (algorithm : Algorithm) (text : List ℕ) (files : List ListedFile)
    → IsManifest algorithm text files → IsOrMemory view r (entries_of algorithm text)
    → MatchResult r (λ x. view x ≡ files) (λ fault. fault ≡ Memory)
is_only view (Ok x) algorithm text files m h =
    cc (files_from-listed algorithm 1 (lines_of text) files m, h)
is_only view (Err Memory) algorithm text files m h = refl
is_only view (Err (Malformed line)) algorithm text files m h =
    absurd (cc (files_from-listed algorithm 1 (lines_of text) files m, h))

pub is_malformed : {X : Type 0} (view : X → List ListedFile) (r : Result X TextFault)
    (algorithm : Algorithm) (text : List ℕ) (line : ℕ)
    → IsErrOf r (Malformed line) → IsOrMemory view r (entries_of algorithm text)
    → IsFirstMalformed algorithm (lines_of text) line
is_malformed view r algorithm text line e h =
    malformed-files_from algorithm 1 (lines_of text) line (rw e at h)

-- ---- reading line by line

-- the files so far, before what is read after them
abbrev pub after : List ListedFile → Result (List ListedFile) ℕ → Result (List ListedFile) ℕ
after files (Ok others) = Ok (files ++ others)
after files (Err line) = Err line

after-onto : (files : List ListedFile) (file : ListedFile) (others : Result (List ListedFile) ℕ)
    → after files (onto file others) ≡ after (files ++ (file ∷ [])) others
after-onto files file (Ok rest) = rw (append_assoc files (file ∷ []) rest) refl
after-onto files file (Err line) = refl

module _ (algorithm : Algorithm) (number : ℕ) (text : List ℕ) (files : List ListedFile)
    (all : Result (List ListedFile) ℕ)
    (so_far : after files (files_from algorithm number (lines_of text)) ≡ all) where
  pub read_blank : (line rest : List ℕ) → lines_of text ≡ line ∷ lines_of rest
      → list_all is_blank line ≡ true
      → after files (files_from algorithm (number + 1) (lines_of rest)) ≡ all
  unfolding files_from
  read_blank line rest l b = rw (l, b) at so_far

  pub read_entry : (line rest : List ℕ) (file : ListedFile) → lines_of text ≡ line ∷ lines_of rest
      → list_all is_blank line ≡ false → file_in algorithm line ≡ Some file
      → after (files ++ (file ∷ [])) (files_from algorithm (number + 1) (lines_of rest)) ≡ all
  unfolding files_from
  read_entry line rest file l b e =
      sym (after-onto files file (files_from algorithm (number + 1) (lines_of rest)))
      ∙ rw (l, b, e) at so_far

  pub read_fault : (line rest : List ℕ) → lines_of text ≡ line ∷ lines_of rest
      → list_all is_blank line ≡ false → file_in algorithm line ≡ None → all ≡ Err number
  unfolding files_from
  read_fault line rest l b e = sym (rw (l, b, e) at so_far)

  pub read_ended : lines_of text ≡ [] → all ≡ Ok files
  unfolding files_from
  read_ended l = sym (rw (l, append-nil files) at so_far)
