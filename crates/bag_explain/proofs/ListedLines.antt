-- Each line that lists a file is found, and each that is malformed.
use Rattle.std.proofs.Common.{◌≡◌, ℕ, ◌+◌, false, List, [], ◌∷◌, ◌++◌, length, Option, Some, None}
use Rattle.std.proofs.Common.{Ok, Err, refl, sym, ap, inl, arith}
use Rattle.std.specs.List.{list_all}
use Rattle.std.proofs.lemmas.Bool.{false_from_ne_true}
use Rattle.bag_text.specs.declared.algorithm.Algorithm.{Algorithm}
use Rattle.bag_text.specs.ListedFile.{ListedFile}
use Rattle.bag_text.specs.Lines.{lines_of}
use Rattle.bag_text.specs.Blanks.{is_blank}
use Rattle.bag_text.specs.Readers.{entries_of, file_in}
use Rattle.bag_text.proofs.EntryLaws.{file_in-entry, entry-file_in, entry-not_blank}
use Rattle.bag_explain.specs.Lines.{NumberedFile, numbered, if_malformed, numbered_from}
use Rattle.bag_explain.specs.Lines.{malformed_from}
use Rattle.bag_explain.specs.LineNumbers.{ListsAt, IsMalformedAt}
use Rattle.bag_explain.proofs.LineLaws.{has_end, Endless, endless, line_says}
use Rattle.bag_explain.proofs.Members.{In, in_left, in_right}

-- what a line says is among what all lines say: `at` gives what a line and its number say
at_line : {X : Type 0} (at : ℕ → List ℕ → List X) (from : ℕ → List (List ℕ) → List X)
    → ((number : ℕ) (line : List ℕ) (lines : List (List ℕ))
    → from number (line ∷ lines) ≡ at number line ++ from (number + 1) lines)
    → (before after : List (List ℕ)) (line : List ℕ) (number : ℕ) (x : X)
    → In x (at (length before + number) line) → In x (from number (before ++ line ∷ after))
at_line at from more [] after line number x h =
    let e : 0 + number ≡ number = omega arith in
    rw (more number line after)
    (in_left (at number line) (from (number + 1) after) x (rw e at h))
at_line at from more (first ∷ before) after line number x h =
    let e : length (first ∷ before) + number ≡ length before + (number + 1) = omega arith in
    rw (more number first (before ++ line ∷ after))
    (in_right (at number first) (from (number + 1) (before ++ line ∷ after)) x
    (at_line at from more before after line (number + 1) x (rw e at h)))

part_endless : (before after : List (List ℕ)) (line : List ℕ) → Endless (before ++ line ∷ after)
    → has_end line ≡ false
part_endless [] after line (h, hs) = h
part_endless (first ∷ before) after line (h, hs) = part_endless before after line hs

-- a line of a text has no end of a line in it
line_endless : (text : List ℕ) (before after : List (List ℕ)) (line : List ℕ)
    → lines_of text ≡ before ++ line ∷ after → has_end line ≡ false
line_endless text before after line e =
    part_endless before after line (rw e at (endless text))

-- a line that lists a file is among those found
pub listed_numbered : (algorithm : Algorithm) (text : List ℕ) (entry : NumberedFile)
    → ListsAt algorithm (lines_of text) entry
    → In entry (numbered_from algorithm 1 (lines_of text))
unfolding numbered_from
listed_numbered algorithm text entry (line, (before, after, e, n), lists) =
    let says : entries_of algorithm line ≡ Ok (entry.file ∷ []) =
    rw (
      line_says algorithm line (line_endless text before after line e),
      entry-not_blank algorithm line entry.file lists,
      file_in-entry algorithm line entry.file lists,
    ) in
    let same : record { line = length before + 1; file = entry.file } ≡ entry =
    ap (λ m. record { line = m; file = entry.file }) (sym n) in
    rw e
    (at_line (λ number l. numbered number (entries_of algorithm l)) (numbered_from algorithm)
    (λ number l lines. refl) before after line 1 entry
    (rw says (inl same)))

-- a malformed line is among those found
pub malformed_numbered : (algorithm : Algorithm) (text : List ℕ) (number : ℕ)
    → IsMalformedAt algorithm (lines_of text) number
    → In number (malformed_from algorithm 1 (lines_of text))
unfolding malformed_from
malformed_numbered algorithm text number (line, (before, after, e, n), nonblank, no_file) =
    let says : entries_of algorithm line ≡ Err 1 =
    rw (
      line_says algorithm line (line_endless text before after line e),
      false_from_ne_true (list_all is_blank line) nonblank,
      none (file_in algorithm line) refl,
    ) in
    rw e
    (at_line (λ k l. if_malformed k (entries_of algorithm l)) (malformed_from algorithm)
    (λ k l lines. refl) before after line 1 number
    (rw says (inl (sym n))))
  where
    none : (file : Option ListedFile) → file_in algorithm line ≡ file → file ≡ None
    none None h = refl
    none (Some file) h = absurd (no_file file (entry-file_in algorithm line file h))
