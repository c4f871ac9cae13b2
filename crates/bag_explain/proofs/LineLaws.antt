-- What the lines of a manifest list one by one, and what its text lists.
use Rattle.std.proofs.Common.{◌≡◌, ℕ, ◌+◌, Bool, true, false, ◌||◌, ◌&&◌, ◌==◌, cond, List, [], ◌∷◌}
use Rattle.std.proofs.Common.{◌++◌, Option, Some, None, Result, Ok, Err, refl, ap}
use Rattle.std.specs.List.{list_any, list_all, onto_first}
use Rattle.bag_text.specs.declared.algorithm.Algorithm.{Algorithm}
use Rattle.bag_text.specs.ListedFile.{ListedFile}
use Rattle.bag_text.specs.Lines.{lines_of, is_line_end, carriage_return, line_feed}
use Rattle.bag_text.specs.Lines.{starts_with_line_feed}
use Rattle.bag_text.specs.Blanks.{is_blank}
use Rattle.bag_text.specs.Readers.{entries_of, files_from, file_in, onto_or}
use Rattle.bag_explain.specs.Lines.{NumberedFile, numbered, if_malformed, numbered_from}
use Rattle.bag_explain.specs.Lines.{malformed_from}
use Rattle.bag_explain.specs.Places.{files_in}
use Rattle.bag_explain.specs.Findings.{has_some}

-- ---- no line has an end of a line in it

abbrev pub has_end : List ℕ → Bool
has_end line = list_any is_line_end line

abbrev pub Endless : List (List ℕ) → Type 0
Endless [] = Unit {0}
Endless (line ∷ lines) = (has_end line ≡ false) × Endless lines

onto-endless : (byte : ℕ) (lines : List (List ℕ)) → is_line_end byte ≡ false → Endless lines
    → Endless (onto_first byte lines)
onto-endless byte [] h all = (rw h refl, tt)
onto-endless byte (line ∷ lines) h (first, others) = (rw (h, first) refl, others)

pub endless : (text : List ℕ) → Endless (lines_of text)
unfolding lines_of
endless [] = tt
endless (byte ∷ rest) =
    go (byte == carriage_return && starts_with_line_feed rest) (is_line_end byte) refl
    (endless rest)
  where
    go : (both end : Bool) → is_line_end byte ≡ end → Endless (lines_of rest)
        → Endless (cond both (lines_of rest) (cond end ([] ∷ lines_of rest)
        (onto_first byte (lines_of rest))))
    go true end h all = all
    go false true h all = (refl, all)
    go false false h all = onto-endless byte (lines_of rest) h all

parts_false : (a b : Bool) → (a || b) ≡ false → (a ≡ false) × (b ≡ false)
parts_false false b h = (refl, h)
parts_false true b h = cc

-- such a line is the one line of its own text
one_line : (byte : ℕ) (rest : List ℕ) → has_end (byte ∷ rest) ≡ false
    → lines_of (byte ∷ rest) ≡ (byte ∷ rest) ∷ []
unfolding lines_of
one_line byte [] h =
    let parts = parts_false (is_line_end byte) false h in
    let ends = parts_false (byte == line_feed) (byte == carriage_return) parts.0 in
    rw (ends.1, ends.0) refl
one_line byte (second ∷ rest) h =
    let parts = parts_false (is_line_end byte) (has_end (second ∷ rest)) h in
    let ends = parts_false (byte == line_feed) (byte == carriage_return) parts.0 in
    rw (ends.1, ends.0) (ap (onto_first byte) (one_line second rest parts.1))

-- what a line says by itself
abbrev pub said : Bool → Option ListedFile → Result (List ListedFile) ℕ
said blank file = cond blank (Ok []) (onto_or file 1 (Ok []))

pub line_says : (algorithm : Algorithm) (line : List ℕ) → has_end line ≡ false
    → entries_of algorithm line ≡ said (list_all is_blank line) (file_in algorithm line)
unfolding files_from lines_of
line_says algorithm [] h = refl
line_says algorithm (byte ∷ rest) h =
    ap (files_from algorithm 1) (one_line byte rest h)

-- ---- all lines

abbrev pub Agrees : Result (List ListedFile) ℕ → List ℕ → List NumberedFile → Type 0
Agrees (Ok files) malformed found = (malformed ≡ []) × (files_in found ≡ files)
Agrees (Err line) malformed found = has_some malformed ≡ true

line_agrees : (number : ℕ) (blank : Bool) (file : Option ListedFile)
    (others : Result (List ListedFile) ℕ) (malformed : List ℕ) (found : List NumberedFile)
    → Agrees others malformed found
    → Agrees (cond blank others (onto_or file number others))
    (if_malformed number (said blank file) ++ malformed)
    (numbered number (said blank file) ++ found)
line_agrees number true file others malformed found h = h
line_agrees number false None others malformed found h = refl
line_agrees number false (Some file) (Ok files) malformed found (none, same) =
    (none, ap (λ fs. file ∷ fs) same)
line_agrees number false (Some file) (Err line) malformed found h = h

pub lines_agree : (algorithm : Algorithm) (number : ℕ) (lines : List (List ℕ)) → Endless lines
    → Agrees (files_from algorithm number lines) (malformed_from algorithm number lines)
    (numbered_from algorithm number lines)
unfolding files_from malformed_from numbered_from
lines_agree algorithm number [] all = (refl, refl)
lines_agree algorithm number (line ∷ lines) (first, others) =
    rw (line_says algorithm line first)
    (line_agrees number (list_all is_blank line) (file_in algorithm line)
    (files_from algorithm (number + 1) lines) (malformed_from algorithm (number + 1) lines)
    (numbered_from algorithm (number + 1) lines)
    (lines_agree algorithm (number + 1) lines others))

pub text_agrees : (algorithm : Algorithm) (text : List ℕ)
    → Agrees (entries_of algorithm text) (malformed_from algorithm 1 (lines_of text))
    (numbered_from algorithm 1 (lines_of text))
text_agrees algorithm text = lines_agree algorithm 1 (lines_of text) (endless text)

-- what the lines list, where the text is read
pub listed_by_line : (algorithm : Algorithm) (text : List ℕ) (files : List ListedFile)
    → entries_of algorithm text ≡ Ok files
    → files_in (numbered_from algorithm 1 (lines_of text)) ≡ files
listed_by_line algorithm text files h =
    (rw h at (text_agrees algorithm text)).1
