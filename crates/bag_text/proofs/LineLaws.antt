-- What the first line of a text is, and the lines after it.
use Rattle.std.proofs.Common.{◌≡◌, ◌≢◌, ℕ, zero, suc, ◌<◌, ◌≤◌, Bool, true, false, ◌&&◌}
use Rattle.std.proofs.Common.{eqb, List, [], ◌∷◌, ◌++◌, length, take, drop, get_or, Some, None}
use Rattle.std.proofs.Common.{refl, ap, ◌∙◌, arith}
use Rattle.std.specs.List.{onto_first, position, position_or_len}
use Rattle.std.specs.Str.{bytes_eq}
use Rattle.std.proofs.lemmas.Bool.{and_parts, or_parts, eqb-true}
use Rattle.std.proofs.Math.Dec.{eqb-suc-zero}
use Rattle.std.proofs.lemmas.List.{append-nil}
use Rattle.std.proofs.lemmas.List.Quantifiers.{position-Some}
use Rattle.bag_text.proofs.Lists.{position-none, prefix_len-full}
use Rattle.bag_text.specs.Lines.{is_line_end, lines_of}
use Rattle.bag_text.specs.inner.Starts.{starts_with_line_end}

-- a byte that ends no line is put before the next line
lines_of-other : (byte : ℕ) (rest : List ℕ) → is_line_end byte ≡ false
    → lines_of (byte ∷ rest) ≡ onto_first byte (lines_of rest)
unfolding lines_of
lines_of-other byte rest h =
    let none = or_parts (eqb byte 10) (eqb byte 13) h in rw (none.0, none.1) refl

-- CR LF ends one line
pub lines_of-both : (ended : List ℕ) → bytes_eq (take 2 ended) (13 ∷ 10 ∷ []) ≡ true
    → lines_of ended ≡ [] ∷ lines_of (drop 2 ended)
unfolding lines_of
lines_of-both [] h = absurd cc
lines_of-both (a ∷ []) h = let e : false ≡ true = (and_parts (eqb a 13) false h).1 in absurd cc
lines_of-both (a ∷ b ∷ rest) h =
    let p = and_parts (eqb a 13) (eqb b 10 && true) h in
    let q = and_parts (eqb b 10) true p.1 in
    rw (eqb-true a 13 p.0, eqb-true b 10 q.0) refl

and-true : (b : Bool) → (b && true) ≡ b
and-true true = refl
and-true false = refl

-- any other end ends a line
pub lines_of-end : (ended : List ℕ) → starts_with_line_end ended ≡ true
    → bytes_eq (take 2 ended) (13 ∷ 10 ∷ []) ≡ false → lines_of ended ≡ [] ∷ lines_of (drop 1 ended)
unfolding lines_of
lines_of-end [] e h = absurd cc
lines_of-end (a ∷ []) e h = rw (h, e) refl
lines_of-end (a ∷ b ∷ rest) e h =
    let other = rw (and-true (eqb b 10)) at h in rw (other, e) refl

first_by_index : (text : List ℕ) (n : ℕ) (more : List (List ℕ)) → n < length text
    → ((k : ℕ) → k < n → is_line_end (get_or text k 0) ≡ false) → lines_of (drop n text) ≡ [] ∷ more
    → lines_of text ≡ take n text ∷ more
first_by_index [] n more lt none h = absurd (omega arith)
first_by_index (byte ∷ rest) zero more lt none h = h
first_by_index (byte ∷ rest) (suc n) more lt none h =
    lines_of-other byte rest (none 0 (omega arith))
    ∙ ap (onto_first byte) (first_by_index rest n more (omega arith)
    (λ k below. none (suc k) (omega arith)) h)

-- a text up to its first end is the first line
pub lines_of-first : (text : List ℕ) (n : ℕ) (more : List (List ℕ))
    → position is_line_end text ≡ Some n → lines_of (drop n text) ≡ [] ∷ more
    → lines_of text ≡ take n text ∷ more
lines_of-first text n more at h =
    let found = position-Some is_line_end text n 0 at in
    first_by_index text n more found.0 found.2 h

last_line : (byte : ℕ) (rest : List ℕ)
    → suc (length rest) ≤ position_or_len is_line_end (byte ∷ rest)
    → lines_of (byte ∷ rest) ≡ (byte ∷ rest) ∷ []
unfolding lines_of
last_line byte [] full = lines_of-other byte [] (prefix_len-full is_line_end byte [] full).0
last_line byte (next ∷ rest) full =
    let none = prefix_len-full is_line_end byte (next ∷ rest) full in
    lines_of-other byte (next ∷ rest) none.0 ∙ ap (onto_first byte) (last_line next rest none.1)

-- a text without an end is its one line
pub lines_of-last : (text : List ℕ) → text ≢ [] → position is_line_end text ≡ None
    → lines_of text ≡ text ∷ []
lines_of-last [] h none = absurd (h refl)
lines_of-last (byte ∷ rest) h none =
    last_line byte rest (position-none is_line_end (byte ∷ rest) none)

starts_by_index : (text : List ℕ) (n : ℕ) → n < length text → is_line_end (get_or text n 0) ≡ true
    → starts_with_line_end (drop n text) ≡ true
starts_by_index [] n lt h = absurd (omega arith)
starts_by_index (byte ∷ rest) zero lt h = h
starts_by_index (byte ∷ rest) (suc n) lt h = starts_by_index rest n (omega arith) h

-- what comes at the first end
pub starts-at_first : (text : List ℕ) (n : ℕ) → position is_line_end text ≡ Some n
    → starts_with_line_end (drop n text) ≡ true
starts-at_first text n at =
    let found = position-Some is_line_end text n 0 at in
    starts_by_index text n found.0 found.1

pub lines_of-nil : lines_of [] ≡ []
unfolding lines_of
lines_of-nil = refl

-- where nothing is left, the lines so far are all of them
pub lines_of-empty : (text : List ℕ) → true ≡ eqb (length text) 0 → lines_of text ≡ []
unfolding lines_of
lines_of-empty [] h = refl
lines_of-empty (byte ∷ rest) h = absurd (cc (h, eqb-suc-zero (length rest)))

pub lines_of-ended : (rest : List ℕ) (found all : List (List ℕ)) → true ≡ eqb (length rest) 0
    → found ++ lines_of rest ≡ all → found ≡ all
lines_of-ended rest found all e h = rw (lines_of-empty rest e, append-nil found) at h
