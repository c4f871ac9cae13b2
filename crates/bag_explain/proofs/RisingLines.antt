-- The numbers of the lines that list files rise.
use Rattle.std.proofs.Common.{ℕ, ◌+◌, ◌≤◌, List, [], ◌∷◌, ◌++◌, Result, Ok, Err, subst}
use Rattle.std.proofs.Common.{inl, inr, arith, ap}
use Rattle.bag_text.specs.declared.algorithm.Algorithm.{Algorithm}
use Rattle.bag_text.specs.ListedFile.{ListedFile}
use Rattle.bag_text.specs.Readers.{entries_of}
use Rattle.bag_explain.specs.Lines.{NumberedFile, numbered, numbered_from}
use Rattle.bag_explain.proofs.Members.{In}

-- each number is above the one before, and the first is this one or above
abbrev pub Rises : ℕ → List NumberedFile → Type 0
Rises number [] = Unit {0}
Rises number (entry ∷ entries) = (number ≤ entry.line) × Rises (entry.line + 1) entries

-- what rises from a number rises from each below it
pub rises_below : (low number : ℕ) (entries : List NumberedFile) → low ≤ number
    → Rises number entries → Rises low entries
rises_below low number [] h all = tt
rises_below low number (entry ∷ entries) h (first, others) = (omega arith, others)

-- one line more before them
line_rises : (number : ℕ) (read : Result (List ListedFile) ℕ) (entries : List NumberedFile)
    → Rises (number + 1) entries → Rises number (numbered number read ++ entries)
line_rises number (Ok []) entries h = rises_below number (number + 1) entries (omega arith) h
line_rises number (Ok (file ∷ others)) entries h = (omega arith, h)
line_rises number (Err line) entries h =
    rises_below number (number + 1) entries (omega arith) h

-- what the lines list, the first of which has this number
pub rises : (algorithm : Algorithm) (number : ℕ) (lines : List (List ℕ))
    → Rises number (numbered_from algorithm number lines)
unfolding numbered_from
rises algorithm number [] = tt
rises algorithm number (line ∷ lines) =
    line_rises number (entries_of algorithm line) (numbered_from algorithm (number + 1) lines)
    (rises algorithm (number + 1) lines)

-- each has this number or one above
pub from_there : (number : ℕ) (entries : List NumberedFile) (entry : NumberedFile)
    → Rises number entries → In entry entries → number ≤ entry.line
from_there number [] entry all h = absurd h
from_there number (first ∷ entries) entry (least, others) (inl e) =
    subst (λ n. number ≤ n) (ap (λ (f : NumberedFile). f.line) e) least
from_there number (first ∷ entries) entry (least, others) (inr h) =
    let above = from_there (first.line + 1) entries entry others h in
    omega (arith, least, above)
