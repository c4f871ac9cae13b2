-- No line is named twice, where the numbers of the lines rise.
use Rattle.std.proofs.Common.{ℕ, ◌+◌, ◌<◌, ◌≤◌, Bool, true, false, List, [], ◌∷◌, ◌++◌}
use Rattle.std.proofs.Common.{Result, Ok, Err, inl, inr, subst, arith}
use Rattle.bag_text.specs.declared.algorithm.Algorithm.{Algorithm}
use Rattle.bag_text.specs.ListedFile.{ListedFile}
use Rattle.bag_text.specs.Readers.{entries_of}
use Rattle.bag_check.specs.Manifests.{is_listed}
use Rattle.bag_explain.specs.Lines.{NumberedFile, if_malformed, malformed_from}
use Rattle.bag_explain.specs.Places.{when, repeated_after}
use Rattle.bag_explain.proofs.Members.{In}
use Rattle.bag_explain.proofs.RisingLines.{Rises, rises_below, from_there}
use Rattle.bag_explain.proofs.Pairs.{Pairs}

-- ---- entries

pub rising_pairs : (number : ℕ) (entries : List NumberedFile) → Rises number entries
    → Pairs (λ (a b : NumberedFile). a.line < b.line) entries
rising_pairs number [] h = tt
rising_pairs number (entry ∷ entries) (least, others) = (
  λ b there. let above = from_there (entry.line + 1) entries b others there in omega (arith, above),
  rising_pairs (entry.line + 1) entries others,
)

-- those that are repeated rise too
pub repeated_rise : (before : List ListedFile) (number : ℕ) (entries : List NumberedFile)
    → Rises number entries → Rises number (repeated_after before entries)
unfolding repeated_after
repeated_rise before number [] h = tt
repeated_rise before number (entry ∷ entries) (least, others) =
    go (is_listed entry.file.path before)
    (repeated_rise (before ++ entry.file ∷ []) (entry.line + 1) entries others)
  where
    go : (test : Bool)
        → Rises (entry.line + 1) (repeated_after (before ++ entry.file ∷ []) entries)
        → Rises number (when test (entry ∷ [])
        ++ repeated_after (before ++ entry.file ∷ []) entries)
    go true h = (least, h)
    go false h =
        rises_below number (entry.line + 1) (repeated_after (before ++ entry.file ∷ []) entries)
        (omega (arith, least)) h

-- ---- malformed lines

malformed_above : (number : ℕ) (read : Result (List ListedFile) ℕ) (line : ℕ) (others : List ℕ)
    → ((k : ℕ) → In k others → number + 1 ≤ k) → In line (if_malformed number read ++ others)
    → number ≤ line
malformed_above number (Ok files) line others above h =
    let k = above line h in omega (arith, k)
malformed_above number (Err first) line others above (inl e) =
    subst (λ k. number ≤ k) e (omega arith)
malformed_above number (Err first) line others above (inr h) =
    let k = above line h in omega (arith, k)

from_here : (algorithm : Algorithm) (number : ℕ) (lines : List (List ℕ)) (line : ℕ)
    → In line (malformed_from algorithm number lines) → number ≤ line
unfolding malformed_from
from_here algorithm number [] line h = absurd h
from_here algorithm number (first ∷ lines) line h =
    malformed_above number (entries_of algorithm first) line
    (malformed_from algorithm (number + 1) lines) (from_here algorithm (number + 1) lines) h

pub malformed_pairs : (algorithm : Algorithm) (number : ℕ) (lines : List (List ℕ))
    → Pairs (λ (a b : ℕ). a < b) (malformed_from algorithm number lines)
unfolding malformed_from
malformed_pairs algorithm number [] = tt
malformed_pairs algorithm number (first ∷ lines) =
    go (entries_of algorithm first) (malformed_pairs algorithm (number + 1) lines)
  where
    go : (read : Result (List ListedFile) ℕ)
        → Pairs (λ (a b : ℕ). a < b) (malformed_from algorithm (number + 1) lines)
        → Pairs (λ (a b : ℕ). a < b)
        (if_malformed number read ++ malformed_from algorithm (number + 1) lines)
    go (Ok files) h = h
    go (Err line) h = (
      λ b there.
          let above = from_here algorithm (number + 1) lines b there in
          omega (arith, above),
      h,
    )
