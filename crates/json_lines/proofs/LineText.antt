-- What is written for the bytes up to the end of a line, and for bytes among which no line ends.
use Rattle.std.proofs.Common.{◌≡◌, ℕ, ◌+◌, ◌<◌, Bool, false, List, [], ◌∷◌, ◌++◌, length}
use Rattle.std.proofs.Common.{take, Option, None, Some, Result, Ok, Err, refl, ap, sym, ◌∙◌}
use Rattle.std.proofs.Common.{append-nil, append_assoc, ◌⊎◌, inl, inr, arith}
use Rattle.std.specs.Prelude.{◌==◌, position}
use Rattle.std.specs.Result.{OnOk, OnErr}
use Rattle.std.specs.Io.KnownBytes.{Appends}
use Rattle.std.specs.List.{All, position_or_len}
use Rattle.std.proofs.Math.ListN.{get_or}
use Rattle.std.proofs.lemmas.Bool.{eqb-true, cases_lt, lt-ltb}
use Rattle.std.proofs.lemmas.Grind.{common_steps}
use Rattle.std.proofs.lemmas.List.{take_all, take_more}
use Rattle.std.proofs.lemmas.List.Elements.{All-from_get_or, All-head, All-tail}
use Rattle.std.proofs.lemmas.List.Quantifiers.{position-Some}
use Rattle.std.proofs.lemmas.List.Sums.{fails_before_first}
use Rattle.std.proofs.KnownBytes.{Appends-nil}
use Rattle.json_lines.specs.Lines.{json_of, json_text, begun_after}

-- LF
abbrev pub ends : ℕ → Bool
ends b = b == 10

-- the byte ends no line
abbrev pub GoesOn : ℕ → Type 0
GoesOn b = ends b ≡ false

-- ---- bytes among which no line ends

text_none : (begun front : List ℕ) → All GoesOn front → json_text begun front ≡ []
text_none begun [] on = refl
text_none begun (b ∷ bytes) on =
    rw (All-head GoesOn b bytes on)
    (text_none (begun ++ b ∷ []) bytes (All-tail GoesOn b bytes on))

begun_more : (begun front : List ℕ) → All GoesOn front → begun_after begun front ≡ begun ++ front
begun_more begun [] on = sym (append-nil begun)
begun_more begun (b ∷ bytes) on =
    rw (All-head GoesOn b bytes on)
    (begun_more (begun ++ b ∷ []) bytes (All-tail GoesOn b bytes on)
    ∙ append_assoc begun (b ∷ []) bytes)

-- ---- bytes up to the end of a line

text_ended : (begun front : List ℕ) → All GoesOn front
    → json_text begun (front ++ 10 ∷ []) ≡ json_of (begun ++ front)
text_ended begun [] on = append-nil (json_of begun) ∙ ap json_of (sym (append-nil begun))
text_ended begun (b ∷ bytes) on =
    rw (All-head GoesOn b bytes on)
    (text_ended (begun ++ b ∷ []) bytes (All-tail GoesOn b bytes on)
    ∙ ap json_of (append_assoc begun (b ∷ []) bytes))

begun_ended : (begun front : List ℕ) → All GoesOn front
    → begun_after begun (front ++ 10 ∷ []) ≡ []
begun_ended begun [] on = refl
begun_ended begun (b ∷ bytes) on =
    rw (All-head GoesOn b bytes on)
    (begun_ended (begun ++ b ∷ []) bytes (All-tail GoesOn b bytes on))

-- ---- where the first line ends

-- what is before the end, and what is up to it
record IsFirst (bytes : List ℕ) (end : ℕ) : Type 0 where
  pub front : All GoesOn (take end bytes)
  pub whole : take (end + 1) bytes ≡ take end bytes ++ 10 ∷ []

first_end : (bytes : List ℕ) (end : ℕ) → position ends bytes ≡ Some end → IsFirst bytes end
first_end bytes end is =
    let found = position-Some ends bytes end 0 is in
    let lf : get_or bytes end 0 ≡ 10 = eqb-true (get_or bytes end 0) 10 found.1 in
    record {
      front = All-from_get_or GoesOn (take end bytes) 0
          (λ k within. let low : k < end = grind (arith, common_steps) in
          let same : get_or (take end bytes) k 0 ≡ get_or bytes k 0 =
          grind (arith, common_steps) in
          rw same (found.2 k low));
      whole = take_more bytes end 0 found.0 ∙ ap (λ b. take end bytes ++ b ∷ []) lf;
    }

no_end : (bytes : List ℕ) → position ends bytes ≡ None → All GoesOn bytes
no_end bytes is =
    elim (cases_lt (position_or_len ends bytes) (length bytes)) [
      | inl within ↦
          let some : Some (position_or_len ends bytes) ≡ None =
          rw (lt-ltb (position_or_len ends bytes) (length bytes) within) at is in
          absurd (cc some)
      | inr beyond ↦
          All-from_get_or GoesOn bytes 0
          (λ k lt. fails_before_first ends bytes k 0 (omega arith))
    ]

-- ---- the same, of what is taken

pub ended_text : (begun bytes : List ℕ) (end : ℕ) → position ends bytes ≡ Some end
    → json_text begun (take (end + 1) bytes) ≡ json_of (begun ++ take end bytes)
ended_text begun bytes end is =
    let first = first_end bytes end is in
    ap (json_text begun) first.whole ∙ text_ended begun (take end bytes) first.front

pub ended_begun : (begun bytes : List ℕ) (end : ℕ) → position ends bytes ≡ Some end
    → begun_after begun (take (end + 1) bytes) ≡ []
ended_begun begun bytes end is =
    let first = first_end bytes end is in
    ap (begun_after begun) first.whole ∙ begun_ended begun (take end bytes) first.front

pub whole_text : (begun bytes : List ℕ) → position ends bytes ≡ None
    → json_text begun (take (length bytes) bytes) ≡ []
whole_text begun bytes is =
    ap (json_text begun) (take_all (length bytes) bytes (omega arith))
    ∙ text_none begun bytes (no_end bytes is)

pub whole_begun : (begun bytes : List ℕ) → position ends bytes ≡ None
    → begun_after begun (take (length bytes) bytes) ≡ begun ++ bytes
whole_begun begun bytes is =
    ap (begun_after begun) (take_all (length bytes) bytes (omega arith))
    ∙ begun_more begun bytes (no_end bytes is)

-- nothing was written for bytes among which no line ends
pub nothing_written : (known : Option (List ℕ)) (begun bytes : List ℕ)
    → position ends bytes ≡ None
    → Appends known known (json_text begun (take (length bytes) bytes))
nothing_written known begun bytes is =
    rw (whole_text begun bytes is) (Appends-nil known)

-- ---- what was written, whether the writer failed or not

pub part_written : {X E : Type 0} (old new : Option (List ℕ)) (bytes : List ℕ) (r : Result X E)
    → OnOk r (Appends old new bytes) → OnErr r ((n : ℕ) × Appends old new (take n bytes))
    → (n : ℕ) × Appends old new (take n bytes)
part_written old new bytes (Ok x) all part =
    (length bytes, rw (take_all (length bytes) bytes (omega arith)) all)
part_written old new bytes (Err e) all part = part

-- a part of the first line is a part of what is written for the bytes up to its end
pub part_of_line : (old new : Option (List ℕ)) (begun bytes memory : List ℕ) (end : ℕ)
    → position ends bytes ≡ Some end
    → (n : ℕ) × (Appends old new (take n (json_of (begun ++ take end bytes)))
    ⊎ Appends old new (take n memory))
    → (k n : ℕ) × (Appends old new (take n (json_text begun (take k bytes)))
    ⊎ Appends old new (take n memory))
part_of_line old new begun bytes memory end is part =
    (end + 1, part.0, rw (ended_text begun bytes end is) part.1)
