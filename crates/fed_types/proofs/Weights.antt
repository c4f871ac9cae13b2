-- The weights of members in a slice and in the array that keeps them.
use Rattle.std.specs.Prelude.{◌≡◌, ℕ, ◌<◌, ◌≤◌, ◌+◌, ◌-◌, ◌==◌, false, List, ◌++◌, length, take}
use Rattle.std.specs.Prelude.{drop, replicate, slice_index, refl, Bool, ◌*◌}
use Rattle.std.specs.List.{All, list_any}
use Rattle.std.proofs.Common.{arith, sym, ◌∙◌, inl, inr, eq-eqb, length-append}
use Rattle.std.proofs.Math.Seq.{drop-append_seam}
use Rattle.std.proofs.lemmas.Bool.{cases_eq, cases_lt}
use Rattle.std.proofs.lemmas.List.{length-replicate, length-drop, drop-replicate, take-replicate}
use Rattle.std.proofs.lemmas.List.{take_at, get_or-replicate, get_or_past, get_or-take, get_or-drop}
use Rattle.std.proofs.lemmas.List.{length-take-le}
use Rattle.std.proofs.lemmas.List.Elements.{All-from_get_or, All-get_or}
use Rattle.std.proofs.lemmas.List.Folds.{list_any_at}
use Rattle.fed_types.specs.Sites.{AreWeights, IsMemberCount, IsWeight, Membership, weight_of}
use Rattle.fed_types.specs.inner.Padded.{AreKept, IsPadded, room, total_of}
use Rattle.fed_types.proofs.Sums.{among, among_most}

-- a number of a list without 0 is at least 1
positive : (ws : List ℕ) (i : ℕ) → list_any (λ y. y == 0) ws ≡ false → i < length ws
    → 1 ≤ slice_index ws i
positive ws i none l =
    elim (cases_eq (slice_index ws i) 0) [
      | inl zero ↦
          absurd (cc (list_any_at (λ y. y == 0) ws i 0 l (eq-eqb (slice_index ws i) 0 zero)))
      | inr differ ↦ omega arith
    ]

-- bytes without 0 are weights
pub are_weights : (ws : List ℕ) → ((k : ℕ) → slice_index ws k < 256)
    → list_any (λ y. y == 0) ws ≡ false → All IsWeight ws
are_weights ws fits none =
    All-from_get_or IsWeight ws 0 (λ i l. (positive ws i none l, omega (arith, fits i)))

-- no site's weight is above the greatest; one that is no member has none
pub weight_most : (m : Membership) → AreWeights m.weights → (site : ℕ) → weight_of m site ≤ 255
weight_most m weights site =
    elim (cases_lt (site - 1) (length m.weights)) [
      | inl member ↦ (All-get_or IsWeight m.weights (site - 1) 0 member weights.1).1
      | inr stranger ↦ omega (arith, get_or_past m.weights (site - 1) 0 stranger)
    ]

-- a member's is at least 1
pub weight_least : (m : Membership) → AreWeights m.weights → (site : ℕ)
    → 1 ≤ site → site ≤ length m.weights → 1 ≤ weight_of m site
weight_least m weights site low high =
    (All-get_or IsWeight m.weights (site - 1) 0 (omega arith) weights.1).0

-- and a stranger's is 0
pub weight_past : (m : Membership) (site : ℕ) → length m.weights < site → weight_of m site ≡ 0
weight_past m site beyond = get_or_past m.weights (site - 1) 0 (omega arith)

-- the zeros that the array begins with
abbrev zeros : List ℕ
zeros = replicate room 0

-- weights written over zeros are padded
pub made_padded : (ws : List ℕ) → length ws ≤ room
    → IsPadded (length ws) (ws ++ drop (length ws) zeros)
made_padded ws l = (
  length-append ws (drop (length ws) zeros)
      ∙ rw (length-drop (length ws) zeros, length-replicate {A = ℕ} room 0) (omega arith),
  drop-append_seam ws (drop (length ws) zeros) ∙ drop-replicate (length ws) room 0,
)

-- what members of these weights keep
pub made_weights : (ws : List ℕ) (total : ℕ) → IsMemberCount (length ws) → All IsWeight ws
    → total ≡ total_of ws → AreKept (length ws) total (ws ++ drop (length ws) zeros)
made_weights ws total count all is =
    let again = take_at ws (drop (length ws) zeros) (length ws) refl in
    (count, rw again all, made_padded ws count.1, rw again is)

-- a place of the array, whether a weight or a zero
pub padded_at : (count : ℕ) (bytes : List ℕ) (i : ℕ) → count ≤ room → IsPadded count bytes
    → slice_index bytes i ≡ slice_index (take count bytes) i
padded_at count bytes i most h =
    elim (cases_lt i count) [
      | inl member ↦ sym (get_or-take count bytes i 0 member)
      | inr beyond ↦
          let place : i ≡ count + (i - count) = omega arith in
          let known = length-take-le count bytes (omega arith) in
          rw (get_or_past (take count bytes) i 0 (omega arith), place)
          (rw (← get_or-drop count bytes (i - count) 0, h.1) (zero_at (room - count) (i - count)))
    ]
  where
    zero_at : (n j : ℕ) → slice_index (replicate n 0) j ≡ 0
    zero_at n j = elim (cases_lt j n) [
      | inl l ↦ get_or-replicate {A = ℕ} n j 0 0 l
      | inr l ↦ get_or_past (replicate n 0) j 0 (omega (arith, length-replicate {A = ℕ} n 0))
    ]

-- ---- weights of 1
pub ones : (n count : ℕ) → n ≡ count → n ≤ room
    → take {A = ℕ} n (replicate room 1) ≡ replicate count 1
ones n count e l = rw (← e) (take-replicate n room 1 l)

-- those that pass a test weigh no more than all could
pub weigh_most : (m : Membership) (p : ℕ → Bool) → AreWeights m.weights
    → among (weight_of m) p (length m.weights) ≤ 63 * 255
weigh_most m p weights =
    let most = among_most (weight_of m) p 255 (length m.weights) (weight_most m weights) in
    omega (arith, weights.0.1)
