-- The weights of a federation's members, from the array that keeps them, and back.
use Rattle.std.specs.Prelude.{◌≡◌, ℕ, ◌≤◌, List, length, take}
use Rattle.std.proofs.Common.{arith, ◌∙◌, sym, ap}
use Rattle.std.proofs.lemmas.List.{take-append-drop, length-take-le}
use Rattle.fed_types.specs.inner.Padded.{AreKept, IsPadded, padded, room, total_of}

-- the array is its weights, padded
pub padded_again : (count : ℕ) (bytes : List ℕ) → count ≤ room → IsPadded count bytes
    → padded (take count bytes) ≡ bytes
padded_again count bytes most h =
    let known = length-take-le count bytes (omega (arith, h.0)) in
    rw (known, ← h.1) (take-append-drop count bytes)

-- what is made of the count, the total and the array is made of what they keep
pub given_back : {A : Type 0} (made : ℕ → ℕ → List ℕ → A) (count total : ℕ) (bytes : List ℕ)
    → AreKept count total bytes
    → made (length (take count bytes)) (total_of (take count bytes)) (padded (take count bytes))
    ≡ made count total bytes
given_back made count total bytes h =
    let known = length-take-le count bytes (omega (arith, h.0.1, h.2.0)) in
    ap (λ (n : ℕ). made n (total_of (take count bytes)) (padded (take count bytes))) known
    ∙ ap (λ (t : ℕ). made count t (padded (take count bytes))) (sym h.3)
    ∙ ap (λ (bs : List ℕ). made count total bs) (padded_again count bytes h.0.1 h.2)
