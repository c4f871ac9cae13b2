-- The elements of a text are bytes.
use Rattle.std.proofs.Common.{◌≡◌, ℕ, ◌<◌, true, ltb, List, [], ◌∷◌, All, inl, inr, arith}
use Rattle.std.specs.Str.{IsUtf8}
use Rattle.std.proofs.lemmas.Bool.{and_parts, cond_both, ltb-true}
use Rattle.std.proofs.lemmas.List.Elements.{All-nil, All-cons, All-append}
use Rattle.percent_encoding.proofs.PercentLemmas.{IsByte}
use lib.Utf8.{scalar, scalars, encode, encodes, scalar_cases}

All-encode : (c : ℕ) → c < 1114112 → All IsByte (encode c)
unfolding encode
All-encode c small =
    cond_both (ltb c 128) _ _ (All IsByte)
    (λ a. let lt = ltb-true c 128 a in search (arith, All-cons, All-nil))
    (λ _. cond_both (ltb c 2048) _ _ (All IsByte)
    (λ a. let lt = ltb-true c 2048 a in search (arith, All-cons, All-nil))
    (λ _. cond_both (ltb c 65536) _ _ (All IsByte)
    (λ a. let lt = ltb-true c 65536 a in search (arith, All-cons, All-nil))
    (λ _. search (arith, All-cons, All-nil))))

small_from_scalar : (c : ℕ) → scalar c ≡ true → c < 1114112
small_from_scalar c is =
    elim (scalar_cases c is) [
      | inl low ↦ omega arith
      | inr high ↦ high.1
    ]

All-encodes : (cs : List ℕ) → scalars cs ≡ true → All IsByte (encodes cs)
All-encodes [] are = All-nil IsByte
All-encodes (c ∷ cs) are =
    let parts = and_parts (scalar c) (scalars cs) are in
    All-append IsByte (encode c) (encodes cs) (All-encode c (small_from_scalar c parts.0))
    (All-encodes cs parts.1)

pub IsByte-from_utf8 : (text : List ℕ) → IsUtf8 text → All IsByte text
IsByte-from_utf8 text is = rw (← is.1.1) (All-encodes is.0 is.1.0)
