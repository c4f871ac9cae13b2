-- A word with one bit set, as `word | 1 << k` computes it.
use Rattle.std.specs.Prelude.{◌≡◌, ℕ, ◌*◌, ◌%◌, ◌/◌, ◌^◌, ◌<◌, true, ◌==◌, nat_lt, bit_or, bit_and}
use Rattle.std.specs.Int.{bit_at, w64}
use Rattle.std.proofs.Common.{inl, inr, lt-ltb, lit<}
use Rattle.std.proofs.lemmas.Bool.{cases_eq, and_parts, eqb-true}
use Rattle.std.proofs.Math.Nat.{mod-lt}
use Rattle.std.proofs.lemmas.Nat.{or_lt}
use Rattle.std.proofs.lemmas.Nat.Bits.{bit_at_set_same, bit_at_set_other, shr_and_one}
use Rattle.fed_types.specs.Lists.{is_in}
use Rattle.fed_types.specs.Voters.{with_voter}
use Rattle.fed_types.specs.inner.Words.{bits_below}
use Rattle.fed_types.specs.inner.WordLaws.{is_in-bits_below, same_bits, one_more}

-- the set of the word is the old one and k
pub bits_below-set : (word k : ℕ) → k < 64
    → bits_below (bit_or word (1 * 2 ^ k % 2 ^ 64)) 64 ≡ with_voter (bits_below word 64) k
bits_below-set word k l =
    one_more word (bit_or word (1 * 2 ^ k % 2 ^ 64)) k 64 l (bit_at_set_same w64 word k l)
    (bit_at_set_other w64 word k l)

-- what stands in the list is a one of the word
bit_in : (word k : ℕ) → is_in (bits_below word 64) k ≡ true → bit_at word k ≡ 1
bit_in word k e =
    let both = rw (is_in-bits_below word 64 k) at e in
    eqb-true (bit_at word k) 1 (and_parts (nat_lt k 64) (bit_at word k == 1) both).1

-- a number k that is in the set already changes nothing
pub bits_below-set_again : (word k : ℕ) → k < 64 → is_in (bits_below word 64) k ≡ true
    → bits_below (bit_or word (1 * 2 ^ k % 2 ^ 64)) 64 ≡ bits_below word 64
bits_below-set_again word k l e =
    same_bits word (bit_or word (1 * 2 ^ k % 2 ^ 64)) 64
    (λ i less. elim (cases_eq i k) [
      | inl same ↦ rw (same, bit_at_set_same w64 word k l, bit_in word k e)
      | inr differ ↦ bit_at_set_other w64 word k l i differ
    ])

-- the test `word >> k & 1 == 1`
pub is_in-bit : (word k : ℕ) → k < 64
    → is_in (bits_below word 64) k ≡ (bit_and (word / 2 ^ k) 1 == 1)
is_in-bit word k l = rw (is_in-bits_below word 64 k, lt-ltb k 64 l, shr_and_one word k)

-- the word stays one of 64 bits
pub set_fits : (word k : ℕ) → word < 2 ^ 64 → bit_or word (1 * 2 ^ k % 2 ^ 64) < 2 ^ 64
set_fits word k h = or_lt 64 word (1 * 2 ^ k % 2 ^ 64) h (mod-lt (1 * 2 ^ k) (lit< tt))
