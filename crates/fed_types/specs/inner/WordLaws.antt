-- A word of bits as the ascending list of the places of its ones.
use Rattle.std.specs.Prelude.{◌≡◌, ◌≢◌, ℕ, zero, suc, ◌+◌, ◌*◌, ◌%◌, ◌^◌, ◌<◌, ◌≤◌, Bool}
use Rattle.std.specs.Prelude.{true, false, ◌&&◌, ◌||◌, ◌==◌, nat_lt, List, [], ◌∷◌, ◌++◌}
use Rattle.std.specs.Prelude.{refl, if◌then◌else◌}
use Rattle.std.specs.Int.{bit_at}
use Rattle.std.proofs.Common.{arith, sym, ◌∙◌, ap, subst, inl, inr, append-nil}
use Rattle.std.proofs.Math.Nat.{mod-eq_of_lt}
use Rattle.std.proofs.lemmas.Nat.{mod-pow-add}
use Rattle.std.proofs.lemmas.Bool.{cases_eq, le-ltb}
use Rattle.std.proofs.lemmas.Bool.Decides.{nat_tests}
use Rattle.std.proofs.lemmas.Nat.Bits.{bit_at-lt}
use Rattle.fed_types.specs.Lists.{is_in}
use Rattle.fed_types.specs.inner.Words.{bits_below, word_of}
use Rattle.fed_types.specs.Voters.{with_voter}
use Rattle.fed_types.specs.Laws.Lists.{is_in-nil, is_in-append}
use Rattle.fed_types.specs.Laws.Voters.{AllBelow, with_voter-push, with_voter-last}
use Rattle.fed_types.specs.Laws.Voters.{with_voter-last_again}

-- no ones make no word
word_of-nil : word_of [] ≡ 0
unfolding word_of
word_of-nil = refl

-- the ones of two lists add up
word_of-append : (xs ys : List ℕ) → word_of (xs ++ ys) ≡ word_of xs + word_of ys
unfolding word_of
word_of-append [] ys = omega arith
word_of-append (x ∷ xs) ys = omega (arith, word_of-append xs ys)

-- one place in the word
word_of_bit : (n b : ℕ) → b < 2 → word_of (if b == 1 then n ∷ [] else []) ≡ b * 2 ^ n
unfolding word_of
word_of_bit n zero h = omega arith
word_of_bit n (suc zero) h = omega arith
word_of_bit n (suc (suc b)) h = absurd (omega arith)

-- the ones below n make the word's last n bits
word_of_below : (word n : ℕ) → word_of (bits_below word n) ≡ word % 2 ^ n
unfolding bits_below
word_of_below word zero = omega (arith, word_of-nil)
word_of_below word (suc n) =
    let more : suc n ≡ 1 + n = omega arith in
    word_of-append (bits_below word n) (if bit_at word n == 1 then n ∷ [] else [])
    ∙ (let here = word_of_below word n in
    let bit = word_of_bit n (bit_at word n) (bit_at-lt word n) in
    rw more (omega (arith, mod-pow-add word 1 n)))

-- a word of 64 bits from its ones
pub word_of-bits_below : (word : ℕ) → word < 2 ^ 64 → word_of (bits_below word 64) ≡ word
word_of-bits_below word h = word_of_below word 64 ∙ mod-eq_of_lt h

-- one place more: p says that the word has a one at i, and q that it has one at n
place_more : (n i : ℕ) (p q : Bool) → (i ≡ n → p ≡ q)
    → ((nat_lt i n && p) || is_in (if q then n ∷ [] else []) i) ≡ (nat_lt i (suc n) && p)
unfolding is_in
place_more n i true true h = grind (arith, nat_tests)
place_more n i true false h = grind (arith, nat_tests)
place_more n i false true h = grind (arith, nat_tests)
place_more n i false false h = grind (arith, nat_tests)

-- a place is in the list if it is below n and the word has a one there
pub is_in-bits_below : (word n i : ℕ)
    → is_in (bits_below word n) i ≡ (nat_lt i n && (bit_at word i == 1))
unfolding bits_below
is_in-bits_below word zero i = rw (is_in-nil i, le-ltb i 0 (omega arith))
is_in-bits_below word (suc n) i =
    is_in-append (bits_below word n) (if bit_at word n == 1 then n ∷ [] else []) i
    ∙ ap (λ t. t || is_in (if bit_at word n == 1 then n ∷ [] else []) i) (is_in-bits_below word n i)
    ∙ place_more n i (bit_at word i == 1) (bit_at word n == 1) (λ e. ap (λ k. bit_at word k == 1) e)

-- words with the same bits have the same list
pub same_bits : (word word' n : ℕ) → ((i : ℕ) → i < n → bit_at word' i ≡ bit_at word i)
    → bits_below word' n ≡ bits_below word n
unfolding bits_below
same_bits word word' zero h = refl
same_bits word word' (suc n) h =
    let before = same_bits word word' n (λ i l. h i (omega arith)) in
    rw (before, h n (omega arith))

-- one place more, below m
AllBelow-bit : (xs : List ℕ) (n m : ℕ) (t : Bool) → n < m → AllBelow xs m
    → AllBelow (xs ++ (if t then n ∷ [] else [])) m
AllBelow-bit [] n m true l h = (l, tt)
AllBelow-bit [] n m false l h = tt
AllBelow-bit (x ∷ xs) n m t l h = (h.0, AllBelow-bit xs n m t l h.1)

-- the places below n are all below any number from n on
AllBelow-bits_below : (word n m : ℕ) → n ≤ m → AllBelow (bits_below word n) m
unfolding bits_below
AllBelow-bits_below word zero m l = tt
AllBelow-bits_below word (suc n) m l =
    AllBelow-bit (bits_below word n) n m (bit_at word n == 1) (omega arith)
    (AllBelow-bits_below word n m (omega arith))

-- ---- one more at a place k, where the list without the place is xs
one_more_after : (xs : List ℕ) (k n : ℕ) (t : Bool) → k < n
    → with_voter (xs ++ (if t then n ∷ [] else [])) k ≡ with_voter xs k
    ++ (if t then n ∷ [] else [])
one_more_after xs k n true l = with_voter-push xs k n l
one_more_after xs k n false l = simp append-nil

-- one more at n itself
one_more_here : (xs : List ℕ) (n : ℕ) (t : Bool) → AllBelow xs n
    → with_voter (xs ++ (if t then n ∷ [] else [])) n ≡ xs ++ n ∷ []
one_more_here xs n true h = with_voter-last_again xs n h
one_more_here xs n false h = simp append-nil (with_voter-last xs n h)

-- one more at a place is one voter more
pub one_more : (word word' k n : ℕ) → k < n → bit_at word' k ≡ 1
    → ((i : ℕ) → i ≢ k → bit_at word' i ≡ bit_at word i)
    → bits_below word' n ≡ with_voter (bits_below word n) k
unfolding bits_below
one_more word word' k zero l one other = absurd (omega arith)
one_more word word' k (suc n) l one other =
    elim (cases_eq k n) [
      | inl same ↦
          let before = same_bits word word' n (λ i less. other i (λ e. omega arith)) in
          let here : bit_at word' n ≡ 1 = subst (λ (i : ℕ). bit_at word' i ≡ 1) same one in
          rw (before, here, same)
          (sym (one_more_here (bits_below word n) n (bit_at word n == 1)
          (AllBelow-bits_below word n n (omega arith))))
      | inr differ ↦
          let before = one_more word word' k n (omega arith) one other in
          rw (before, other n (λ e. differ (sym e)))
          (sym (one_more_after (bits_below word n) k n (bit_at word n == 1) (omega arith)))
    ]
