-- What digits spell.
use Rattle.std.proofs.Common.{◌≡◌, ℕ, ◌+◌, ◌-◌, ◌*◌, ◌<◌, ◌≤◌, true, false, List}
use Rattle.std.proofs.Common.{[], ◌∷◌, length, get_or, drop, Some, None, refl, ap, ◌∙◌, add-one}
use Rattle.std.proofs.Common.{arith}
use Rattle.std.proofs.Math.Seq.{drop-cons}
use Rattle.std.specs.Char.{is_ascii_digit}
use Rattle.std.proofs.lemmas.List.{drop_all}
use Rattle.std.specs.Str.{all_ascii_digits}
use Rattle.tokens.specs.Words.{value_after, number_in}

-- more digits make no smaller number
pub value_after-ge : (n : ℕ) (digits : List ℕ) → n ≤ value_after n digits
value_after-ge n [] = omega arith
value_after-ge n (digit ∷ digits) = omega (arith, value_after-ge (10 * n + (digit - 48)) digits)

module _ (low high : ℕ) (word : List ℕ) where
  -- a word that is not all digits spells no number
  pub number_in-no_digits : all_ascii_digits word ≡ false → number_in low high word ≡ None
  unfolding number_in
  number_in-no_digits h = grind arith

  -- a number beyond the range is refused
  pub number_in-beyond : high < value_after 0 word → number_in low high word ≡ None
  unfolding number_in
  number_in-beyond h = grind arith

  -- a number below the range is refused
  pub number_in-below : value_after 0 word < low → number_in low high word ≡ None
  unfolding number_in
  number_in-below h = grind arith

  -- no digits spell no number
  pub number_in-empty : length word ≡ 0 → number_in low high word ≡ None
  unfolding number_in
  number_in-empty h = grind arith

  -- digits of a value in the range spell it
  pub number_in-digits : 0 < length word → all_ascii_digits word ≡ true
      → low ≤ value_after 0 word → value_after 0 word ≤ high
      → number_in low high word ≡ Some (value_after 0 word)
  unfolding number_in
  number_in-digits some digits least most = grind arith

-- a digit more
pub value_after-drop : (v i : ℕ) (word : List ℕ) → i < length word
    → value_after v (drop i word)
    ≡ value_after (10 * v + (get_or word i 0 - 48)) (drop (i + 1) word)
value_after-drop v i word within = ap (value_after v) (drop-cons word i 0 within) ∙ rw add-one refl

-- digits whose value is beyond the range at one of them
pub number_in-grown : (low high v i : ℕ) (word : List ℕ) → i < length word
    → value_after 0 word ≡ value_after v (drop i word)
    → high < 10 * v + (get_or word i 0 - 48) → number_in low high word ≡ None
number_in-grown low high v i word within is grown =
    let more = value_after-ge (10 * v + (get_or word i 0 - 48)) (drop (i + 1) word) in
    number_in-beyond low high word (omega (arith, is, value_after-drop v i word within, more))

-- digits, and then a byte that is none
pub all_ascii_digits-stopped : (i : ℕ) (word : List ℕ) → i < length word
    → is_ascii_digit (get_or word i 0) ≡ false → all_ascii_digits (drop i word) ≡ false
all_ascii_digits-stopped i word within stops = rw (drop-cons word i 0 within, stops) refl

-- what digits spell that were all read
pub value_after-read : (v i : ℕ) (word : List ℕ) → length word ≤ i → value_after v (drop i word) ≡ v
value_after-read v i word all = ap (value_after v) (drop_all i word all)

pub all_ascii_digits-read : (i : ℕ) (word : List ℕ) → length word ≤ i
    → all_ascii_digits (drop i word) ≡ true
all_ascii_digits-read i word all = ap all_ascii_digits (drop_all i word all)
