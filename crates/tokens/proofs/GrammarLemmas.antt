-- Words and numbers by cases are those that the functions read.
use Rattle.std.proofs.Common.{◌≡◌, ◌≢◌, ℕ, zero, suc, ◌+◌, ◌-◌, ◌*◌, ◌<◌, ◌≤◌, Bool, true, false}
use Rattle.std.proofs.Common.{not, eqb, leb, List, [], ◌∷◌, ◌++◌, length, replicate}
use Rattle.std.proofs.Common.{All, Some, refl, ap, inl, inr, append_assoc, arith}
use Rattle.std.specs.Prelude.{filter}
use Rattle.std.specs.List.{slice_split}
use Rattle.std.specs.Str.{all_ascii_digits}
use Rattle.std.specs.Char.{is_ascii_digit}
use Rattle.std.proofs.lemmas.Bool.{cases_eq, ne_eqb, and_parts, leb-true, le-leb}
use Rattle.std.proofs.lemmas.Option.{cond_some}
use Rattle.std.proofs.lemmas.List.{append-nil, length-append}
use Rattle.std.proofs.lemmas.List.Elements.{All-nil, All-cons, All-weaker}
use Rattle.std.proofs.lemmas.List.Splits.{slice_split_none, slice_split_at}
use Rattle.tokens.specs.Words.{words_of, number_in, value_after}
use Rattle.tokens.specs.Grammar.{HasNoSpace, EndsWord, HasWords, spaces, word, IsNumeral, digit}
use Rattle.tokens.specs.Grammar.{more}
use Rattle.tokens.proofs.NumberLemmas.{number_in-digits}

abbrev is_space : ℕ → Bool
is_space b = eqb b 32

abbrev is_some_word : List ℕ → Bool
is_some_word w = not (eqb (length w) 0)

-- spaces in front of a line are dropped
words_of-spaces : (n : ℕ) (line : List ℕ) → words_of (replicate n 32 ++ line) ≡ words_of line
unfolding words_of
words_of-spaces zero line = refl
words_of-spaces (suc n) line = words_of-spaces n line

words_of-none : (n : ℕ) → words_of (replicate n 32) ≡ []
unfolding words_of
words_of-none zero = refl
words_of-none (suc n) = words_of-none n

no_space : (first : List ℕ) → HasNoSpace first → All (λ b. is_space b ≡ false) first
no_space first is = All-weaker _ _ (λ b isnt. ne_eqb b 32 isnt) first is.1

kept : (first : List ℕ) (others : List (List ℕ)) → HasNoSpace first
    → filter is_some_word (first ∷ others) ≡ first ∷ filter is_some_word others
kept first others is = rw (ne_eqb (length first) 0 (λ e. omega (arith, is.0))) refl

-- a word comes first
words_of-word : (first rest : List ℕ) → HasNoSpace first → EndsWord rest
    → words_of (first ++ rest) ≡ first ∷ words_of rest
unfolding words_of
words_of-word first [] is ends =
    rw (append-nil first, slice_split_none is_space first (no_space first is)) (kept first [] is)
words_of-word first (b ∷ rest) is ends =
    rw (ends, slice_split_at is_space first 32 rest (no_space first is) refl)
    (kept first (slice_split is_space rest) is)

-- the words by cases are those that are read
pub words_of-from : (line : List ℕ) (words : List (List ℕ)) → HasWords line words
    → words_of line ≡ words
words_of-from _ _ (spaces line n is) = rw is (words_of-none n)
words_of-from _ _ (word line first rest others n is one ends has) =
    rw (
      is,
      words_of-spaces n (first ++ rest),
      words_of-word first rest one ends,
      words_of-from rest others has,
    ) refl

-- a space more in front
space_first : (line : List ℕ) (words : List (List ℕ)) → HasWords line words
    → HasWords (32 ∷ line) words
space_first _ _ (spaces line n is) = spaces _ (suc n) (rw is refl)
space_first _ _ (word line first rest others n is one ends has) =
    word _ first rest others (suc n) (rw is refl) one ends has

-- another byte in front goes on a word, or is one
byte_alone : (b : ℕ) (line : List ℕ) (words : List (List ℕ)) → b ≢ 32 → EndsWord line
    → HasWords line words → (all : List (List ℕ)) × HasWords (b ∷ line) all
byte_alone b line words isnt ends has = (
  (b ∷ []) ∷ words,
  word _ (b ∷ []) line words 0 refl
      (omega arith, All-cons (λ c. c ≢ 32) b [] isnt (All-nil (λ c. c ≢ 32))) ends has,
)

byte_first : (b : ℕ) (line : List ℕ) (words : List (List ℕ)) → b ≢ 32 → HasWords line words
    → (all : List (List ℕ)) × HasWords (b ∷ line) all
byte_first b _ _ isnt (spaces line zero is) =
    byte_alone b line [] isnt (rw is tt) (spaces line 0 is)
byte_first b _ _ isnt (spaces line (suc n) is) =
    byte_alone b line [] isnt (rw is refl) (spaces line (suc n) is)
byte_first b _ _ isnt (word line first rest others zero is one ends has) = (
  (b ∷ first) ∷ others,
  word _ (b ∷ first) rest others 0 (rw is refl)
      (omega arith, All-cons (λ c. c ≢ 32) b first isnt one.1) ends has,
)
byte_first b _ _ isnt (word line first rest others (suc n) is one ends has) =
    byte_alone b line _ isnt (rw is refl) (word line first rest others (suc n) is one ends has)

-- each line has words
some_words : (line : List ℕ) → (words : List (List ℕ)) × HasWords line words
some_words [] = ([], spaces [] 0 refl)
some_words (b ∷ line) =
    let has = some_words line in
    elim (cases_eq b 32) [
      | inl same ↦ (has.0, rw same (space_first line has.0 has.1))
      | inr differ ↦ byte_first b line has.0 differ has.1
    ]

pub HasWords-words_of : (line : List ℕ) (words : List (List ℕ)) → words_of line ≡ words
    → HasWords line words
HasWords-words_of line words are =
    let some = some_words line in rw (← are, words_of-from line some.0 some.1) some.1

-- numbers: what a digit is worth
digit_bounds : (c : ℕ) → is_ascii_digit c ≡ true → (48 ≤ c) × (c ≤ 57)
digit_bounds c is =
    let parts = and_parts (leb 48 c) (leb c 57) is in
    (leb-true 48 c parts.0, leb-true c 57 parts.1)

digit_of : (value : ℕ) → value < 10 → is_ascii_digit (48 + value) ≡ true
digit_of value small =
    rw (le-leb 48 (48 + value) (omega arith), le-leb (48 + value) 57 (omega arith)) refl

-- digits that follow a numeral
numeral_on : (front : List ℕ) (tens : ℕ) (rest : List ℕ) → IsNumeral front tens
    → all_ascii_digits rest ≡ true → IsNumeral (front ++ rest) (value_after tens rest)
numeral_on front tens [] is digits = rw (append-nil front) is
numeral_on front tens (c ∷ rest) is digits =
    let parts = and_parts (is_ascii_digit c) (all_ascii_digits rest) digits in
    let bounds = digit_bounds c parts.0 in
    let byte : c ≡ 48 + (c - 48) = omega (arith, bounds) in
    let longer : IsNumeral (front ++ c ∷ []) (10 * tens + (c - 48)) =
    more _ front _ tens (c - 48) is (omega (arith, bounds))
    (ap (λ (d : ℕ). front ++ d ∷ []) byte) refl in
    rw (← append_assoc front (c ∷ []) rest) (numeral_on (front ++ c ∷ []) _ rest longer parts.1)

numeral_from : (w : List ℕ) → 0 < length w → all_ascii_digits w ≡ true
    → IsNumeral w (value_after 0 w)
numeral_from [] some digits = absurd (omega arith)
numeral_from (c ∷ rest) some digits =
    let parts = and_parts (is_ascii_digit c) (all_ascii_digits rest) digits in
    let bounds = digit_bounds c parts.0 in
    let byte : c ≡ 48 + (10 * 0 + (c - 48)) = omega (arith, bounds) in
    numeral_on (c ∷ []) (10 * 0 + (c - 48)) rest
    (digit _ _ (omega (arith, bounds)) (ap (λ (d : ℕ). d ∷ []) byte)) parts.1

-- a digit at the end
value_after-last : (n : ℕ) (digits : List ℕ) (c : ℕ)
    → value_after n (digits ++ c ∷ []) ≡ 10 * value_after n digits + (c - 48)
value_after-last n [] c = refl
value_after-last n (d ∷ digits) c = value_after-last (10 * n + (d - 48)) digits c

all_ascii_digits-last : (digits : List ℕ) (c : ℕ) → all_ascii_digits digits ≡ true
    → is_ascii_digit c ≡ true → all_ascii_digits (digits ++ c ∷ []) ≡ true
all_ascii_digits-last [] c are is = rw is refl
all_ascii_digits-last (d ∷ digits) c are is =
    let parts = and_parts (is_ascii_digit d) (all_ascii_digits digits) are in
    rw (parts.0, all_ascii_digits-last digits c parts.1 is) refl

-- the word is digits, of this value
record IsDigitsOf (w : List ℕ) (value : ℕ) : Type 0 where
  some : 0 < length w
  digits : all_ascii_digits w ≡ true
  is : value_after 0 w ≡ value

digits_from : (w : List ℕ) (value : ℕ) → IsNumeral w value → IsDigitsOf w value
digits_from _ _ (digit w value small is) =
    rw is (record { some = omega arith; digits = rw (digit_of value small) refl; is = omega arith })
digits_from _ _ (more w front value tens last numeral small is worth) =
    let before = digits_from front tens numeral in
    rw is (record {
      some = simp length-append (omega arith);
      digits = all_ascii_digits-last front (48 + last) before.digits (digit_of last small);
      is = omega (arith, value_after-last 0 front (48 + last), before.is, worth);
    })

-- the numbers by cases are those that are read
pub number_in-from : (low high : ℕ) (w : List ℕ) (value : ℕ)
    → IsNumeral w value × (low ≤ value) × (value ≤ high) → number_in low high w ≡ Some value
number_in-from low high w value is =
    let spells = digits_from w value is.0 in
    rw (← spells.is)
    (number_in-digits low high w spells.some spells.digits (omega (arith, spells.is, is.1))
    (omega (arith, spells.is, is.2)))

pub IsNumeral-number_in : (low high : ℕ) (w : List ℕ) (value : ℕ)
    → number_in low high w ≡ Some value → IsNumeral w value × (low ≤ value) × (value ≤ high)
unfolding number_in
IsNumeral-number_in low high w value is =
    let found = cond_some _ (value_after 0 w) value is in
    let outer = and_parts _ (leb (value_after 0 w) high) found.0 in
    let middle = and_parts _ (leb low (value_after 0 w)) outer.0 in
    let inner = and_parts _ (all_ascii_digits w) middle.0 in
    let some : 0 < length w = grind (arith, inner.0) in
    rw (← found.1) (
      numeral_from w some inner.1,
      leb-true low (value_after 0 w) middle.1,
      leb-true (value_after 0 w) high outer.1,
    )
