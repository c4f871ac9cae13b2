-- The sites in a word, one after the other from the lowest: each is cleared once it is counted.
use Rattle.std.specs.Prelude.{◌≡◌, ◌≢◌, ℕ, ◌*◌, ◌%◌, ◌/◌, ◌^◌, ◌+◌, ◌-◌, ◌<◌, ◌≤◌, Bool, ◌==◌, refl}
use Rattle.std.specs.Prelude.{zero, suc, bit_and}
use Rattle.std.specs.Int.{bit_at, bit_not, trailing_zeros, w64}
use Rattle.std.proofs.Common.{arith, sym, ap, ◌∙◌, lt-ltb}
use Rattle.std.proofs.lemmas.Nat.{and_le_l, and_le_r}
use Rattle.std.proofs.lemmas.Nat.Bits.{bit_at-zero, bit_at-suc, bit_at_and, bit_at_lowest}
use Rattle.std.proofs.lemmas.Nat.Bits.{bit_at-trailing_zeros, bit_at_clear_same, bit_at_clear_other}
use Rattle.std.proofs.lemmas.Nat.Bits.{bit_at-lt}
use Rattle.fed_types.specs.Lists.{is_in}
use Rattle.fed_types.specs.inner.Words.{bits_below}
use Rattle.fed_types.specs.inner.WordLaws.{is_in-bits_below}
use Rattle.fed_types.proofs.Sums.{among, among_same, among_nobody, among_without}

-- whether the word has a one at this place
abbrev pub has_one : ℕ → ℕ → Bool
has_one word i = bit_at word i == 1

-- the word without the one at place k
abbrev pub cleared : (word k : ℕ) → ℕ
cleared word k = bit_and word (bit_not w64 (1 * 2 ^ k % 2 ^ 64))

-- a word of sites: none has number 0
abbrev pub AreSites : ℕ → Type 0
AreSites rest = (rest < 2 ^ 64) × (bit_at rest 0 ≡ 0)

-- the word without number 0
pub sites_first : (word : ℕ) → word < 2 ^ 64 → AreSites (cleared word 0)
sites_first word fits = (
  omega (arith, and_le_l word (bit_not w64 (1 * 2 ^ 0 % 2 ^ 64))),
  bit_at_clear_same w64 word 0 (omega arith),
)

-- the lowest of them: below it there is none
pub lowest : (rest : ℕ) → 0 < rest → AreSites rest
    → (1 ≤ trailing_zeros w64 rest) × (trailing_zeros w64 rest < 64)
    × (bit_at rest (trailing_zeros w64 rest) ≡ 1)
    × ((i : ℕ) → i < trailing_zeros w64 rest → bit_at rest i ≡ 0)
lowest rest some sites =
    let it = bit_at-trailing_zeros w64 rest some sites.0 in
    go (trailing_zeros w64 rest) it.0 it.1 it.2
  where
    go : (k : ℕ) → k < 64 → bit_at rest k ≡ 1 → ((i : ℕ) → i < k → bit_at rest i ≡ 0)
        → (1 ≤ k) × (k < 64) × (bit_at rest k ≡ 1) × ((i : ℕ) → i < k → bit_at rest i ≡ 0)
    go zero l one none = absurd (omega (arith, sites.1))
    go (suc k) l one none = (omega arith, l, one, none)

-- the word without its lowest one
abbrev pub without_lowest : ℕ → ℕ
without_lowest rest = bit_and rest (rest - 1)

-- an even word's places from 1 on, by its half
half_of : (b j : ℕ) → b % 2 ≡ 0 → bit_at (without_lowest b) (suc j)
    ≡ bit_at (without_lowest (b / 2)) j
half_of b j even =
    let half : (b - 1) / 2 ≡ b / 2 - 1 = omega arith in
    simp (bit_at_and, bit_at-suc, half)

-- it has no one where the lowest stood, and is the same at each other place
pub lowest_gone : (k b : ℕ) → bit_at b k ≡ 1 → ((i : ℕ) → i < k → bit_at b i ≡ 0)
    → (bit_at (without_lowest b) k ≡ 0)
    × ((i : ℕ) → i ≢ k → bit_at (without_lowest b) i ≡ bit_at b i)
lowest_gone zero b one none = (
  let last : bit_at (b - 1) 0 ≡ 0 = omega (arith, one, bit_at_lowest b, bit_at_lowest (b - 1)) in
      omega (arith, bit_at_and b (b - 1) 0, last),
  other,
)
  where
    other : (i : ℕ) → i ≢ 0 → bit_at (without_lowest b) i ≡ bit_at b i
    other zero differ = absurd (differ refl)
    other (suc j) differ =
        let half : (b - 1) / 2 ≡ b / 2 = omega (arith, one, bit_at_lowest b) in
        simp (bit_at_and, bit_at-suc, half) (omega (arith, bit_at-lt (b / 2) j))
lowest_gone (suc k) b one none =
    let even : b % 2 ≡ 0 = rw bit_at_lowest at (none 0 (omega arith)) in
    let later = lowest_gone k (b / 2) (rw bit_at-suc at one)
    (λ i l. rw bit_at-suc at (none (suc i) (omega arith))) in
    (half_of b k even ∙ later.0, other even later.1)
  where
    other : b % 2 ≡ 0 → ((i : ℕ) → i ≢ k → bit_at (without_lowest (b / 2)) i ≡ bit_at (b / 2) i)
        → (i : ℕ) → i ≢ suc k → bit_at (without_lowest b) i ≡ bit_at b i
    other even later zero differ = omega (arith, bit_at_and b (b - 1) 0, none 0 (omega arith))
    other even later (suc j) differ =
        half_of b j even ∙ later j (λ e. differ (ap suc e)) ∙ sym (bit_at-suc b j)

-- without it they are sites still
pub sites_next : (rest : ℕ) → AreSites rest → AreSites (without_lowest rest)
sites_next rest sites = (
  omega (arith, and_le_l rest (rest - 1), sites.0),
  omega (arith, bit_at_and rest (rest - 1) 0, sites.1),
)

-- and the word is less
pub less_next : (rest : ℕ) → 0 < rest → without_lowest rest < rest
less_next rest some = omega (arith, and_le_r rest (rest - 1), some)

-- ---- what the sites of a word count, of the sites 1 to n
-- at first they count what those in the set do
pub counted_first : (f : ℕ → ℕ) (word n : ℕ) → n < 64
    → among f (is_in (bits_below word 64)) n ≡ 0 + among f (has_one (cleared word 0)) n
counted_first f word n l =
    let same =
    among_same f (is_in (bits_below word 64)) (has_one (cleared word 0)) n (λ i low most. rw (
      is_in-bits_below word 64 i,
      lt-ltb i 64 (omega arith),
      bit_at_clear_other w64 word 0 (omega arith) i (omega arith) (λ e. omega arith),
    )) in
    omega arith

-- the lowest site
pub counted_next : (f : ℕ → ℕ) (rest n : ℕ) → 0 < rest → AreSites rest
    → ((site : ℕ) → n < site → f site ≡ 0)
    → among f (has_one rest) n
    ≡ f (trailing_zeros w64 rest) + among f (has_one (without_lowest rest)) n
counted_next f rest n some sites beyond =
    let k = lowest rest some sites in
    let gone = lowest_gone (trailing_zeros w64 rest) rest k.2 k.3 in
    among_without f (has_one rest) (has_one (without_lowest rest)) (trailing_zeros w64 rest) n k.0
    (rw k.2) (rw gone.0) (λ i less differ. rw (gone.1 i differ)) (beyond (trailing_zeros w64 rest))

-- none is left
pub counted_none : (f : ℕ → ℕ) (n : ℕ) → among f (has_one 0) n ≡ 0
counted_none f n = among_nobody f (has_one 0) n (λ i. rw (bit_at-zero i))
