-- How many members are in a set, by the ones of its word; and where each weight is 1, what they
-- weigh.
use Rattle.std.specs.Prelude.{◌≡◌, ℕ, zero, suc, ◌+◌, ◌*◌, ◌%◌, ◌/◌, ◌^◌, ◌<◌, ◌≤◌, Bool, cond}
use Rattle.std.specs.Prelude.{◌==◌, refl, count_ones}
use Rattle.std.specs.Int.{bit_at}
use Rattle.std.specs.Int.Count.{ones_step}
use Rattle.std.specs.List.{count_by, sum_by}
use Rattle.std.proofs.Common.{arith, ◌∙◌, lt-ltb}
use Rattle.std.proofs.lemmas.Nat.{mod-pow-add, ones_le_self}
use Rattle.std.proofs.lemmas.Nat.Bits.{bit_at-lt, bit_at-suc, bit_at_lowest}
use Rattle.std.proofs.lemmas.List.Sums.{sum_by_push}
use Rattle.fed_types.specs.Lists.{is_in}
use Rattle.fed_types.specs.Sites.{sites_to}
use Rattle.fed_types.specs.inner.Words.{bits_below}
use Rattle.fed_types.specs.inner.WordLaws.{is_in-bits_below}
use Rattle.fed_types.proofs.Sums.{among, among_next}

-- ---- the ones of a word's last places
-- the last n places of a word
abbrev pub last_places : (word n : ℕ) → ℕ
last_places word n = word % 2 ^ n

-- none of them
no_places : (word : ℕ) → count_ones (last_places word 0) ≡ 0
no_places word = omega (arith, ones_le_self (last_places word 0))

-- the last one of them, and those of the half
last_and_half : (word n : ℕ)
    → count_ones (last_places word (suc n)) ≡ word % 2 + count_ones (last_places (word / 2) n)
last_and_half word n =
    let more : suc n ≡ n + 1 = omega arith in
    let split : last_places word (suc n) ≡ last_places (word / 2) n * 2 + word % 2 =
    rw more (mod-pow-add word n 1) in
    let last : last_places word (suc n) % 2 ≡ word % 2 = omega (arith, split) in
    let half : last_places word (suc n) / 2 ≡ last_places (word / 2) n = omega (arith, split) in
    ones_step (last_places word (suc n)) ∙ (λ i. last i + count_ones (half i))

-- one place more
pub ones_next : (word n : ℕ)
    → count_ones (last_places word (suc n)) ≡ count_ones (last_places word n) + bit_at word n
ones_next word zero =
    omega (arith, last_and_half word 0, no_places word, no_places (word / 2), bit_at_lowest word)
ones_next word (suc n) =
    let next = ones_next (word / 2) n in
    omega (arith, last_and_half word (suc n), last_and_half word n, bit_at-suc word n)

-- ---- how many of the sites 1 to n pass a test
number_none : (p : ℕ → Bool) → count_by p (sites_to 0) ≡ 0
unfolding sites_to
number_none p = refl

number_next : (p : ℕ → Bool) (n : ℕ)
    → count_by p (sites_to (suc n)) ≡ count_by p (sites_to n) + cond (p (suc n)) 1 0
unfolding sites_to
number_next p n = sum_by_push (λ i. cond (p i) 1 0) (sites_to n) (suc n)

-- those in the set of a word: they are the ones of its places from 1 on
one_or_none : (b : ℕ) → b < 2 → cond (b == 1) 1 0 ≡ b
one_or_none zero l = refl
one_or_none (suc zero) l = refl
one_or_none (suc (suc b)) l = absurd (omega arith)

pub number_is : (word n : ℕ) → n < 64
    → count_ones (last_places (word / 2) n) ≡ count_by (is_in (bits_below word 64)) (sites_to n)
number_is word zero l =
    omega (arith, no_places (word / 2), number_none (is_in (bits_below word 64)))
number_is word (suc n) l =
    let before = number_is word n (omega arith) in
    let here = one_or_none (bit_at word (suc n)) (bit_at-lt word (suc n)) in
    rw (ones_next (word / 2) n, number_next (is_in (bits_below word 64)) n)
    (rw (is_in-bits_below word 64 (suc n), lt-ltb (suc n) 64 l, ← bit_at-suc word n) (omega arith))

-- ---- weights of 1
-- n weights of at least 1 are at least n
at_least : (f : ℕ → ℕ) (n : ℕ) → ((i : ℕ) → 1 ≤ i → i ≤ n → 1 ≤ f i)
    → n ≤ sum_by f (sites_to n)
unfolding sites_to
at_least f zero some = omega arith
at_least f (suc n) some =
    let before = at_least f n (λ i low l. some i low (omega arith)) in
    omega (arith, sum_by_push f (sites_to n) (suc n), some (suc n) (omega arith) (omega arith))

-- where they are no more, each is 1, and those of them that pass a test weigh as much as they are
pub weigh_one : (f : ℕ → ℕ) (p : ℕ → Bool) (n : ℕ)
    → ((i : ℕ) → 1 ≤ i → i ≤ n → 1 ≤ f i) → sum_by f (sites_to n) ≤ n
    → among f p n ≡ count_by p (sites_to n)
unfolding sites_to
weigh_one f p zero some most = refl
weigh_one f p (suc n) some most =
    let low = at_least f n (λ i low l. some i low (omega arith)) in
    let last = some (suc n) (omega arith) (omega arith) in
    let push = sum_by_push f (sites_to n) (suc n) in
    let one : f (suc n) ≡ 1 = omega arith in
    let before = weigh_one f p n (λ i low l. some i low (omega arith)) (omega arith) in
    rw (among_next f p n, number_next p n, one) (omega arith)
