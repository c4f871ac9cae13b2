-- Quorums meet, and they grow: of one federation, by the weights of its members.
use Rattle.std.specs.Prelude.{◌≡◌, ℕ, ◌+◌, ◌*◌, ◌<◌, ◌≤◌, true, false, Bool, List, [], ◌∷◌}
use Rattle.std.specs.Prelude.{cond, refl}
use Rattle.std.specs.List.{filter, sum_by}
use Rattle.std.proofs.Common.{arith, lt-ltb, sym, ◌∙◌}
use Rattle.std.proofs.lemmas.Bool.{ltb-true, false≢true}
use Rattle.std.proofs.lemmas.List.Sums.{sum_by-cons}
use Rattle.fed_types.specs.Lists.{Has, here, there, is_in}
use Rattle.fed_types.specs.Sites.{Membership, members_of, weight_of}
use Rattle.fed_types.specs.Quorums.{QuorumsMeet, QuorumGrows, AreQuorums, QuorumSystem, quorums_of}
use Rattle.fed_types.specs.Laws.Lists.{is_in_decides}

-- ---- the sum of those elements that pass a test
among : (ℕ → ℕ) → (ℕ → Bool) → List ℕ → ℕ
among f p ns = sum_by f (filter p ns)

-- no elements, no sum
among_none : (f : ℕ → ℕ) (p : ℕ → Bool) → (among f p [] ≡ 0) × (sum_by f [] ≡ 0)
unfolding among
among_none f p = (refl, refl)

-- one more element counts if it passes
among_more : (f : ℕ → ℕ) (p : ℕ → Bool) (n : ℕ) (ns : List ℕ) (t : Bool) → p n ≡ t
    → among f p (n ∷ ns) ≡ cond t (f n) 0 + among f p ns
unfolding among
among_more f p n ns true e = rw e (sum_by-cons f n (filter p ns))
among_more f p n ns false e = rw e (omega arith)

-- some element passes both tests
abbrev Both : (ℕ → Bool) → (ℕ → Bool) → List ℕ → Type 0
Both p q ns = (n : ℕ) × Has n ns × (p n ≡ true) × (q n ≡ true)

-- an element that a shorter list has
both_later : (p q : ℕ → Bool) (m : ℕ) (ns : List ℕ) → Both p q ns → Both p q (m ∷ ns)
both_later p q m ns found = (found.0, there found.1, found.2, found.3)

-- one element more, of weight w: it passes both, or the sums without it are more without it
both_more : (p q : ℕ → Bool) (n w all a b : ℕ) (ns : List ℕ) (s t : Bool) → p n ≡ s → q n ≡ t
    → (all < a + b → Both p q ns)
    → w + all < (cond s w 0 + a) + (cond t w 0 + b) → Both p q (n ∷ ns)
both_more p q n w all a b ns true true e g before h = (n, here refl, e, g)
both_more p q n w all a b ns true false e g before h = both_later p q n ns (before (omega arith))
both_more p q n w all a b ns false true e g before h = both_later p q n ns (before (omega arith))
both_more p q n w all a b ns false false e g before h = both_later p q n ns (before (omega arith))

-- if two sums together are more than the sum of all, some element is in both
both : (f : ℕ → ℕ) (p q : ℕ → Bool) (ns : List ℕ) → sum_by f ns < among f p ns + among f q ns
    → Both p q ns
both f p q [] h = absurd (omega (arith, among_none f p, among_none f q))
both f p q (n ∷ ns) h =
    both_more p q n (f n) (sum_by f ns) (among f p ns) (among f q ns) ns (p n) (q n) refl refl
    (both f p q ns)
    (let first = among_more f p n ns (p n) refl in
    let second = among_more f q n ns (q n) refl in
    omega (arith, sum_by-cons f n ns))

-- one more element counts in the second sum if it counts in the first
no_less_more : (w a b : ℕ) (s t : Bool) → (s ≡ true → t ≡ true) → a ≤ b
    → cond s w 0 + a ≤ cond t w 0 + b
no_less_more w a b true true h l = omega arith
no_less_more w a b true false h l = absurd (false≢true (h refl))
no_less_more w a b false true h l = omega arith
no_less_more w a b false false h l = omega arith

-- where all that pass the first test pass the second, the second sum is no less
no_less : (f : ℕ → ℕ) (p q : ℕ → Bool) (ns : List ℕ)
    → ((n : ℕ) → Has n ns → p n ≡ true → q n ≡ true) → among f p ns ≤ among f q ns
no_less f p q [] h = omega (arith, among_none f p, among_none f q)
no_less f p q (n ∷ ns) h =
    rw (among_more f p n ns (p n) refl, among_more f q n ns (q n) refl)
    (no_less_more (f n) (among f p ns) (among f q ns) (p n) (q n) (h n (here refl))
    (no_less f p q ns (λ m k. h m (there k))))

-- ---- a federation's quorums
-- two of them share a member
pub quorums_meet : (m : Membership) → QuorumsMeet (quorums_of m)
unfolding among
quorums_meet m xs ys p q =
    let total = sum_by (weight_of m) (members_of m) in
    let first = ltb-true total (2 * among (weight_of m) (is_in xs) (members_of m)) p in
    let second = ltb-true total (2 * among (weight_of m) (is_in ys) (members_of m)) q in
    let found = both (weight_of m) (is_in xs) (is_in ys) (members_of m) (omega arith) in
    (found.0, found.1, (is_in_decides xs found.0).0 found.2, (is_in_decides ys found.0).0 found.3)

-- voters that hold all members of one are one
pub quorum_grows : (m : Membership) → QuorumGrows (quorums_of m)
unfolding among
quorum_grows m xs ys p h =
    let total = sum_by (weight_of m) (members_of m) in
    let first = ltb-true total (2 * among (weight_of m) (is_in xs) (members_of m)) p in
    let more = no_less (weight_of m) (is_in xs) (is_in ys) (members_of m)
    (λ n k e. (is_in_decides ys n).1 (h n k ((is_in_decides xs n).0 e))) in
    lt-ltb total (2 * among (weight_of m) (is_in ys) (members_of m)) (omega arith)

-- a federation's quorums are quorums
pub are_quorums : (m : Membership) → AreQuorums (quorums_of m)
are_quorums m = record { meet = quorums_meet m; grow = quorum_grows m }

-- ---- any quorums
-- what stands in the one list stands in the other
same_has : (xs ys : List ℕ) → ((n : ℕ) → is_in xs n ≡ is_in ys n) → (n : ℕ) → Has n xs → Has n ys
same_has xs ys same n h = (is_in_decides ys n).0 (sym (same n) ∙ (is_in_decides xs n).1 h)

-- a quorum is a set: the same voters in another order, or twice, are one as well
pub same_quorum : (q : QuorumSystem) (xs ys : List ℕ) → AreQuorums q
    → ((n : ℕ) → is_in xs n ≡ is_in ys n) → q.is_quorum xs ≡ q.is_quorum ys
same_quorum q xs ys laws same = go (q.is_quorum xs) (q.is_quorum ys) refl refl
  where
    go : (s t : Bool) → q.is_quorum xs ≡ s → q.is_quorum ys ≡ t → s ≡ t
    go true true e f = refl
    go false false e f = refl
    go true false e f = sym (laws.grow xs ys e (λ n member h. same_has xs ys same n h)) ∙ f
    go false true e f =
        sym e ∙ laws.grow ys xs f (λ n member h. same_has ys xs (λ k. sym (same k)) n h)
