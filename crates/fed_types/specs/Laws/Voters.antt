-- A voter put into an ascending list.
use Rattle.std.specs.Prelude.{◌≡◌, ℕ, ◌<◌, Bool, true, false, ◌||◌, ◌==◌, List, [], ◌∷◌, ◌++◌, refl}
use Rattle.std.proofs.Common.{arith, ◌∙◌, inl, inr, eq-eqb}
use Rattle.std.proofs.lemmas.Bool.{lt-ltb, le-ltb, ne_eqb, cases_order, or_right}
use Rattle.fed_types.specs.Lists.{Has, is_in}
use Rattle.fed_types.specs.Voters.{with_voter}
use Rattle.fed_types.specs.Laws.Lists.{is_in_decides}

-- ---- where a voter goes: alone, as the first one, before the first one, or later
with_voter-none : (n : ℕ) → with_voter [] n ≡ n ∷ []
unfolding with_voter
with_voter-none n = refl

-- it is the first one already
with_voter-first : (x : ℕ) (xs : List ℕ) → with_voter (x ∷ xs) x ≡ x ∷ xs
unfolding with_voter
with_voter-first x xs = rw (eq-eqb x x refl)

-- it goes before the first one
with_voter-before : (x n : ℕ) (xs : List ℕ) → n < x → with_voter (x ∷ xs) n ≡ n ∷ x ∷ xs
unfolding with_voter
with_voter-before x n xs l = rw (ne_eqb x n (λ e. omega arith), lt-ltb n x l)

-- it goes after the first one
with_voter-later : (x n : ℕ) (xs : List ℕ) → x < n → with_voter (x ∷ xs) n ≡ x ∷ with_voter xs n
unfolding with_voter
with_voter-later x n xs l = rw (ne_eqb x n (λ e. omega arith), le-ltb n x (omega arith))

-- ---- what the voters are with one more
or_again : (p q : Bool) → (p || q) ≡ (p || (p || q))
or_again true q = refl
or_again false q = refl

-- three tests, the first two exchanged
or_exchange : (p q r : Bool) → (p || (q || r)) ≡ (q || (p || r))
or_exchange true true r = refl
or_exchange true false r = refl
or_exchange false true r = refl
or_exchange false false r = refl

-- what is in a list with a first element
is_in-cons : (x : ℕ) (xs : List ℕ) (m : ℕ) → is_in (x ∷ xs) m ≡ (x == m || is_in xs m)
unfolding is_in
is_in-cons x xs m = refl

-- the voters with one more are the voters and that one
pub is_in-with_voter : (xs : List ℕ) (n m : ℕ) → is_in (with_voter xs n) m ≡ (n == m || is_in xs m)
is_in-with_voter [] n m = rw (with_voter-none n) (is_in-cons n [] m)
is_in-with_voter (x ∷ xs) n m =
    elim (cases_order x n) [
      | inl same ↦
          rw (← same, with_voter-first x xs, is_in-cons x xs m) (or_again (x == m) (is_in xs m))
      | inr differ ↦ elim differ [
        | inl less ↦
            rw (with_voter-later x n xs less, is_in-cons x xs m, is_in-cons x (with_voter xs n) m)
            (rw (is_in-with_voter xs n m) (or_exchange (x == m) (n == m) (is_in xs m)))
        | inr more ↦ rw (with_voter-before x n xs more) (is_in-cons n (x ∷ xs) m)
      ]
    ]

-- ---- a voter and the last one
-- a voter goes before a greater last one
pub with_voter-push : (xs : List ℕ) (n last : ℕ) → n < last
    → with_voter (xs ++ last ∷ []) n ≡ with_voter xs n ++ last ∷ []
with_voter-push [] n last l = rw (with_voter-none n) (with_voter-before last n [] l)
with_voter-push (x ∷ xs) n last l =
    elim (cases_order x n) [
      | inl same ↦ rw (← same, with_voter-first x xs, with_voter-first x (xs ++ last ∷ []))
      | inr differ ↦ elim differ [
        | inl less ↦
            rw (with_voter-later x n xs less, with_voter-later x n (xs ++ last ∷ []) less)
            (rw (with_voter-push xs n last l))
        | inr more ↦
            rw (with_voter-before x n xs more, with_voter-before x n (xs ++ last ∷ []) more)
      ]
    ]

-- all voters are below n
abbrev pub AllBelow : List ℕ → ℕ → Type 0
AllBelow [] n = Unit {0}
AllBelow (x ∷ xs) n = (x < n) × AllBelow xs n

-- a voter above all others goes last
pub with_voter-last : (xs : List ℕ) (n : ℕ) → AllBelow xs n → with_voter xs n ≡ xs ++ n ∷ []
with_voter-last [] n h = with_voter-none n
with_voter-last (x ∷ xs) n h = rw (with_voter-later x n xs h.0, with_voter-last xs n h.1)

-- a voter that is the last one changes nothing
pub with_voter-last_again : (xs : List ℕ) (n : ℕ) → AllBelow xs n
    → with_voter (xs ++ n ∷ []) n ≡ xs ++ n ∷ []
with_voter-last_again [] n h = with_voter-first n []
with_voter-last_again (x ∷ xs) n h =
    rw (with_voter-later x n (xs ++ n ∷ []) h.0, with_voter-last_again xs n h.1)

-- all voters are in the list with one more
pub has_with_voter : {m : ℕ} (xs : List ℕ) (n : ℕ) → Has m xs → Has m (with_voter xs n)
has_with_voter {m} xs n h =
    let more = or_right (n == m) (is_in xs m) ((is_in_decides xs m).1 h) in
    (is_in_decides (with_voter xs n) m).0 (is_in-with_voter xs n m ∙ more)
