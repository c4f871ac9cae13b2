-- The words that the grammar has for a federation's members are those that are read as them.
use Rattle.std.proofs.Common.{◌≡◌, ℕ, ◌≤◌, false, eqb, List, [], ◌∷◌, length, map, replicate, Some}
use Rattle.std.proofs.Common.{refl, sym, ap, ◌∙◌, subst, inl, inr, ◌⊎◌, arith}
use Rattle.std.specs.Prelude.{codes}
use Rattle.std.proofs.lemmas.Bool.{cases_Bool, eqb-true, eq-eqb, ne_eqb}
use Rattle.std.proofs.lemmas.List.{length-map, length-replicate}
use Rattle.std.proofs.lemmas.Option.{same_Some}
use Rattle.fed_types.specs.Limits.{most_members, greatest_weight, greatest_federation}
use Rattle.fed_types.specs.Sites.{Membership, membership_of, count_of}
use Rattle.tokens.specs.Words.{number_in}
use Rattle.schedule.specs.Commands.{federation_of, weights_in, weights_of}
use Rattle.schedule.specs.Lines.{federation_tokens, AreWordsForMembers}
use Rattle.schedule.specs.Tokens.{Token, Number, IsWordFor, AreWordsFor}
use Rattle.tokens.proofs.GrammarLemmas.{number_in-from, IsNumeral-number_in}
use Rattle.tokens.proofs.StepLemmas.{bind_some}
use Rattle.schedule.proofs.TokenLemmas.{mapped, by_keyword, of_each, of_each_and}

-- the token of a weight
abbrev weight_token : ℕ → Token
weight_token w = Number 1 greatest_weight w

-- as many words as tokens
length-words : (words : List (List ℕ)) (tokens : List Token) → AreWordsFor words tokens
    → length words ≡ length tokens
length-words [] [] are = refl
length-words (word ∷ words) (token ∷ tokens) are =
    omega (arith, length-words words tokens are.1)
length-words _ _ are = absurd are

length-weights : (words : List (List ℕ)) (weights : List ℕ)
    → AreWordsFor words (map (λ w. weight_token w) weights) → length words ≡ length weights
length-weights words weights are =
    length-words words (map (λ w. weight_token w) weights) are
    ∙ length-map weights (λ w. weight_token w)

-- ---- from the grammar

weights_in-from : (words : List (List ℕ)) (weights : List ℕ)
    → AreWordsFor words (map (λ w. weight_token w) weights) → weights_in words ≡ Some weights
unfolding weights_in
weights_in-from [] [] are = refl
weights_in-from (word ∷ words) (w ∷ weights) are =
    rw (number_in-from 1 greatest_weight word w are.0, weights_in-from words weights are.1)
weights_in-from _ _ are = absurd are

weights_of-named : (words : List (List ℕ)) (weights : List ℕ) → 1 ≤ length weights
    → AreWordsFor words (map (λ w. weight_token w) weights)
    → weights_of (length weights) words ≡ Some weights
unfolding weights_of
weights_of-named words weights some are =
    let count = length-weights words weights are in
    let not_none = ne_eqb (length words) 0 (λ e. omega arith) in
    rw (not_none, eq-eqb (length words) (length weights) count) (weights_in-from words weights are)

weights_of-none : (n : ℕ) (weights : List ℕ) → weights ≡ replicate n 1
    → weights_of n [] ≡ Some weights
unfolding weights_of
weights_of-none n weights are = rw are

-- the fact that the words are read as the members
abbrev IsRead : Membership → List (List ℕ) → Type 0
IsRead m words = federation_of words ≡ Some m

pub federation_of-from : (words : List (List ℕ)) (m : Membership) → AreWordsForMembers words m
    → federation_of words ≡ Some m
unfolding federation_of
federation_of-from words m (inl are) =
    of_each_and (federation_tokens m []) (map (λ w. weight_token w) m.weights) (IsRead m)
    (λ name is federation f_is count n_is weights weights_are.
    rw (is, number_in-from 0 greatest_federation federation m.federation f_is)
    (rw (number_in-from 1 most_members count (count_of m) n_is)
    (rw (weights_of-named weights m.weights n_is.1 weights_are))))
    words are
federation_of-from words m (inr are) =
    of_each (federation_tokens m []) (IsRead m)
    (λ name is federation f_is count n_is.
    rw (is, number_in-from 0 greatest_federation federation m.federation f_is)
    (rw (number_in-from 1 most_members count (count_of m) n_is)
    (rw (weights_of-none (count_of m) m.weights are.1))))
    words are.0

-- ---- into the grammar

weights_in-says : (words : List (List ℕ)) (weights : List ℕ) → weights_in words ≡ Some weights
    → AreWordsFor words (map (λ w. weight_token w) weights)
unfolding weights_in
weights_in-says [] weights is =
    subst (λ (ws : List ℕ). AreWordsFor [] (map (λ w. weight_token w) ws))
    (same_Some [] weights is) tt
weights_in-says (word ∷ words) weights is =
    let w = bind_some _ _ weights is in
    let ws = bind_some _ _ weights w.2 in
    subst (λ (all : List ℕ). AreWordsFor (word ∷ words) (map (λ v. weight_token v) all))
    (same_Some (w.0 ∷ ws.0) weights ws.2)
    (IsNumeral-number_in 1 greatest_weight word w.0 w.1, weights_in-says words ws.0 ws.1)

-- the weights of n members: each is named, or each is 1
weights_of-says : (n : ℕ) (words : List (List ℕ)) (weights : List ℕ)
    → weights_of n words ≡ Some weights
    → (length weights ≡ n) × ((AreWordsFor words (map (λ w. weight_token w) weights))
    ⊎ ((words ≡ []) × (weights ≡ replicate n 1)))
unfolding weights_of
weights_of-says n [] weights is =
    let ones : replicate n 1 ≡ weights = same_Some (replicate n 1) weights is in
    (ap length (sym ones) ∙ length-replicate n 1, inr (refl, sym ones))
weights_of-says n (word ∷ words) weights is =
    let some : eqb (length (word ∷ words)) 0 ≡ false =
    ne_eqb (length (word ∷ words)) 0 (λ e. omega arith) in
    elim (cases_Bool (eqb (length (word ∷ words)) n)) [
      | inl same ↦
          let are = weights_in-says (word ∷ words) weights (rw (some, same) at is) in
          let count = length-weights (word ∷ words) weights are in
          (sym count ∙ eqb-true (length (word ∷ words)) n same, inl are)
      | inr other ↦ absurd (cc (rw (some, other) at is))
    ]

-- the parts of a line that names members
members_from : (federation count : List ℕ) (words : List (List ℕ)) (f n : ℕ) (weights : List ℕ)
    → number_in 0 greatest_federation federation ≡ Some f
    → number_in 1 most_members count ≡ Some n → weights_of n words ≡ Some weights
    → AreWordsForMembers (codes "federation" ∷ federation ∷ count ∷ words)
    (membership_of f weights)
members_from federation count words f n weights f_is n_is w_is =
    let some = weights_of-says n words weights w_is in
    let f_word = IsNumeral-number_in 0 greatest_federation federation f f_is in
    let n_word : IsWordFor count (Number 1 most_members (length weights)) =
    rw some.0 (IsNumeral-number_in 1 most_members count n n_is) in
    elim (some.1) [
      | inl named ↦ inl (refl, (f_word, (n_word, named)))
      | inr none ↦ inr (
        rw none.0 (refl, (f_word, (n_word, tt))),
        none.1 ∙ ap (λ (k : ℕ). replicate k 1) (sym some.0),
      )
    ]

pub federation_of-says : (words : List (List ℕ)) (m : Membership) → federation_of words ≡ Some m
    → AreWordsForMembers words m
unfolding federation_of
federation_of-says (name ∷ federation ∷ count ∷ words) m is =
    by_keyword (λ k. AreWordsForMembers (k ∷ federation ∷ count ∷ words) m) (codes "federation")
    name _ _ m
    (λ found.
    let f = bind_some _ _ m found in
    let n = bind_some _ _ m f.2 in
    let w = mapped (membership_of f.0) (weights_of n.0 words) m n.2 in
    subst (AreWordsForMembers (codes "federation" ∷ federation ∷ count ∷ words)) w.2
    (members_from federation count words f.0 n.0 w.0 f.1 n.1 w.1))
    (λ none. absurd (cc none)) is
federation_of-says words m is = absurd (cc is)
