-- The weights of a federation's members: named by words, printed, and parsed again.
use Rattle.std.proofs.Common.{◌≡◌, ℕ, ◌≤◌, Bool, true, false, cond, eqb, List, [], ◌∷◌, ◌++◌}
use Rattle.std.proofs.Common.{length, map, replicate, Option, Some, None, refl, sym, ap, ◌∙◌}
use Rattle.std.proofs.Common.{append_assoc, ◌+◌, ◌<◌, Bor, get_or, take, drop, slice_set, All}
use Rattle.std.proofs.Common.{arith, Result, Ok, Err}
use Rattle.std.specs.Prelude.{codes}
use Rattle.std.specs.List.{AllByRecursion, Contains, join_with_byte, list_all}
use Rattle.std.specs.Option.{option_map}
use Rattle.std.specs.Fmt.{decimal}
use Rattle.std.proofs.lemmas.Bool.{and_parts, eqb-true, eq-eqb, ne_eqb}
use Rattle.std.proofs.lemmas.List.{append-nil, length-map, length-set, length-take, take_more}
use Rattle.std.proofs.lemmas.List.{take_more_set, at_drop_all, at_drop_more, flat_map_more}
use Rattle.std.proofs.lemmas.List.Elements.{All-head, All-tail, All-push, All-contains}
use Rattle.fed_types.specs.Limits.{greatest_weight}
use Rattle.fed_types.specs.Sites.{IsWeight, AreWeights, IsMemberCount, Membership, count_of}
use Rattle.std.specs.Result.{result_ok, IsOk, IfOk}
use Rattle.tokens.specs.Words.{number_in, ◌>>=◌}
use Rattle.schedule.specs.Commands.{weights_in, weights_of}
use Rattle.schedule.specs.Texts.{printed_weights, federation_words, federation_line}
use Rattle.schedule.specs.inner.Printed.{IsWord, spaced_weights}
use Rattle.schedule.proofs.WordLemmas.{IsWord-decimal}
use Rattle.tokens.proofs.PrintedWords.{number_in-decimal}

-- a word that names a weight, after those whose weights were read
pub weights_in-more : (front : List ℕ) (word : List ℕ) (words : List (List ℕ)) (w : ℕ)
    → number_in 1 greatest_weight word ≡ Some w
    → option_map (λ ws. front ++ ws) (weights_in (word ∷ words))
    ≡ option_map (λ ws. (front ++ w ∷ []) ++ ws) (weights_in words)
unfolding weights_in
weights_in-more front word words w is = rw is (go (weights_in words))
  where
    go : (rest : Option (List ℕ))
        → option_map (λ ws. front ++ ws) (rest >>= (λ ws. Some (w ∷ ws)))
        ≡ option_map (λ ws. (front ++ w ∷ []) ++ ws) rest
    go None = refl
    go (Some ws) = rw append_assoc

-- a word that names none
pub weights_in-fault : (front : List ℕ) (word : List ℕ) (words : List (List ℕ))
    → number_in 1 greatest_weight word ≡ None
    → option_map (λ ws. front ++ ws) (weights_in (word ∷ words)) ≡ None
unfolding weights_in
weights_in-fault front word words is = rw is

-- no word more
pub weights_in-all : (front : List ℕ) → option_map (λ ws. front ++ ws) (weights_in []) ≡ Some front
unfolding weights_in
weights_in-all front = rw append-nil

-- nothing was read yet
pub weights_in-none : (found : Option (List ℕ)) → found ≡ option_map (λ ws. [] ++ ws) found
weights_in-none None = refl
weights_in-none (Some ws) = refl

-- printed weights name themselves
weights_in-printed : (ws : List ℕ) → All IsWeight ws → weights_in (map decimal ws) ≡ Some ws
unfolding weights_in
weights_in-printed [] are = refl
weights_in-printed (w ∷ ws) are =
    let one = All-head IsWeight w ws are in
    rw (number_in-decimal 1 greatest_weight w one.0 one.1 (omega arith))
    (rw (weights_in-printed ws (All-tail IsWeight w ws are)))

-- weights that are all 1
ones : (ws : List ℕ) → list_all (λ w. eqb w 1) ws ≡ true → replicate (length ws) 1 ≡ ws
ones [] h = refl
ones (w ∷ ws) h =
    let parts = and_parts (eqb w 1) (list_all (λ v. eqb v 1) ws) h in
    cc (eqb-true w 1 parts.0, ones ws parts.1)

-- each weight has a word
weights_of-named : (ws : List ℕ) → list_all (λ w. eqb w 1) ws ≡ false → All IsWeight ws
    → weights_of (length ws) (map decimal ws) ≡ Some ws
unfolding weights_of
weights_of-named [] h are = absurd (cc h)
weights_of-named (w ∷ ws) h are =
    let words = map decimal (w ∷ ws) in
    let count : length words ≡ length (w ∷ ws) = length-map (w ∷ ws) decimal in
    let some = ne_eqb (length words) 0 (λ e. omega (arith, e)) in
    rw (some, eq-eqb (length words) (length (w ∷ ws)) count) (weights_in-printed (w ∷ ws) are)

-- what is printed of weights names them
pub weights_of-printed : (ws : List ℕ) → All IsWeight ws
    → weights_of (length ws) (map decimal (printed_weights ws)) ≡ Some ws
unfolding weights_of
weights_of-printed ws are = go (list_all (λ w. eqb w 1) ws) refl
  where
    go : (all : Bool) → list_all (λ w. eqb w 1) ws ≡ all
        → weights_of (length ws) (map decimal (cond all [] ws)) ≡ Some ws
    go true h = rw (ones ws h)
    go false h = weights_of-named ws h are

-- each is a word
words_of_weights : (ws : List ℕ) → All IsWeight ws → AllByRecursion IsWord (map decimal ws)
words_of_weights [] are = tt
words_of_weights (w ∷ ws) are =
    let one = All-head IsWeight w ws are in
    (IsWord-decimal w (omega (arith, one.1)), words_of_weights ws (All-tail IsWeight w ws are))

pub IsWord-weights : (ws : List ℕ) → All IsWeight ws
    → AllByRecursion IsWord (map decimal (printed_weights ws))
IsWord-weights ws are = go (list_all (λ w. eqb w 1) ws)
  where
    go : (all : Bool) → AllByRecursion IsWord (map decimal (cond all [] ws))
    go true = tt
    go false = words_of_weights ws are

-- words with a space between them: a first one, and each other after a space
pub join-weights : (first : List ℕ) (ws : List ℕ)
    → join_with_byte 32 (first ∷ map decimal ws) ≡ first ++ spaced_weights ws
join-weights first [] = sym (append-nil first)
join-weights first (w ∷ ws) = rw (join-weights (decimal w) ws)

-- what is printed of weights that are all 1, and of others
pub spaced_weights-none : (text ws : List ℕ) → list_all (λ w. eqb w 1) ws ≡ true
    → text ≡ text ++ spaced_weights (printed_weights ws)
spaced_weights-none text ws h = rw h (sym (append-nil text))

pub printed_weights-all : (ws : List ℕ) → list_all (λ w. eqb w 1) ws ≡ false
    → printed_weights ws ≡ ws
printed_weights-all ws h = rw h

-- one more is printed
pub spaced_weights-more : (ws : List ℕ) (place : ℕ) → place < length ws
    → spaced_weights (take place ws) ++ 32 ∷ decimal (get_or ws place 0)
    ≡ spaced_weights (take (place + 1) ws)
spaced_weights-more ws place within =
    rw (take_more ws place 0 within)
    (flat_map_more (λ v. 32 ∷ decimal v) [] (take place ws) (get_or ws place 0))

-- the line of a federation, from its parts
pub federation_line-is : (m : Membership) (text a b c : List ℕ)
    → a ≡ text ++ (codes "federation " ++ (decimal m.federation ++ 32 ∷ decimal (count_of m)))
    → b ≡ a ++ spaced_weights (printed_weights m.weights) → c ≡ b ++ 10 ∷ []
    → c ≡ text ++ federation_line m
unfolding federation_words
federation_line-is m text a b c first second third =
    rw (third, second, first) (simp (join-weights, append_assoc))

-- ---- words read one after another

-- the weights of all the words are those read so far, and then those of the words that are left
pub record AreSoFar (words : List (Bor (List ℕ))) (place : ℕ) (weights : List ℕ) : Type 0 where
  pub room : length weights ≡ 63
  pub within : place ≤ length words
  pub each : All IsWeight (take place weights)
  pub so_far : weights_in (map (λ word. word.now) words)
      ≡ option_map (λ ws. take place weights ++ ws)
      (weights_in (map (λ word. word.now) (drop place words)))

-- what is left of the words at one of them
rest_at : (words : List (Bor (List ℕ))) (place : ℕ) (d : Bor (List ℕ)) → place < length words
    → map (λ w. w.now) (drop place words)
    ≡ (get_or words place d).now ∷ map (λ w. w.now) (drop (place + 1) words)
rest_at words place d within = at_drop_more (map (λ w. w.now)) words place d within

pub AreSoFar-more : (words : List (Bor (List ℕ))) (place : ℕ) (weights : List ℕ)
    (d : Bor (List ℕ)) (w : ℕ) → place < length words → length words ≤ 63
    → number_in 1 greatest_weight (get_or words place d).now ≡ Some w
    → IsWeight w → AreSoFar words place weights
    → AreSoFar words (place + 1) (slice_set weights place w)
AreSoFar-more words place weights d w within most found weight are =
    let more : take (place + 1) (slice_set weights place w) ≡ take place weights ++ w ∷ [] =
    take_more_set weights place w (omega (arith, within, most, are.room)) in
    record {
      room = length-set weights place w ∙ are.room;
      within = omega (arith, within);
      each = rw more (All-push IsWeight (take place weights) w are.each weight);
      so_far = rw (more, are.so_far, rest_at words place d within)
          (weights_in-more (take place weights) (get_or words place d).now
          (map (λ v. v.now) (drop (place + 1) words)) w found);
    }

pub AreSoFar-fault : (words : List (Bor (List ℕ))) (place : ℕ) (weights : List ℕ)
    (d : Bor (List ℕ)) → place < length words
    → number_in 1 greatest_weight (get_or words place d).now ≡ None → AreSoFar words place weights
    → weights_in (map (λ v. v.now) words) ≡ None
AreSoFar-fault words place weights d within found are =
    rw (are.so_far, rest_at words place d within)
    (weights_in-fault (take place weights) (get_or words place d).now
    (map (λ v. v.now) (drop (place + 1) words)) found)

-- no word is left
all_read : (words : List (Bor (List ℕ))) (place : ℕ) (weights : List ℕ) → length words ≤ place
    → AreSoFar words place weights → place ≡ length words
all_read words place weights past are = omega (arith, past, are.within)

pub AreSoFar-all : (words : List (Bor (List ℕ))) (place : ℕ) (weights : List ℕ)
    → length words ≤ place → AreSoFar words place weights
    → weights_in (map (λ v. v.now) words) ≡ Some (take (length words) weights)
AreSoFar-all words place weights past are =
    are.so_far
    ∙ at_drop_all
    (λ ls. option_map (λ ws. take place weights ++ ws) (weights_in (map (λ v. v.now) ls)))
    words place past
    ∙ weights_in-all (take place weights)
    ∙ ap (λ (n : ℕ). Some (take n weights)) (all_read words place weights past are)

pub AreSoFar-weights : (words : List (Bor (List ℕ))) (place : ℕ) (weights : List ℕ)
    → IsMemberCount (length words) → length words ≤ place → AreSoFar words place weights
    → AreWeights (take (length words) weights)
AreSoFar-weights words place weights count past are =
    let all : length (take (length words) weights) ≡ length words =
    length-take (length words) weights ∙ omega (arith, count.1, are.room) in (
      (omega (arith, count.0), omega (arith, count.1)),
      rw (← all_read words place weights past are) are.each,
    )

-- members that are made
pub made-some : {E : Type 0} (made : Result Membership E) (m : Membership) → IsOk made
    → IfOk made (λ x. x ≡ m) → result_ok made ≡ Some m
made-some (Ok x) m ok is = rw is
made-some (Err e) m ok is = absurd (cc ok)

pub no_zero : (ws : List ℕ) → All IsWeight ws → ¬ Contains {X = ℕ} ws 0
no_zero ws are has = omega (arith, (All-contains IsWeight ws 0 are has).0)
