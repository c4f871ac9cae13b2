-- A site that is asked for some versions, and then for others.
use Rattle.std.proofs.Common.{◌≡◌, ℕ, ◌+◌, ◌≤◌, false, not, List, [], ◌∷◌, ◌++◌, length}
use Rattle.std.proofs.Common.{Option, Some, None, Ok, Err, refl, append_assoc, append-nil}
use Rattle.std.proofs.Common.{arith}
use Rattle.std.proofs.KnownBytes.{Appends-nil, Appends-trans}
use Rattle.std.proofs.lemmas.Bool.Decides.{nat_tests}
use Rattle.std.proofs.lemmas.List.{length-append}
use Rattle.std.proofs.lemmas.List.Filters.{length-filter_both}
use Rattle.std.specs.Prelude.{◌≢◌, ◌⊎◌}
use Rattle.known_bags.specs.declared.known_bag.KnownBag.{KnownBag}
use Rattle.udp_site.specs.Traffic.{Move}
use Rattle.udp_site.proofs.Growth.{Grows-trans, Grows-none}
use Rattle.catch_up.specs.declared.said_answers.AskFault.{AskFault}
use Rattle.catch_up.specs.declared.rounds.Target.{Target}
use Rattle.catch_up.specs.Rounds.{Answer, AreAnswers, answer_lines, same_in}
use Rattle.catch_up.specs.Rounds.{left_of, AreRounds, AreWhole, round_lines, same_after}
use Rattle.catch_up.specs.Rounds.{left_after, next_round, round_after, last_round, open_of}
use Rattle.catch_up.specs.inner.Progress.{GoesOn, StopsIn, GoesOnRounds, StopsInRounds}
use Rattle.catch_up.specs.inner.Progress.{IsRound, AreAsked, IsNext}
use Rattle.catch_up.specs.Times.{Beat, LeaveSome, most_rounds}
use Rattle.catch_up.proofs.Parts.{then_part}
use Rattle.catch_up.proofs.Paces.{leave_then, ArePausesOf, IsAwaited, last_of, most_of, stops_in}

-- ---- some versions, and others

answers_then : (asked : Target) (xs ys : List KnownBag) (us bs : List Answer) (m n : List Move)
    → length us ≡ length xs → AreAnswers asked xs us m → AreAnswers asked ys bs n
    → AreAnswers asked (xs ++ ys) (us ++ bs) (m ++ n)
answers_then asked [] ys [] bs m n count p q = rw p q
answers_then asked [] ys (a ∷ us) bs m n count p q = absurd p
answers_then asked (v ∷ xs) ys [] bs m n count p q = absurd (omega arith)
answers_then asked (v ∷ xs) ys (a ∷ us) bs m n count (first, rest, is, one, more) q = (
  first,
  rest ++ n,
  rw (is, append_assoc first rest n),
  one,
  answers_then asked xs ys us bs rest n (omega arith) more q,
)

-- the others may not be asked for
answers_within : (asked : Target) (xs ys : List KnownBag) (us : List Answer) (m : List Move)
    → AreAnswers asked xs us m → AreAnswers asked (xs ++ ys) us m
answers_within asked [] [] us m p = p
answers_within asked [] (y ∷ ys) [] m p = p
answers_within asked [] (y ∷ ys) (a ∷ us) m p = absurd p
answers_within asked (v ∷ xs) ys [] m p = p
answers_within asked (v ∷ xs) ys (a ∷ us) m (first, rest, is, one, more) =
    (first, rest, is, one, answers_within asked xs ys us rest more)

lines_then : (xs ys : List KnownBag) (us bs : List Answer) → length us ≡ length xs
    → answer_lines (xs ++ ys) (us ++ bs) ≡ answer_lines xs us ++ answer_lines ys bs
lines_then [] ys [] bs count = refl
lines_then [] ys (a ∷ us) bs count = absurd (omega arith)
lines_then (v ∷ xs) ys [] bs count = absurd (omega arith)
lines_then (v ∷ xs) ys (a ∷ us) bs count =
    rw (lines_then xs ys us bs (omega arith), append_assoc)

lines_within : (asked : Target) (xs ys : List KnownBag) (us : List Answer) (m : List Move)
    → AreAnswers asked xs us m → answer_lines (xs ++ ys) us ≡ answer_lines xs us
lines_within asked [] [] us m p = refl
lines_within asked [] (y ∷ ys) [] m p = refl
lines_within asked [] (y ∷ ys) (a ∷ us) m p = absurd p
lines_within asked (v ∷ xs) ys [] m p = refl
lines_within asked (v ∷ xs) ys (a ∷ us) m (first, rest, is, one, more) =
    rw (lines_within asked xs ys us rest more)

pub left_then : (xs ys : List KnownBag) (us bs : List Answer) → length us ≡ length xs
    → left_of (xs ++ ys) (us ++ bs) ≡ left_of xs us ++ left_of ys bs
left_then [] ys [] bs count = refl
left_then [] ys (a ∷ us) bs count = absurd (omega arith)
left_then (v ∷ xs) ys [] bs count = absurd (omega arith)
left_then (v ∷ xs) ys (None ∷ us) bs count = rw (left_then xs ys us bs (omega arith))
left_then (v ∷ xs) ys (Some bag ∷ us) bs count = left_then xs ys us bs (omega arith)

pub same_then : (xs ys : List KnownBag) (us bs : List Answer) → length us ≡ length xs
    → same_in (xs ++ ys) (us ++ bs) ≡ same_in xs us + same_in ys bs
same_then [] ys [] bs count = omega arith
same_then [] ys (a ∷ us) bs count = absurd (omega arith)
same_then (v ∷ xs) ys [] bs count = absurd (omega arith)
same_then (v ∷ xs) ys (a ∷ us) bs count =
    omega (arith, same_then xs ys us bs (omega arith))

-- no more are the same than are asked for
pub same_bound : (xs : List KnownBag) (us : List Answer)
    → same_in xs us + length (left_of xs us) ≤ length xs
same_bound [] [] = omega arith
same_bound (v ∷ xs) [] = omega arith
same_bound [] (a ∷ us) = omega arith
same_bound (v ∷ xs) (None ∷ us) = omega (arith, same_bound xs us)
same_bound (v ∷ xs) (Some bag ∷ us) = grind (arith, nat_tests, same_bound xs us)

-- no more are open than there are
pub open_at_most : (xs : List KnownBag) → length (open_of xs) ≤ length xs
unfolding open_of
open_at_most xs =
    omega (
      arith,
      length-filter_both (λ (v : KnownBag). not v.is_found) (λ (v : KnownBag). not (not v.is_found))
          (λ _. refl) xs,
    )

module _ (asked : Target) where
  -- nobody is asked
  pub goes_on_none : (a : Option (List Move)) (o : Option (List ℕ)) → GoesOn asked [] a a o o []
  goes_on_none a o = ([], Grows-none a, refl, refl, Appends-nil o)

  pub goes_on : (xs ys : List KnownBag) (a b c : Option (List Move)) (o n p : Option (List ℕ))
      (us bs : List Answer) → GoesOn asked xs a b o n us → GoesOn asked ys b c n p bs
      → GoesOn asked (xs ++ ys) a c o p (us ++ bs)
  goes_on xs ys a b c o n p us bs (moves, grows, are, count, lines)
      (others, more, are_more, count_more, lines_more) = (
        moves ++ others,
        Grows-trans a b c moves others grows more,
        answers_then asked xs ys us bs moves others count are are_more,
        simp length-append (cc),
        rw (lines_then xs ys us bs count) (Appends-trans o n p _ _ lines lines_more),
      )

  pub stops_then : (xs ys : List KnownBag) (a b c : Option (List Move)) (o n p : Option (List ℕ))
      (us : List Answer) (fault : AskFault) → GoesOn asked xs a b o n us
      → StopsIn asked ys b c n p fault → StopsIn asked (xs ++ ys) a c o p fault
  stops_then xs ys a b c o n p us fault (moves, grows, are, count, lines)
      (bs, some, others, more, are_more, only, part) = (
        us ++ bs,
        moves ++ some,
        others,
        rw append_assoc (Grows-trans a b c moves (some ++ others) grows more),
        answers_then asked xs ys us bs moves some count are are_more,
        only,
        rw (lines_then xs ys us bs count) (then_part o n p _ _ lines part),
      )

  pub stops_within : (xs ys : List KnownBag) (a b : Option (List Move)) (o n : Option (List ℕ))
      (fault : AskFault) → StopsIn asked xs a b o n fault → StopsIn asked (xs ++ ys) a b o n fault
  stops_within xs ys a b o n fault (us, moves, others, grows, are, only, part) = (
    us,
    moves,
    others,
    grows,
    answers_within asked xs ys us moves are,
    only,
    rw (lines_within asked xs ys us moves are) part,
  )

-- ---- one more round

rounds_then : (asked : Target) (vs : List KnownBag) (rounds : List (List Answer))
    (us : List Answer) (m n : List Move) → AreRounds asked vs rounds m
    → AreAnswers (round_after asked rounds) (left_after vs rounds) us n
    → AreRounds asked vs (rounds ++ us ∷ []) (m ++ n)
rounds_then asked vs [] us m n p q = (n, [], rw (p, append-nil n), q, refl)
rounds_then asked vs (bs ∷ rounds) us m n (first, rest, is, one, more) q = (
  first,
  rest ++ n,
  rw (is, append_assoc first rest n),
  one,
  rounds_then (next_round asked) (left_of vs bs) rounds us rest n more q,
)

round_then : (asked : Target) (rounds : List (List Answer)) (us : List Answer)
    → round_after asked (rounds ++ us ∷ []) ≡ next_round (round_after asked rounds)
round_then asked [] us = refl
round_then asked (bs ∷ rounds) us = round_then (next_round asked) rounds us

last_then : (asked : Target) (rounds : List (List Answer)) (us : List Answer)
    → last_round asked (rounds ++ us ∷ []) ≡ round_after asked rounds
last_then asked [] us = refl
last_then asked (bs ∷ []) us = refl
last_then asked (bs ∷ cs ∷ rounds) us = last_then (next_round asked) (cs ∷ rounds) us

whole_then : (vs : List KnownBag) (rounds : List (List Answer)) (us : List Answer)
    → AreWhole vs rounds → length us ≡ length (left_after vs rounds)
    → AreWhole vs (rounds ++ us ∷ [])
whole_then vs [] us whole count = (count, tt)
whole_then vs (bs ∷ rounds) us (one, whole) count =
    (one, whole_then (left_of vs bs) rounds us whole count)

round_lines_then : (vs : List KnownBag) (rounds : List (List Answer)) (us : List Answer)
    → round_lines vs (rounds ++ us ∷ [])
    ≡ round_lines vs rounds ++ answer_lines (left_after vs rounds) us
round_lines_then vs [] us = append-nil (answer_lines vs us)
round_lines_then vs (bs ∷ rounds) us =
    rw (round_lines_then (left_of vs bs) rounds us, append_assoc)

same_after_then : (vs : List KnownBag) (rounds : List (List Answer)) (us : List Answer)
    → same_after vs (rounds ++ us ∷ [])
    ≡ same_after vs rounds + same_in (left_after vs rounds) us
same_after_then vs [] us = omega arith
same_after_then vs (bs ∷ rounds) us = omega (arith, same_after_then (left_of vs bs) rounds us)

left_after_then : (vs : List KnownBag) (rounds : List (List Answer)) (us : List Answer)
    → left_after vs (rounds ++ us ∷ []) ≡ left_of (left_after vs rounds) us
left_after_then vs [] us = refl
left_after_then vs (bs ∷ rounds) us = left_after_then (left_of vs bs) rounds us

same_after_bound : (vs : List KnownBag) (rounds : List (List Answer))
    → same_after vs rounds + length (left_after vs rounds) ≤ length vs
same_after_bound vs [] = omega arith
same_after_bound vs (bs ∷ rounds) =
    omega (arith, same_bound vs bs, same_after_bound (left_of vs bs) rounds)

module _ (asked : Target) (vs : List KnownBag) where
  no_rounds : (a : Option (List Move)) (o : Option (List ℕ)) → GoesOnRounds asked vs a a o o []
  no_rounds a o = ([], Grows-none a, refl, tt, Appends-nil o)

  one_more_round : (a b c : Option (List Move)) (o n p : Option (List ℕ))
      (rounds : List (List Answer)) (us : List Answer) → GoesOnRounds asked vs a b o n rounds
      → GoesOn (round_after asked rounds) (left_after vs rounds) b c n p us
      → GoesOnRounds asked vs a c o p (rounds ++ us ∷ [])
  one_more_round a b c o n p rounds us (moves, grows, are, whole, lines)
      (others, more, are_more, count, lines_more) = (
        moves ++ others,
        Grows-trans a b c moves others grows more,
        rounds_then asked vs rounds us moves others are are_more,
        whole_then vs rounds us whole count,
        rw (round_lines_then vs rounds us) (Appends-trans o n p _ _ lines lines_more),
      )

  -- the time isn't over between rounds, and each of them but the last leaves some
  stops_in_round : (s : ℕ) (t u : Option (List Beat)) (a b c : Option (List Move))
      (o n p : Option (List ℕ)) (rounds : List (List Answer)) (fault : AskFault)
      → GoesOnRounds asked vs a b o n rounds
      → StopsIn (round_after asked rounds) (left_after vs rounds) b c n p fault
      → LeaveSome vs rounds → IsAwaited s (left_after vs rounds) (length rounds) t u
      → StopsInRounds s asked vs t u a c o p fault
  stops_in_round s t u a b c o n p rounds fault (moves, grows, are, whole, lines)
      (us, some, others, more, are_more, only, part) leave (paused, next) = (
        rounds ++ us ∷ [],
        moves ++ some,
        others,
        rw append_assoc (Grows-trans a b c moves (some ++ others) grows more),
        rounds_then asked vs rounds us moves some are are_more,
        rw (last_then asked rounds us) only,
        rw (round_lines_then vs rounds us) (then_part o n p _ _ lines part),
        stops_in s vs (rounds ++ us ∷ []) t u (length rounds) (length-append rounds (us ∷ []))
            (leave_then vs rounds us leave next) paused,
      )

-- ---- the rounds so far

-- so many rounds, and the next one
abbrev pub RoundsSoFar : (asked at : Target) → (old now : List KnownBag)
    → (before after : Option (List Move)) → (written next : Option (List ℕ)) → (same count : ℕ)
    → Type 0
RoundsSoFar asked at old now before after written next same count =
    (rounds : List (List Answer)) × (length rounds ≡ count) × (at ≡ round_after asked rounds)
    × GoesOnRounds asked (open_of old) before after written next rounds
    × (open_of now ≡ left_after (open_of old) rounds)
    × (same ≡ same_after (open_of old) rounds) × LeaveSome (open_of old) rounds

module _ (asked : Target) (old : List KnownBag) (a : Option (List Move)) (o : Option (List ℕ)) where
  pub at_first_round : (at : Target) → at ≡ asked → RoundsSoFar asked at old old a a o o 0 0
  at_first_round at here = ([], refl, here, no_rounds asked (open_of old) a o, refl, refl, tt)

  pub then_round : (at : Target) (now next : List KnownBag) (b c : Option (List Move))
      (n p : Option (List ℕ)) (same count more : ℕ)
      → RoundsSoFar asked at old now a b o n same count
      → (count ≡ 0) ⊎ (open_of now ≢ []) → IsRound at now next b c n p (Ok more)
      → RoundsSoFar asked (next_round at) old next a c o p (same + more) (count + 1)
  then_round at now next b c n p same count more
      (rounds, so_many, here, gone, kept, is, leave) some (answers, goes, left, counted) = (
        rounds ++ answers ∷ [],
        rw (length-append rounds (answers ∷ []), so_many),
        rw (round_then asked rounds answers, here),
        one_more_round asked (open_of old) a b c o n p rounds answers gone
            (rw (here, kept) at goes),
        cc (left_after_then (open_of old) rounds answers),
        cc (same_after_then (open_of old) rounds answers),
        leave_then (open_of old) rounds answers leave (rw (← so_many, kept) at some),
      )

  pub stops_at_round : (s : ℕ) (t u : Option (List Beat)) (at : Target)
      (now next : List KnownBag) (b c : Option (List Move)) (n p : Option (List ℕ))
      (same count : ℕ) (fault : AskFault) → RoundsSoFar asked at old now a b o n same count
      → IsAwaited s (open_of now) count t u → IsRound at now next b c n p (Err fault)
      → StopsInRounds s asked (open_of old) t u a c o p fault
  stops_at_round s t u at now next b c n p same count fault
      (rounds, so_many, here, gone, kept, is, leave) awaited stops =
      stops_in_round asked (open_of old) s t u a b c o n p rounds fault gone
      (rw (here, kept) at stops) leave (rw (← so_many, kept) at awaited)

  -- no more are the same than there are
  pub same_at_most : (at : Target) (now : List KnownBag) (b : Option (List Move))
      (n : Option (List ℕ)) (same count : ℕ) → RoundsSoFar asked at old now a b o n same count
      → same ≤ length old
  same_at_most at now b n same count (rounds, so_many, here, gone, kept, is, leave) =
      omega (arith, is, same_after_bound (open_of old) rounds, open_at_most old)

  -- there is no other round
  pub asked_all : (s : ℕ) (t u v : Option (List Beat)) (at : Target) (now : List KnownBag)
      (b : Option (List Move)) (n : Option (List ℕ)) (same count : ℕ) → length now ≡ length old
      → RoundsSoFar asked at old now a b o n same count → ArePausesOf s count t u
      → IsNext s (open_of now) count u v false → AreAsked s asked old now t v a b o n (Ok same)
  asked_all s t u v at now b n same count as_long
      (rounds, so_many, here, gone, kept, is, leave) paused ended = (
        rounds,
        omega (arith, ended.0),
        gone,
        kept,
        as_long,
        is,
        last_of s (open_of old) rounds t (open_of now) u v count so_many kept leave paused ended,
      )

  pub asked_most : (s : ℕ) (t u : Option (List Beat)) (at : Target) (now : List KnownBag)
      (b : Option (List Move)) (n : Option (List ℕ)) (same count : ℕ) → count ≡ most_rounds
      → length now ≡ length old → RoundsSoFar asked at old now a b o n same count
      → ArePausesOf s count t u → AreAsked s asked old now t u a b o n (Ok same)
  asked_most s t u at now b n same count most as_long
      (rounds, so_many, here, gone, kept, is, leave) paused = (
        rounds,
        omega arith,
        gone,
        kept,
        as_long,
        is,
        most_of s (open_of old) rounds t u count so_many most leave paused,
      )
