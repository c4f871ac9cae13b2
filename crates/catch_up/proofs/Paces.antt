-- What is waited for between rounds, one round after another.
use Rattle.std.proofs.Common.{◌≡◌, ℕ, suc, ◌+◌, ◌-◌, Bool, true, false, List, [], ◌∷◌, ◌++◌, length}
use Rattle.std.proofs.Common.{Option, Some, None, refl, sym, subst, ◌∙◌, append_assoc, append-nil}
use Rattle.std.proofs.Common.{inl, inr, arith, cond, not}
use Rattle.std.proofs.lemmas.List.Elements.{All-nil, All-cons, All-head, All-tail}
use Rattle.std.specs.Prelude.{◌≢◌, ◌⊎◌, ◌↔◌, IsTrue, filter}
use Rattle.std.specs.List.{All}
use Rattle.known_bags.specs.declared.known_bag.KnownBag.{KnownBag}
use Rattle.catch_up.specs.Rounds.{Answer, open_of, left_of, left_after}
use Rattle.catch_up.specs.Times.{Beat, Read, Paused, Beats, is_over, pause_after, ArePauses}
use Rattle.catch_up.specs.Times.{LeaveSome, WaitsForRound, most_rounds, ArePaced}
use Rattle.catch_up.specs.Times.{AreSoManyRounds, AreAllRounds}
use Rattle.catch_up.specs.inner.Progress.{IsNext}

pub Beats-none : (a : Option (List Beat)) → Beats a a []
Beats-none None = tt
Beats-none (Some x) = rw append-nil

pub Beats-trans : (a b c : Option (List Beat)) (m n : List Beat) → Beats a b m → Beats b c n
    → Beats a c (m ++ n)
Beats-trans None b c m n p q = tt
Beats-trans (Some x) b c m n p q = rw (← append_assoc x m n) (rw p at q)

-- ---- what a round leaves

-- the site knows its bag
abbrev IsFound : KnownBag → Type 0
IsFound v = v.is_found ≡ true

-- nothing is left where all are known
none_open : (vs : List KnownBag) → All IsFound vs → open_of vs ≡ []
unfolding open_of
none_open [] all = refl
none_open (v ∷ vs) all =
    rw (All-head IsFound v vs all) (none_open vs (All-tail IsFound v vs all))

found_too : (v : KnownBag) (vs : List KnownBag) (t : Bool) → v.is_found ≡ t
    → (open_of vs ≡ [] → All IsFound vs)
    → cond (not t) (v ∷ filter (λ v. not v.is_found) vs) (filter (λ v. not v.is_found) vs) ≡ []
    → All IsFound (v ∷ vs)
unfolding open_of
found_too v vs true is others none = All-cons IsFound v vs is (others none)
found_too v vs false is others none = absurd (cc none)

all_found : (vs : List KnownBag) → open_of vs ≡ [] → All IsFound vs
unfolding open_of
all_found [] none = All-nil IsFound
all_found (v ∷ vs) none = found_too v vs v.is_found refl (all_found vs) none

leave_more : (vs : List KnownBag) (bs : List Answer) (rounds : List (List Answer))
    (us : List Answer) → LeaveSome vs (bs ∷ rounds) → left_after vs (bs ∷ rounds) ≢ []
    → LeaveSome vs (bs ∷ (rounds ++ us ∷ []))
leave_more vs bs [] us leave some = (some, tt)
leave_more vs bs (cs ∷ rounds) us (left, leave) some =
    (left, leave_more (left_of vs bs) cs rounds us leave some)

-- there is another round if there was none, or if the last one left something
pub leave_then : (vs : List KnownBag) (rounds : List (List Answer)) (us : List Answer)
    → LeaveSome vs rounds → (length rounds ≡ 0) ⊎ (left_after vs rounds ≢ [])
    → LeaveSome vs (rounds ++ us ∷ [])
leave_then vs [] us leave why = tt
leave_then vs (bs ∷ rounds) us leave (inl none) = absurd (omega arith)
leave_then vs (bs ∷ rounds) us leave (inr some) = leave_more vs bs rounds us leave some

-- ---- the pauses so far

-- the pauses between so many rounds
abbrev pub ArePausesOf : (seconds rounds : ℕ) → (old new : Option (List Beat)) → Type 0
ArePausesOf seconds rounds old new =
    (pauses : List Beat) × Beats old new pauses × ArePauses seconds (rounds - 1) pauses

-- those before the next one, of which there is one
abbrev pub IsAwaited : (seconds : ℕ) → (left : List KnownBag) → (rounds : ℕ)
    → (old new : Option (List Beat)) → Type 0
IsAwaited seconds left rounds old new =
    ((pauses : List Beat) × Beats old new pauses × ArePauses seconds rounds pauses)
    × ((rounds ≡ 0) ⊎ (left ≢ []))

module _ (s : ℕ) (t : Option (List Beat)) where
  pub no_pauses : ArePausesOf s 0 t t
  no_pauses = ([], Beats-none t, refl)

  pub awaited : (left : List KnownBag) (rounds : ℕ) (u v : Option (List Beat))
      → ArePausesOf s rounds t u → IsNext s left rounds u v true → IsAwaited s left rounds t v
  awaited left rounds u v (pauses, beats, are) (inl (none, idle)) = (
    (pauses ++ [], Beats-trans t u v _ _ beats idle, rw (append-nil, none) (rw none at are)),
    inl none,
  )
  awaited left rounds u v (pauses, beats, are) (inr (more, some, (passed, paused, isnt))) =
      let pause = Read (Some passed) ∷ Paused (pause_after (rounds - 1)) ∷ [] in
      let is : suc (rounds - 1) ≡ rounds = omega (arith, more) in (
        (
          pauses ++ pause,
          Beats-trans t u v _ _ beats paused,
          subst (λ (k : ℕ). ArePauses s k (pauses ++ pause)) is (pauses, passed, refl, isnt, are),
        ),
        inr some,
      )

  -- the round that was awaited is done
  pub after_round : (left : List KnownBag) (rounds : ℕ) (u : Option (List Beat))
      → IsAwaited s left rounds t u → ArePausesOf s (rounds + 1) t u
  after_round left rounds u ((pauses, beats, are), some) =
      let its : rounds + 1 - 1 ≡ rounds = omega arith in
      (pauses, beats, rw its are)

module _ (s : ℕ) (vs : List KnownBag) (rounds : List (List Answer)) (t : Option (List Beat)) where
  -- no round after these
  pub last_of : (now : List KnownBag) (u v : Option (List Beat)) (count : ℕ)
      → length rounds ≡ count → now ≡ left_after vs rounds → LeaveSome vs rounds
      → ArePausesOf s count t u → IsNext s now count u v false → AreAllRounds s vs rounds t v
  last_of now u v count so_many kept leave (pauses, beats, are) (more, (last, ended, why)) = (
    leave,
    (
      pauses,
      last,
      Beats-trans t u v _ _ beats ended,
      rw so_many are,
      elim (rw kept at why) [ inl none ↦ inl none | inr over ↦ inr (inl over) ],
    ),
  )

  -- no more rounds can be counted
  pub most_of : (u : Option (List Beat)) (count : ℕ) → length rounds ≡ count → count ≡ most_rounds
      → LeaveSome vs rounds → ArePausesOf s count t u → AreAllRounds s vs rounds t u
  most_of u count so_many most leave (pauses, beats, are) = (
    leave,
    (pauses, [], rw append-nil beats, rw so_many are, inr (inr (so_many ∙ most, refl))),
  )

  -- the rounds stop in the last of these
  pub stops_in : (u : Option (List Beat)) (count : ℕ) → length rounds ≡ count + 1
      → LeaveSome vs rounds → ((pauses : List Beat) × Beats t u pauses × ArePauses s count pauses)
      → ArePaced s vs rounds t u (λ last. last ≡ [])
  stops_in u count so_many leave (pauses, beats, are) =
      let its : length rounds - 1 ≡ count = omega (arith, so_many) in
      (leave, (pauses, [], rw append-nil beats, rw its are, refl))

  pub not_to_the_end : (u : Option (List Beat)) → ArePaced s vs rounds t u (λ last. last ≡ [])
      → AreSoManyRounds s vs rounds t u
  not_to_the_end u (leave, (pauses, last, beats, are, none)) =
      (leave, (pauses, last, beats, are, inl none))

  pub to_the_end : (u : Option (List Beat)) → AreAllRounds s vs rounds t u
      → AreSoManyRounds s vs rounds t u
  to_the_end u (leave, (pauses, last, beats, are, ends)) =
      (leave, (pauses, last, beats, are, inr ends))

-- ---- whether there is another round

-- it was read whether the time is over
abbrev IsRead : (seconds : ℕ) → (old new : Option (List Beat)) → Bool → Type 0
IsRead seconds old new over =
    (time : Option ℕ) × Beats old new (Read time ∷ []) × (over ≡ is_over seconds time)

module _ (s pauses : ℕ) (a b : Option (List Beat)) (over : Bool) where
  -- the time is over
  pub is_late : IsRead s a b over → over ≡ true → WaitsForRound s pauses a b false
  is_late (time, beats, same) late = (Read time ∷ [], beats, (time, refl, sym same ∙ late))

  -- there is time, and it is waited for
  pub goes_on : (c : Option (List Beat)) (millis : ℕ) → IsRead s a b over → over ≡ false
      → millis ≡ pause_after pauses → Beats b c (Paused millis ∷ [])
      → WaitsForRound s pauses a c true
  goes_on c millis (None, beats, same) early long paused = absurd (cc (sym same ∙ early))
  goes_on c millis (Some passed, beats, same) early long paused =
      (passed, Beats-trans a b c _ _ beats (rw long at paused), sym same ∙ early)

module _ (s : ℕ) (vs : List KnownBag) (rounds : ℕ) (some : rounds ≢ 0) (known : Bool)
    (is : IsTrue known ↔ All IsFound vs) where
  -- nothing is left
  pub none_left : known ≡ true → (a : Option (List Beat)) → IsNext s (open_of vs) rounds a a false
  none_left all a =
      (omega (arith, some), ([], Beats-none a, inl (none_open vs (is.0 all), refl)))

  module _ (not_all : known ≡ false) where
    not_none : open_of vs ≢ []
    not_none none = absurd (cc (sym (is.1 (all_found vs none)) ∙ not_all))

    -- something is, and there is time for it or not
    pub some_left : (a b : Option (List Beat)) (goes : Bool) → WaitsForRound s (rounds - 1) a b goes
        → IsNext s (open_of vs) rounds a b goes
    some_left a b true (passed, beats, isnt) =
        inr (omega (arith, some), not_none, (passed, beats, isnt))
    some_left a b false (last, beats, over) =
        (omega (arith, some), (last, beats, inr (not_none, over)))
