-- How long a site is asked, and what is waited for between two rounds.
use Rattle.std.specs.Prelude.{◌≡◌, ◌≢◌, ◌⊎◌, ⊤, ℕ, zero, suc, ◌*◌, ◌^◌, ◌-◌, min, nat_le, Bool}
use Rattle.std.specs.Prelude.{true, false, List, [], ◌∷◌, ◌++◌, length, Option, Some, None}
use Rattle.known_bags.specs.declared.known_bag.KnownBag.{KnownBag}
use Rattle.catch_up.specs.Rounds.{Answer, left_of, left_after}

-- ---- a timer

-- at a timer it was read how many whole seconds have passed, or none could be read; or this many
-- milliseconds were waited for
pub data Beat : Type 0 where
  Read : Option ℕ → Beat
  Paused : (millis : ℕ) → Beat

-- what was done at a timer, where that is known, grows by these beats
abbrev pub Beats : Option (List Beat) → Option (List Beat) → List Beat → Type 0
Beats None new beats = ⊤
Beats (Some before) new beats = new ≡ Some (before ++ beats)

-- so many seconds are over, or it can't be known
abbrev pub is_over : (seconds : ℕ) → Option ℕ → Bool
is_over seconds None = true
is_over seconds (Some passed) = nat_le seconds passed

-- ---- between two rounds

-- how many milliseconds are waited for, if there were so many pauses before: 2, then twice as many
-- each time, and a second at most
abbrev pub pause_after : ℕ → ℕ
pause_after pauses = min (2 * 2 ^ pauses) 1000

-- so many pauses, and before each of them it was read that the time isn't over
abbrev pub ArePauses : (seconds count : ℕ) → List Beat → Type 0
ArePauses seconds zero beats = beats ≡ []
ArePauses seconds (suc count) beats =
    (earlier : List Beat) × (passed : ℕ)
    × (beats ≡ earlier ++ Read (Some passed) ∷ Paused (pause_after count) ∷ [])
    × (is_over seconds (Some passed) ≡ false) × ArePauses seconds count earlier

-- each round but the last leaves some versions
abbrev pub LeaveSome : List KnownBag → List (List Answer) → Type 0
LeaveSome versions [] = ⊤
LeaveSome versions (answers ∷ []) = ⊤
LeaveSome versions (answers ∷ next ∷ rounds) =
    (left_of versions answers ≢ []) × LeaveSome (left_of versions answers) (next ∷ rounds)

-- ---- the end

-- it is read that the time is over
abbrev pub ReadsOver : (seconds : ℕ) → List Beat → Type 0
ReadsOver seconds last =
    (time : Option ℕ) × (last ≡ Read time ∷ []) × (is_over seconds time ≡ true)

-- There is time for another round, and it is waited for, after so many pauses; or time is over.
abbrev pub WaitsForRound : (seconds pauses : ℕ) → (old new : Option (List Beat)) → Bool → Type 0
WaitsForRound seconds pauses old new true =
    (passed : ℕ) × Beats old new (Read (Some passed) ∷ Paused (pause_after pauses) ∷ [])
    × (is_over seconds (Some passed) ≡ false)
WaitsForRound seconds pauses old new false =
    (last : List Beat) × Beats old new last × ReadsOver seconds last

-- so many rounds can be counted
abbrev pub most_rounds : ℕ
most_rounds = 4294967295

-- Why there is no other round after these, by what they leave, and by what was done at the timer
-- after the last: nothing is left; or the time is over; or no more rounds can be counted.
abbrev pub AreLast : (seconds : ℕ) → List KnownBag → List (List Answer) → List Beat → Type 0
AreLast seconds versions rounds last =
    ((left_after versions rounds ≡ []) × (last ≡ []))
    ⊎ (((left_after versions rounds ≢ []) × ReadsOver seconds last)
    ⊎ ((length rounds ≡ most_rounds) × (last ≡ [])))

-- Between two rounds there is a pause, and nowhere else: there was time for another round, and
-- some version was left for it. This is so of what was done at the timer after the last of them.
abbrev pub ArePaced : (seconds : ℕ) → List KnownBag → List (List Answer)
    → (old new : Option (List Beat)) → (List Beat → Type 0) → Type 0
ArePaced seconds versions rounds old new Ends =
    LeaveSome versions rounds
    × ((pauses : List Beat) × (last : List Beat) × Beats old new (pauses ++ last)
    × ArePauses seconds (length rounds - 1) pauses × Ends last)

-- these rounds, and no others
abbrev pub AreAllRounds : (seconds : ℕ) → List KnownBag → List (List Answer)
    → (old new : Option (List Beat)) → Type 0
AreAllRounds seconds versions rounds old new =
    ArePaced seconds versions rounds old new (AreLast seconds versions rounds)

-- these rounds, and perhaps the last of them not to its end
abbrev pub AreSoManyRounds : (seconds : ℕ) → List KnownBag → List (List Answer)
    → (old new : Option (List Beat)) → Type 0
AreSoManyRounds seconds versions rounds old new =
    ArePaced seconds versions rounds old new
    (λ last. (last ≡ []) ⊎ AreLast seconds versions rounds last)
