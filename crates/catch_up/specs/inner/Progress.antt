-- How far a site was asked, and what was written of its answers.
use Rattle.std.specs.Prelude.{◌≡◌, ◌≢◌, ◌⊎◌, ◌≤◌, ◌<◌, ◌-◌, ℕ, Bool, true, false}
use Rattle.std.specs.Prelude.{if◌then◌else◌, List, [], ◌∷◌, ◌++◌, length, take}
use Rattle.std.specs.Prelude.{Option, Some, None, Result, Ok, Err}
use Rattle.std.specs.Io.KnownBytes.{Appends}
use Rattle.std.specs.declared.alloc.AllocError.{AllocError}
use Rattle.known_bags.specs.declared.known_bag.KnownBag.{KnownBag}
use Rattle.udp_site.specs.Traffic.{Move, Grows}
use Rattle.fed_types.specs.Slots.{SlotName}
use Rattle.site_client.specs.declared.reply.Wanted.TheVariants as wanted
use Rattle.site_client.specs.Replies.{first_reply}
use Rattle.catch_up.specs.declared.said_answers.AskFault.{AskFault}
use Rattle.catch_up.specs.declared.said_answers.AskFault.TheVariants.{Memory, Output}
use Rattle.catch_up.specs.declared.rounds.Target.{Target}
use Rattle.catch_up.specs.Rounds.{Answer, question, bag_in, HasAskedFor, AsksFor, IsOneMore}
use Rattle.catch_up.specs.Rounds.{open_of, AreAnswers}
use Rattle.catch_up.specs.Rounds.{answer_lines, is_same, same_in, left_of, AreRounds}
use Rattle.catch_up.specs.Rounds.{AreWhole, round_lines, same_after, left_after, last_round}
use Rattle.catch_up.specs.Times.{Beat, Read, Paused, Beats, is_over, pause_after, ReadsOver}
use Rattle.catch_up.specs.Times.{ArePaced, AreAllRounds, AreSoManyRounds}
use Rattle.catch_up.specs.Reports.{report}

-- a prefix of the bytes was written
abbrev pub AppendsPart : Option (List ℕ) → Option (List ℕ) → List ℕ → Type 0
AppendsPart old new bytes = (n : ℕ) × Appends old new (take n bytes)

-- the moves after those of the answers: none, unless memory ran out
abbrev pub OnlyAsked : Target → AskFault → List Move → Type 0
OnlyAsked asked Memory others = IsOneMore asked others
OnlyAsked asked Output others = others ≡ []

-- a site is asked once for a slot's bag; or memory runs out
abbrev pub IsAskedFor : Target → SlotName → (before after : Option (List Move))
    → Result Answer AllocError → Type 0
IsAskedFor asked slot before after (Ok answer) =
    (moves : List Move) × Grows before after moves × HasAskedFor asked slot moves
    × (answer ≡ bag_in (first_reply (question asked slot) wanted.ToQuery moves))
IsAskedFor asked slot before after (Err fault) =
    (moves : List Move) × Grows before after moves × AsksFor asked slot moves

-- ---- one round

-- all of the versions are asked for
abbrev pub GoesOn : Target → List KnownBag → (before after : Option (List Move))
    → (old new : Option (List ℕ)) → List Answer → Type 0
GoesOn asked versions before after old new answers =
    (moves : List Move) × Grows before after moves × AreAnswers asked versions answers moves
    × (length answers ≡ length versions) × Appends old new (answer_lines versions answers)

-- some first ones are
abbrev pub StopsIn : Target → List KnownBag → (before after : Option (List Move))
    → (old new : Option (List ℕ)) → AskFault → Type 0
StopsIn asked versions before after old new fault =
    (answers : List Answer) × (moves : List Move) × (others : List Move)
    × Grows before after (moves ++ others) × AreAnswers asked versions answers moves
    × OnlyAsked asked fault others × AppendsPart old new (answer_lines versions answers)

-- a version after its answer
abbrev pub version_after : KnownBag → Answer → KnownBag
version_after v None = v
version_after v (Some bag) = record v { is_found = true }

-- one version is asked for, and this many known as its source knows it
abbrev pub IsAskedOnce : Target → (v next : KnownBag) → (before after : Option (List Move))
    → (old new : Option (List ℕ)) → Result ℕ AskFault → Type 0
IsAskedOnce asked v next before after old new (Ok same) =
    (answer : Answer) × GoesOn asked (v ∷ []) before after old new (answer ∷ [])
    × (next ≡ version_after v answer) × (same ≡ (if is_same v answer then 1 else 0))
IsAskedOnce asked v next before after old new (Err fault) =
    StopsIn asked (v ∷ []) before after old new fault

-- a round: the versions that aren't known yet are asked for
abbrev pub IsRound : Target → (versions next : List KnownBag)
    → (before after : Option (List Move)) → (old new : Option (List ℕ)) → Result ℕ AskFault
    → Type 0
IsRound asked versions next before after old new (Ok same) =
    (answers : List Answer) × GoesOn asked (open_of versions) before after old new answers
    × (open_of next ≡ left_of (open_of versions) answers)
    × (same ≡ same_in (open_of versions) answers)
IsRound asked versions next before after old new (Err fault) =
    StopsIn asked (open_of versions) before after old new fault

-- ---- all rounds

abbrev pub GoesOnRounds : Target → List KnownBag → (before after : Option (List Move))
    → (old new : Option (List ℕ)) → List (List Answer) → Type 0
GoesOnRounds asked versions before after old new rounds =
    (moves : List Move) × Grows before after moves × AreRounds asked versions rounds moves
    × AreWhole versions rounds × Appends old new (round_lines versions rounds)

abbrev pub StopsInRounds : (seconds : ℕ) → Target → List KnownBag
    → (since until : Option (List Beat)) → (before after : Option (List Move))
    → (old new : Option (List ℕ)) → AskFault → Type 0
StopsInRounds seconds asked versions since until before after old new fault =
    (rounds : List (List Answer)) × (moves : List Move) × (others : List Move)
    × Grows before after (moves ++ others) × AreRounds asked versions rounds moves
    × OnlyAsked (last_round asked rounds) fault others
    × AppendsPart old new (round_lines versions rounds)
    × ArePaced seconds versions rounds since until (λ last. last ≡ [])

-- rounds until no version is left, or time is over
abbrev pub AreAsked : (seconds : ℕ) → Target → (versions next : List KnownBag)
    → (since until : Option (List Beat)) → (before after : Option (List Move))
    → (old new : Option (List ℕ)) → Result ℕ AskFault → Type 0
AreAsked seconds asked versions next since until before after old new (Ok same) =
    (rounds : List (List Answer)) × (1 ≤ length rounds)
    × GoesOnRounds asked (open_of versions) before after old new rounds
    × (open_of next ≡ left_after (open_of versions) rounds) × (length next ≡ length versions)
    × (same ≡ same_after (open_of versions) rounds)
    × AreAllRounds seconds (open_of versions) rounds since until
AreAsked seconds asked versions next since until before after old new (Err fault) =
    StopsInRounds seconds asked (open_of versions) since until before after old new fault

-- Whether there is another round after so many, by what they leave, and what is waited for it.
-- There is a first one.
abbrev pub IsNext : (seconds : ℕ) → (left : List KnownBag) → (rounds : ℕ)
    → (old new : Option (List Beat)) → Bool → Type 0
IsNext seconds left rounds old new true =
    ((rounds ≡ 0) × Beats old new [])
    ⊎ ((0 < rounds) × (left ≢ []) × ((passed : ℕ)
    × Beats old new (Read (Some passed) ∷ Paused (pause_after (rounds - 1)) ∷ [])
    × (is_over seconds (Some passed) ≡ false)))
IsNext seconds left rounds old new false =
    (0 < rounds) × ((last : List Beat) × Beats old new last
    × (((left ≡ []) × (last ≡ [])) ⊎ ((left ≢ []) × ReadsOver seconds last)))

-- and what is written then
abbrev pub AreReported : (seconds : ℕ) → Target → List KnownBag
    → (since until : Option (List Beat)) → (before after : Option (List Move))
    → (old new : Option (List ℕ)) → Result ℕ AskFault → Type 0
AreReported seconds asked versions since until before after old new (Ok status) =
    (rounds : List (List Answer)) × (moves : List Move) × Grows before after moves
    × AreRounds asked (open_of versions) rounds moves
    × ((1 ≤ length rounds) × AreWhole (open_of versions) rounds
    × AreAllRounds seconds (open_of versions) rounds since until)
    × (status ≡ (report versions rounds).status)
    × Appends old new (report versions rounds).text
AreReported seconds asked versions since until before after old new (Err fault) =
    (rounds : List (List Answer)) × (moves : List Move) × (others : List Move)
    × Grows before after (moves ++ others) × AreRounds asked (open_of versions) rounds moves
    × OnlyAsked (last_round asked rounds) fault others
    × AppendsPart old new (report versions rounds).text
    × AreSoManyRounds seconds (open_of versions) rounds since until
