-- What is written of the rounds in which a site is asked.
use Rattle.std.specs.Prelude.{◌⊎◌, ℕ, ◌==◌, ◌≤◌, if◌then◌else◌, List, ◌++◌, length, take}
use Rattle.std.specs.Prelude.{Option, Result, OnOk, OnErr}
use Rattle.std.specs.List.{flat_map}
use Rattle.known_bags.specs.declared.known_bag.KnownBag.{KnownBag}
use Rattle.outcomes.specs.declared.fault.ProgramFault.{ProgramFault}
use Rattle.outcomes.specs.Outcomes.{Outcome, no_memory}
use Rattle.udp_site.specs.Traffic.{Move, Grows}
use Rattle.site_client.specs.Answers.{IsWritten}
use Rattle.catch_up.specs.declared.rounds.Target.{Target}
use Rattle.catch_up.specs.Lines.{open_line, count_line}
use Rattle.catch_up.specs.Rounds.{Answer, open_of, AreRounds, AreWhole, round_lines, same_after}
use Rattle.catch_up.specs.Rounds.{left_after, last_round, IsOneMore}
use Rattle.catch_up.specs.Times.{Beat, AreAllRounds, AreSoManyRounds}

-- a line for each version that is left
unfoldable pub open_lines : List KnownBag → List ℕ
open_lines versions = flat_map (λ v. open_line v.slot) versions

-- 0 where all are the same
abbrev pub status_of : (same count : ℕ) → ℕ
status_of same count = if same == count then 0 else 1

-- a line for each answer, one for each version that is left, and how many of how many the site
-- knows as the sources do
abbrev pub report : List KnownBag → List (List Answer) → Outcome
report versions rounds =
    let asked = open_of versions in
    let same = same_after asked rounds in
    record {
      status = status_of same (length versions);
      text =
          round_lines asked rounds
          ++ (open_lines (left_after asked rounds) ++ count_line same (length versions));
    }

-- a prefix of its text, and then the line `memory`
abbrev pub cut_short : ℕ → Outcome → Outcome
cut_short n outcome = record {
  status = no_memory.status;
  text = take n outcome.text ++ no_memory.text;
}

-- The site is asked in one round or more, each of them whole, until nothing is left or the time is
-- over, and the report of its answers is written; or the output fails, after a prefix of the report
-- of the answers until then.
abbrev pub IsReported : (seconds : ℕ) → Target → List KnownBag
    → (since until : Option (List Beat)) → (before after : Option (List Move))
    → (old new : Option (List ℕ)) → Result ℕ ProgramFault → Type 0
IsReported seconds asked versions since until before after old new result =
    (rounds : List (List Answer)) × (moves : List Move) × Grows before after moves
    × AreRounds asked (open_of versions) rounds moves
    × OnOk result ((1 ≤ length rounds) × AreWhole (open_of versions) rounds
    × AreAllRounds seconds (open_of versions) rounds since until)
    × OnErr result (AreSoManyRounds seconds (open_of versions) rounds since until)
    × IsWritten old new result (report versions rounds)

-- Memory runs out, while the site is asked for one more version or the next line is made: a prefix
-- of the report of the answers until then is written, and the line `memory`.
abbrev pub IsCutShort : (seconds : ℕ) → Target → List KnownBag
    → (since until : Option (List Beat)) → (before after : Option (List Move))
    → (old new : Option (List ℕ)) → Result ℕ ProgramFault → Type 0
IsCutShort seconds asked versions since until before after old new result =
    (rounds : List (List Answer)) × (moves : List Move) × (others : List Move)
    × Grows before after (moves ++ others)
    × AreRounds asked (open_of versions) rounds moves × IsOneMore (last_round asked rounds) others
    × AreSoManyRounds seconds (open_of versions) rounds since until
    × ((n : ℕ) × IsWritten old new result (cut_short n (report versions rounds)))

abbrev pub IsCaughtUp : (seconds : ℕ) → Target → List KnownBag
    → (since until : Option (List Beat)) → (before after : Option (List Move))
    → (old new : Option (List ℕ)) → Result ℕ ProgramFault → Type 0
IsCaughtUp seconds asked versions since until before after old new result =
    IsReported seconds asked versions since until before after old new result
    ⊎ IsCutShort seconds asked versions since until before after old new result
