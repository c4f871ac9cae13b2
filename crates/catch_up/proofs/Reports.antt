-- What is written after the rounds.
use Rattle.std.proofs.Common.{◌≡◌, ℕ, ◌+◌, List, [], ◌∷◌, ◌++◌, length, take, drop, get_or}
use Rattle.std.proofs.Common.{Option, Result, Ok, Err, refl, append-nil}
use Rattle.std.proofs.Common.{inr, ◌<◌, true, false}
use Rattle.std.proofs.KnownBytes.{Appends-trans}
use Rattle.std.proofs.lemmas.List.{take_more, take-append-drop}
use Rattle.std.proofs.lemmas.Grind.{flat_map-append}
use Rattle.std.specs.Prelude.{IfOk, OnOk, OnErr}
use Rattle.std.specs.Io.KnownBytes.{Appends}
use Rattle.known_bags.specs.declared.known_bag.KnownBag.{KnownBag}
use Rattle.outcomes.specs.declared.fault.ProgramFault.{ProgramFault}
use Rattle.outcomes.specs.declared.fault.ProgramFault.TheVariants as faults
use Rattle.outcomes.specs.Outcomes.{Outcome, no_memory}
use Rattle.udp_site.specs.Traffic.{Move}
use Rattle.site_client.specs.Answers.{IsWritten}
use Rattle.catch_up.specs.declared.said_answers.AskFault.{AskFault}
use Rattle.catch_up.specs.declared.said_answers.AskFault.TheVariants.{Memory}
use Rattle.catch_up.specs.declared.rounds.Target.{Target}
use Rattle.catch_up.specs.Lines.{open_line, count_line}
use Rattle.catch_up.specs.Rounds.{open_of, last_round}
use Rattle.catch_up.specs.Reports.{open_lines, status_of, report, cut_short, IsCaughtUp}
use Rattle.catch_up.specs.Times.{Beat}
use Rattle.catch_up.proofs.Paces.{not_to_the_end, to_the_end}
use Rattle.catch_up.specs.inner.Progress.{AppendsPart, StopsInRounds, AreAsked, AreReported}
use Rattle.catch_up.proofs.Parts.{part_of_both, then_part}
use Rattle.catch_up.proofs.Versions.{open_both}
use Rattle.catch_up.proofs.OneVersion.{only_answers}

-- ---- the versions that are left

open_lines_both : (xs ys : List KnownBag)
    → open_lines (open_of (xs ++ ys)) ≡ open_lines (open_of xs) ++ open_lines (open_of ys)
unfolding open_lines
open_lines_both xs ys =
    rw (open_both xs ys) (flat_map-append (λ v. open_line v.slot) (open_of xs) (open_of ys))

pub no_open_lines : open_lines (open_of []) ≡ []
unfolding open_lines open_of
no_open_lines = refl

-- a known version has no line
pub no_line : (v : KnownBag) → v.is_found ≡ true → open_lines (open_of (v ∷ [])) ≡ []
unfolding open_lines open_of
no_line v is = rw is

pub its_line : (v : KnownBag) → v.is_found ≡ false
    → open_lines (open_of (v ∷ [])) ≡ open_line v.slot
unfolding open_lines open_of
its_line v is = rw (is, append-nil)

module _ (vs : List KnownBag) (place : ℕ) (d : KnownBag) (within : place < length vs) where
  lines_at : open_lines (open_of (take (place + 1) vs))
      ≡ open_lines (open_of (take place vs)) ++ open_lines (open_of (get_or vs place d ∷ []))
  lines_at = rw (take_more vs place d within) (open_lines_both (take place vs) _)

  pub one_more_line : (a b c : Option (List ℕ))
      → Appends a b (open_lines (open_of (take place vs)))
      → Appends b c (open_lines (open_of (get_or vs place d ∷ [])))
      → Appends a c (open_lines (open_of (take (place + 1) vs)))
  one_more_line a b c p q = rw lines_at (Appends-trans a b c _ _ p q)

  pub line_cut : (a b c : Option (List ℕ)) → Appends a b (open_lines (open_of (take place vs)))
      → AppendsPart b c (open_lines (open_of (get_or vs place d ∷ [])))
      → AppendsPart a c (open_lines (open_of vs))
  line_cut a b c p q =
      let first = take (place + 1) vs in
      let rest = drop (place + 1) vs in
      rw (← take-append-drop (place + 1) vs, open_lines_both first rest)
      (part_of_both a c (open_lines (open_of first)) _ (rw lines_at (then_part a b c _ _ p q)))

-- ---- the report

module _ (s : ℕ) (asked : Target) (old : List KnownBag) (t u : Option (List Beat))
    (a b : Option (List Move)) (o n : Option (List ℕ)) where
  pub stops_in_rounds : (fault : AskFault) → StopsInRounds s asked (open_of old) t u a b o n fault
      → AreReported s asked old t u a b o n (Err fault)
  stops_in_rounds fault (rounds, moves, others, grows, are, only, part, paced) = (
    rounds,
    moves,
    others,
    grows,
    are,
    only,
    part_of_both o n _ _ part,
    not_to_the_end s (open_of old) rounds t u paced,
  )

  module _ (now : List KnownBag) (same : ℕ) where
    -- after all rounds
    stops_after : (p : Option (List ℕ)) (fault : AskFault)
        → AreAsked s asked old now t u a b o n (Ok same)
        → AppendsPart n p (open_lines (open_of now) ++ count_line same (length now))
        → AreReported s asked old t u a b o p (Err fault)
    stops_after p fault
        (rounds, some, (moves, grows, are, whole, lines), kept, count, is, paced) part = (
          rounds,
          moves,
          [],
          rw append-nil grows,
          are,
          only_answers (last_round asked rounds) fault,
          then_part o n p _ _ lines (rw (kept, is, count) at part),
          to_the_end s (open_of old) rounds t u paced,
        )

    pub stops_in_open : (p : Option (List ℕ)) (fault : AskFault)
        → AreAsked s asked old now t u a b o n (Ok same)
        → AppendsPart n p (open_lines (open_of now))
        → AreReported s asked old t u a b o p (Err fault)
    stops_in_open p fault done part = stops_after p fault done (part_of_both n p _ _ part)

    pub all_written : (p q : Option (List ℕ)) (result : Result ℕ AskFault)
        → AreAsked s asked old now t u a b o n (Ok same)
        → Appends n p (open_lines (open_of now))
        → IfOk result (λ status. status ≡ status_of same (length now))
        → OnOk result (Appends p q (count_line same (length now)))
        → OnErr result (AppendsPart p q (count_line same (length now)))
        → AreReported s asked old t u a b o q result
    all_written p q (Err fault) done lines status ok err =
        stops_after q fault done (then_part n p q _ _ lines err)
    all_written p q (Ok given)
        (rounds, some, (moves, grows, are, whole, before), kept, count, is, paced) lines status ok
        err = (
          rounds,
          moves,
          grows,
          are,
          (some, whole, paced),
          rw (is, count) at status,
          Appends-trans o n q _ _ before
              (Appends-trans n p q _ _ (rw kept at lines) (rw (is, count) at ok)),
        )

-- ---- what the command ends with

-- the line `memory` after a prefix of a report
pub then_memory : (outcome : Outcome) (o n p : Option (List ℕ)) (count : ℕ)
    (result : Result ℕ ProgramFault) → Appends o n (take count outcome.text)
    → IfOk result (λ given. (given ≡ 1) × Appends n p no_memory.text)
    → OnErr result ((result ≡ Err faults.Output) × AppendsPart n p no_memory.text)
    → IsWritten o p result (cut_short count outcome)
then_memory outcome o n p count (Ok status) part ok err =
    (ok.0, Appends-trans o n p _ no_memory.text part ok.1)
then_memory outcome o n p count (Err fault) part ok err =
    (cc (err.0), then_part o n p _ no_memory.text part err.1)

module _ (s : ℕ) (asked : Target) (vs : List KnownBag) (t u : Option (List Beat))
    (a b : Option (List Move)) (o n : Option (List ℕ)) where
  pub memory_ran_out : (p : Option (List ℕ)) (result : Result ℕ ProgramFault)
      → AreReported s asked vs t u a b o n (Err Memory)
      → IfOk result (λ given. (given ≡ 1) × Appends n p no_memory.text)
      → OnErr result ((result ≡ Err faults.Output) × AppendsPart n p no_memory.text)
      → IsCaughtUp s asked vs t u a b o p result
  memory_ran_out p result (rounds, moves, others, grows, are, only, (count, part), paced) ok err =
      let written = then_memory (report vs rounds) o n p count result part ok err in
      inr (rounds, moves, others, grows, are, only, paced, (count, written))
