-- What a run of the program answers to the bytes of a schedule.
use Rattle.std.specs.Prelude.{◌⊎◌, ℕ, List, [], ◌∷◌, ◌++◌, Result, Ok, Err, codes}
use Rattle.std.specs.Fmt.{decimal}
use Rattle.schedule.specs.Plans.{Plan, plan_of}
use Rattle.world_law.specs.Worlds.{run_of}
use Rattle.lines.specs.declared.print_line.Options.{Options}
use Rattle.lines.specs.Texts.{text_of}
use Rattle.outcomes.specs.Outcomes.{Outcome, no_memory}

-- the text of the reference run, or the one line of the fault
abbrev pub outcome_for : Options → Result Plan ℕ → Outcome
outcome_for options (Ok plan) = record {
  status = 0;
  text = text_of options (run_of plan).lines;
}
outcome_for options (Err line) = record {
  status = 1;
  text = codes "schedule line " ++ decimal line ++ 10 ∷ [];
}

-- the outcome for the bytes of a schedule
unfoldable pub outcome_of : Options → List ℕ → Outcome
outcome_of options bytes = outcome_for options (plan_of bytes)

-- how a run may end, and what is then written: the outcome for these bytes, or that memory ran out
abbrev pub AnswersTo : Options → List ℕ → (Outcome → Type 0) → Type 0
AnswersTo options bytes P = P (outcome_of options bytes) ⊎ P no_memory
