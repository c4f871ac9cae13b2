-- The outcomes that are written.
use Rattle.std.specs.Prelude.{◌≡◌, ℕ, List, String, string_bytes, Option, Some, None, Result, Ok}
use Rattle.std.specs.Prelude.{Err, IfOk}
use Rattle.std.specs.declared.alloc.AllocError.{AllocError}
use Rattle.std.specs.Global.{Global}
use Rattle.outcomes.specs.declared.program_output.ProgramOutput.{ProgramOutput}
use Rattle.outcomes.specs.Outcomes.{Outcome, no_memory}
use Rattle.udp_site.specs.Traffic.{Move, Grows}
use Rattle.site_client.specs.Replies.{Question, datagram_to, first_reply}
use Rattle.site_client.specs.Exchanges.{Asks}
use Rattle.site_client.specs.Recoveries.{recovery_of}
use Rattle.site_client.specs.Answers.{outcome_of, no_answer, wanted_for}

abbrev pub outcome_in : ProgramOutput → Outcome
outcome_in answer = record { status = answer.status; text = string_bytes answer.text }

abbrev pub outcome_if : Option ProgramOutput → Outcome
outcome_if None = no_answer
outcome_if (Some answer) = outcome_in answer

-- a line, with the status 1, or where there was no memory for it
abbrev pub outcome_of_line : Result (String Global) AllocError → Outcome
outcome_of_line (Ok line) = record { status = 1; text = string_bytes line }
outcome_of_line (Err fault) = no_memory

-- of an answer, of none, or where there was no memory for it
abbrev pub outcome_to : Result (Option ProgramOutput) AllocError → Outcome
outcome_to (Ok answer) = outcome_if answer
outcome_to (Err fault) = no_memory

-- a site is sent a deposit or a query, and this is what the first reply to it says
abbrev pub IsAnswered : Question → (path : Option (List ℕ)) → (before after : Option (List Move))
    → Result (Option ProgramOutput) AllocError → Type 0
IsAnswered q path before after result =
    (moves : List Move) × Grows before after moves
    × Asks (q.target, datagram_to q path) (recovery_of q) moves
    × IfOk result (λ answer. outcome_if answer
    ≡ outcome_of q (first_reply q (wanted_for path) moves))
