-- The questions of a client that asks again and again.
use Rattle.std.specs.Prelude.{◌≡◌, ◌≢◌, ℕ, List, [], Option, Some, None, Result}
use Rattle.std.specs.Prelude.{Ok, Err}
use Rattle.std.specs.Option.{option_map}
use Rattle.std.specs.declared.alloc.AllocError.{AllocError}
use Rattle.outcomes.specs.declared.program_output.ProgramOutput.{ProgramOutput}
use Rattle.udp_site.specs.Traffic.{Move, Grows}
use Rattle.site_client.specs.declared.reply.ClientReply.{ClientReply}
use Rattle.site_client.specs.declared.until_known.Questions.{Questions}
use Rattle.site_client.specs.Replies.{Question, datagram_to}
use Rattle.site_client.specs.Repeats.{AreReplies, last_of, until_outcome}
use Rattle.site_client.specs.Repeats.{IsBrokenOff}
use Rattle.site_client.specs.inner.Written.{outcome_if}

-- the datagrams of a deposit, if there is one, and of a query
abbrev pub AreQuestions : Question → Option (List ℕ) → Questions → Type 0
AreQuestions q path questions =
    (questions.query.items ≡ datagram_to q None)
    × (option_map (λ bytes. bytes.items) questions.deposit
    ≡ option_map (λ p. datagram_to q (Some p)) path)

-- the site was asked, and this was the last reply
abbrev pub IsLastReply : Question → (path : Option (List ℕ)) → (before after : Option (List Move))
    → Result (Option ClientReply) AllocError → Type 0
IsLastReply q path before after (Ok last) =
    (replies : List (Option ClientReply)) × (moves : List Move) × Grows before after moves
    × AreReplies q path path replies moves × (replies ≢ []) × (last ≡ last_of replies)
IsLastReply q path before after (Err fault) = IsBrokenOff q path before after

-- and this is what it says
abbrev pub IsLastAnswer : Question → (path : Option (List ℕ))
    → (before after : Option (List Move)) → Result (Option ProgramOutput) AllocError → Type 0
IsLastAnswer q path before after (Ok answer) =
    (replies : List (Option ClientReply)) × (moves : List Move) × Grows before after moves
    × AreReplies q path path replies moves × (replies ≢ [])
    × (outcome_if answer ≡ until_outcome q (last_of replies))
IsLastAnswer q path before after (Err fault) = IsBrokenOff q path before after
