-- What a client is told: an exit status and a line.
use Rattle.std.specs.Prelude.{◌≡◌, ◌⊎◌, ℕ, ◌+◌, true, false, List, [], ◌∷◌, ◌++◌, codes}
use Rattle.std.specs.Prelude.{Option, Some, None, Result, Ok, Err}
use Rattle.std.specs.Fmt.{decimal}
use Rattle.fed_types.specs.Slots.{SlotName}
use Rattle.dgram.specs.declared.answers.DepositAnswer.{DepositAnswer}
use Rattle.dgram.specs.declared.answers.DepositAnswer.TheVariants as deposit
use Rattle.dgram.specs.declared.answers.QueryAnswer.{QueryAnswer}
use Rattle.dgram.specs.declared.answers.QueryAnswer.TheVariants as query
use Rattle.site.specs.declared.answer.Reply.TheVariants as replies
use Rattle.lines.specs.declared.notice.Notice.{Notice}
use Rattle.lines.specs.declared.notice.Notice.TheVariants.{Registered, Replied}
use Rattle.lines.specs.Named.{line_of}
use Rattle.lines.specs.Texts.{line_text}
use Rattle.outcomes.specs.declared.fault.ProgramFault.{ProgramFault}
use Rattle.outcomes.specs.declared.fault.ProgramFault.TheVariants.{Output}
use Rattle.outcomes.specs.Outcomes.{Outcome, no_memory, Writes, WritesPrefix}
use Rattle.udp_site.specs.Traffic.{Move, Grows}
use Rattle.site_client.specs.declared.reply.ClientReply.{ClientReply}
use Rattle.site_client.specs.declared.reply.ClientReply.TheVariants.{ToDeposit, ToQuery}
use Rattle.site_client.specs.declared.reply.Wanted.{Wanted}
use Rattle.site_client.specs.declared.reply.Wanted.TheVariants as wanted
use Rattle.site_client.specs.Replies.{Question, datagram_to, first_reply}
use Rattle.site_client.specs.Exchanges.{Asks}
use Rattle.site_client.specs.Recoveries.{recovery_of}

-- ---- lines

-- no member has the site's number
abbrev pub not_a_member : Outcome
not_a_member = record { status = 1; text = codes "not a member" ++ 10 ∷ [] }

-- the line of what a site says, with the identities of bags
abbrev pub said : Notice → Outcome
said notice = record {
  status = 0;
  text = line_text (record { sent = false; identities = true }) (line_of [] notice);
}

-- the site refuses, for the reason of this code
abbrev pub refused : (site code : ℕ) → Outcome
refused site code = record {
  status = 1;
  text = codes "refused " ++ decimal site ++ 32 ∷ decimal code ++ 10 ∷ [];
}

abbrev pub no_answer : Outcome
no_answer = record { status = 1; text = codes "no answer" ++ 10 ∷ [] }

-- ---- what a reply says

-- The bag is registered, or the deposit is refused; the codes of a folder's and a bag's faults
-- follow after 20 and 40.
abbrev pub deposit_outcome : (site : ℕ) → SlotName → DepositAnswer → Outcome
deposit_outcome site slot (deposit.Registered bag) = said (Registered site slot bag)
deposit_outcome site slot (deposit.OtherDeposit bag) = refused site 11
deposit_outcome site slot (deposit.OtherKnown bag) = refused site 12
deposit_outcome site slot deposit.Device = refused site 13
deposit_outcome site slot deposit.Memory = refused site 14
deposit_outcome site slot deposit.NeedsOpen = refused site 15
deposit_outcome site slot (deposit.Tree fault) = refused site (20 + fault)
deposit_outcome site slot (deposit.Bag fault) = refused site (40 + fault)

-- what the site knows of the slot; it is refused only where the site needs opening
abbrev pub query_outcome : (site : ℕ) → SlotName → QueryAnswer → Outcome
query_outcome site slot (query.Known bag) = said (Replied site slot (replies.Known bag))
query_outcome site slot (query.Pending bag) = said (Replied site slot (replies.Pending bag))
query_outcome site slot query.Nothing = said (Replied site slot replies.Nothing)
query_outcome site slot query.NeedsOpen = refused site 15

abbrev pub reply_outcome : Question → ClientReply → Outcome
reply_outcome q (ToDeposit answer) = deposit_outcome q.to q.slot answer
reply_outcome q (ToQuery answer) = query_outcome q.to q.slot answer

-- what a client says of a reply, or of none
abbrev pub outcome_of : Question → Option ClientReply → Outcome
outcome_of q None = no_answer
outcome_of q (Some reply) = reply_outcome q reply

-- ---- what the client writes

-- It is written, and the status is its own; or the output fails, after a prefix of it.
abbrev pub IsWritten : (old new : Option (List ℕ)) → Result ℕ ProgramFault → Outcome → Type 0
IsWritten old new (Ok status) outcome = Writes old new status outcome
IsWritten old new (Err fault) outcome = (fault ≡ Output) × WritesPrefix old new outcome

-- the same, or of the line `memory`
abbrev pub IsTold : (old new : Option (List ℕ)) → Result ℕ ProgramFault → Outcome → Type 0
IsTold old new result outcome =
    IsWritten old new result outcome ⊎ IsWritten old new result no_memory

-- the replies that a client wants: to its deposit, or to its query
abbrev pub wanted_for : Option (List ℕ) → Wanted
wanted_for (Some path) = wanted.ToDeposit
wanted_for None = wanted.ToQuery

-- A site is sent a deposit or a query, and what is written is what the first reply to it that the
-- port takes in says. No other datagram is sent, unless enough questions came before.
abbrev pub IsSent : Question → (path : Option (List ℕ)) → (before after : Option (List Move))
    → (old new : Option (List ℕ)) → Result ℕ ProgramFault → Type 0
IsSent q path before after old new result =
    (moves : List Move) × Grows before after moves
    × Asks (q.target, datagram_to q path) (recovery_of q) moves
    × IsTold old new result (outcome_of q (first_reply q (wanted_for path) moves))
