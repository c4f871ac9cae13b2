-- A client that asks again and again, until a bag is known.
use Rattle.std.specs.Prelude.{◌≡◌, ◌≢◌, ◌⊎◌, ⊤, ℕ, Bool, true, false, if◌then◌else◌, List, []}
use Rattle.std.specs.Prelude.{◌∷◌, ◌++◌}
use Rattle.std.specs.Prelude.{Option, Some, None, Result, IfSome}
use Rattle.std.specs.Option.{option_or}
use Rattle.dgram.specs.declared.answers.DepositAnswer.TheVariants as deposit
use Rattle.dgram.specs.declared.answers.QueryAnswer.TheVariants as query
use Rattle.outcomes.specs.declared.fault.ProgramFault.{ProgramFault}
use Rattle.outcomes.specs.Outcomes.{Outcome, no_memory}
use Rattle.udp_site.specs.Traffic.{Move, Grows}
use Rattle.site_client.specs.declared.reply.ClientReply.{ClientReply}
use Rattle.site_client.specs.declared.reply.ClientReply.TheVariants.{ToDeposit, ToQuery}
use Rattle.site_client.specs.declared.reply.Wanted.{Wanted}
use Rattle.site_client.specs.declared.reply.Wanted.TheVariants as wanted
use Rattle.site_client.specs.Replies.{Question, datagram_to, first_reply}
use Rattle.site_client.specs.Exchanges.{Asks, HasAsked}
use Rattle.site_client.specs.Recoveries.{recovery_of, next_question}
use Rattle.site_client.specs.Answers.{no_answer, reply_outcome, IsWritten}

-- the site knows the bag
abbrev pub is_known : ClientReply → Bool
is_known (ToQuery (query.Known bag)) = true
is_known reply = false

-- nothing else is to be waited for: the bag is known, or the deposit is refused
abbrev pub is_last : ClientReply → Bool
is_last (ToDeposit (deposit.Registered bag)) = false
is_last (ToDeposit answer) = true
is_last (ToQuery answer) = is_known (ToQuery answer)

-- What is said next. The folder is deposited once more where the site replies that it knows nothing
-- of the slot; else the bag is asked for.
abbrev pub next_path : Option (List ℕ) → Option ClientReply → Option (List ℕ)
next_path path (Some (ToQuery query.Nothing)) = path
next_path path reply = None

-- what is said after these replies
abbrev pub path_after : Option (List ℕ) → (next : Option (List ℕ)) → List (Option ClientReply)
    → Option (List ℕ)
path_after path next [] = next
path_after path next (reply ∷ replies) = path_after path (next_path path reply) replies

-- the replies that count: without a path those to queries alone
abbrev pub wanted_until : Option (List ℕ) → Wanted
wanted_until None = wanted.ToQuery
wanted_until (Some path) = wanted.Any

-- it is the last reply
abbrev pub ends : Option ClientReply → Bool
ends None = false
ends (Some reply) = is_last reply

-- what is asked after these replies, of whom
abbrev pub question_after : Question → List (Option ClientReply) → Question
question_after q [] = q
question_after q (reply ∷ replies) = question_after (next_question q) replies

-- none of these is
abbrev pub NoneEnds : List (Option ClientReply) → Type 0
NoneEnds [] = ⊤
NoneEnds (reply ∷ replies) = (ends reply ≡ false) × NoneEnds replies

-- One after another the site is asked, and these are its first replies, if it replied. With a path
-- the folder is deposited first. After the last reply there is no other question. After enough of
-- them each question brings a Recover.
abbrev pub AreReplies : Question → (path next : Option (List ℕ)) → List (Option ClientReply)
    → List Move → Type 0
AreReplies q path next [] moves = moves ≡ []
AreReplies q path next (reply ∷ replies) moves =
    (first : List Move) × (rest : List Move) × (moves ≡ first ++ rest)
    × HasAsked (q.target, datagram_to q next) (recovery_of q) first
    × (reply ≡ first_reply q (wanted_until path) first)
    × IfSome reply (λ r. is_last r ≡ true → replies ≡ [])
    × AreReplies (next_question q) path (next_path path reply) replies rest

-- the last reply that there was
abbrev pub last_of : List (Option ClientReply) → Option ClientReply
last_of [] = None
last_of (reply ∷ replies) = option_or (last_of replies) reply

-- what it says, with the status 0 only where the bag is known
abbrev pub until_outcome : Question → Option ClientReply → Outcome
until_outcome q None = no_answer
until_outcome q (Some reply) = record {
  status = if is_known reply then 0 else 1;
  text = (reply_outcome q reply).text;
}

-- the site is asked once more
abbrev pub AsksNext : Question → (path : Option (List ℕ)) → List Move → Type 0
AsksNext q path moves = Asks (q.target, datagram_to q path) (recovery_of q) moves

-- Memory runs out where the last reply is told, or while the site is asked once more.
abbrev pub IsBrokenOff : Question → (path : Option (List ℕ)) → (before after : Option (List Move))
    → Type 0
IsBrokenOff q path before after =
    (replies : List (Option ClientReply)) × (moves : List Move) × (others : List Move)
    × Grows before after (moves ++ others) × AreReplies q path path replies moves
    × ((others ≡ []) ⊎ (NoneEnds replies
    × AsksNext (question_after q replies) (path_after path path replies) others))

-- The site is asked, once at least, until the bag is known, or time is over, and what is written is
-- what its last reply says; or memory runs out, and the line `memory` is.
abbrev pub IsSentUntilKnown : Question → (path : Option (List ℕ))
    → (before after : Option (List Move)) → (old new : Option (List ℕ)) → Result ℕ ProgramFault
    → Type 0
IsSentUntilKnown q path before after old new result =
    ((replies : List (Option ClientReply)) × (moves : List Move) × Grows before after moves
    × AreReplies q path path replies moves × (replies ≢ [])
    × IsWritten old new result (until_outcome q (last_of replies)))
    ⊎ (IsBrokenOff q path before after × IsWritten old new result no_memory)
