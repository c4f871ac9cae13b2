-- What a client's port takes in.
use Rattle.std.specs.Prelude.{◌≡◌, ⊤, ℕ, Bool, List, [], ◌∷◌, Option, Some, None, Result}
use Rattle.std.specs.Prelude.{Ok, Err, IfOk}
use Rattle.std.specs.declared.alloc.AllocError.{AllocError}
use Rattle.udp_site.specs.Traffic.{Taken, Nothing, From, Post, Move, Took, Failed, Handed, Grows}
use Rattle.dgram.specs.declared.answers.QueryAnswer.{QueryAnswer}
use Rattle.site_client.specs.declared.reply.ClientReply.{ClientReply}
use Rattle.site_client.specs.declared.reply.ClientReply.TheVariants.{ToDeposit, ToQuery}
use Rattle.site_client.specs.declared.reply.Wanted.{Wanted}
use Rattle.site_client.specs.Replies.{Question, first_reply}
use Rattle.site_client.specs.Exchanges.{OnlyTakes, Asks, handed_if}
use Rattle.site_client.specs.Recoveries.{recovery_of}

-- no datagram is taken in or handed out
abbrev pub BringsNone : List Move → Type 0
BringsNone [] = ⊤
BringsNone (Took Nothing ∷ moves) = BringsNone moves
BringsNone (Took (From address bytes) ∷ moves) = ⊥
BringsNone (Failed ∷ moves) = BringsNone moves
BringsNone (Handed post ∷ moves) = ⊥

-- the datagram that was taken in, if one was: its address, and its bytes
abbrev pub datagram_taken : Taken → Option (ℕ × List ℕ)
datagram_taken Nothing = None
datagram_taken (From address bytes) = Some (address, bytes)

-- a datagram is taken in, of these bytes and from this address, or none is
abbrev pub TakesOne : (before after : Option (List Move)) → Option (ℕ × List ℕ) → Type 0
TakesOne before after (Some datagram) =
    Grows before after (Took (From datagram.0 datagram.1) ∷ [])
TakesOne before after None = (moves : List Move) × Grows before after moves × BringsNone moves

-- a datagram is handed out, unless there is no memory for it
abbrev pub IsTaken : (before after : Option (List Move)) → Post → Result Bool AllocError → Type 0
IsTaken before after post (Ok took) = Grows before after (Handed post ∷ [])
IsTaken before after post (Err fault) = Grows before after []

-- a Recover is handed out, if it is time for one, and there is memory for it
abbrev pub IsAskedToRecover : Question → (before after : Option (List Move))
    → Result Bool AllocError → Type 0
IsAskedToRecover q before after (Ok took) = Grows before after (handed_if (recovery_of q))
IsAskedToRecover q before after (Err fault) = Grows before after []

-- nothing is taken in
abbrev pub OnlyHands : List Move → Type 0
OnlyHands [] = ⊤
OnlyHands (Took taken ∷ moves) = ⊥
OnlyHands (Failed ∷ moves) = ⊥
OnlyHands (Handed post ∷ moves) = OnlyHands moves

-- A question is handed out, and after it a Recover, if it is time for one; or memory runs out.
-- Nothing is taken in.
abbrev pub IsHandedOut : Question → List ℕ → (before after : Option (List Move))
    → Result Bool AllocError → Type 0
IsHandedOut q bytes before after (Ok took) =
    Grows before after (Handed (q.target, bytes) ∷ handed_if (recovery_of q))
IsHandedOut q bytes before after (Err fault) =
    (moves : List Move) × Grows before after moves
    × Asks (q.target, bytes) (recovery_of q) moves × OnlyHands moves

-- datagrams are taken in, and the first wanted reply is what is heard
abbrev pub Hears : Question → Wanted → (before after : Option (List Move))
    → Result (Option ClientReply) AllocError → Type 0
Hears q kind before after result =
    (moves : List Move) × Grows before after moves × OnlyTakes moves
    × IfOk result (λ reply. reply ≡ first_reply q kind moves)

-- the answer to a query, if the reply is one
abbrev pub query_in : Option ClientReply → Option QueryAnswer
query_in None = None
query_in (Some (ToDeposit answer)) = None
query_in (Some (ToQuery answer)) = Some answer
