-- What a client's port does, and which reply the client then has.
use Rattle.std.specs.Prelude.{◌≡◌, ⊤, ℕ, List, [], ◌∷◌, ◌++◌, Option, Some, None, Result, Ok, Err}
use Rattle.std.specs.Prelude.{IfOk}
use Rattle.std.specs.Option.{option_map}
use Rattle.std.specs.declared.alloc.AllocError.{AllocError}
use Rattle.dgram.specs.declared.answers.QueryAnswer.{QueryAnswer}
use Rattle.udp_site.specs.Traffic.{Post, Move, Took, Failed, Handed, Grows}
use Rattle.site_client.specs.declared.reply.ClientReply.{ClientReply}
use Rattle.site_client.specs.declared.reply.ClientReply.TheVariants.{ToQuery}
use Rattle.site_client.specs.declared.reply.Wanted.{Wanted}
use Rattle.site_client.specs.declared.reply.Wanted.TheVariants as wanted
use Rattle.site_client.specs.Replies.{Question, datagram_to, first_reply}
use Rattle.site_client.specs.Recoveries.{recovery_of}

-- nothing is handed out
abbrev pub OnlyTakes : List Move → Type 0
OnlyTakes [] = ⊤
OnlyTakes (Took taken ∷ moves) = OnlyTakes moves
OnlyTakes (Failed ∷ moves) = OnlyTakes moves
OnlyTakes (Handed post ∷ moves) = ⊥

-- this datagram is handed out, if there is one, and no other; without memory for it nothing is
-- taken in either
abbrev pub HandsNext : Option Post → List Move → Type 0
HandsNext None moves = OnlyTakes moves
HandsNext (Some post) [] = ⊤
HandsNext (Some post) (Handed next ∷ moves) = (next ≡ post) × OnlyTakes moves
HandsNext (Some post) (Took taken ∷ moves) = ⊥
HandsNext (Some post) (Failed ∷ moves) = ⊥

-- A question is handed out, and after it a Recover, if it is time for one, and no other datagram.
-- Without memory for one of them nothing is taken in either.
abbrev pub Asks : (question : Post) → (recovery : Option Post) → List Move → Type 0
Asks question recovery [] = ⊤
Asks question recovery (Handed first ∷ moves) = (first ≡ question) × HandsNext recovery moves
Asks question recovery (Took taken ∷ moves) = ⊥
Asks question recovery (Failed ∷ moves) = ⊥

-- A site is asked by this datagram, and the first wanted reply that is then taken in is what it
-- replies. How long the client listens isn't said, nor that there is memory for the question.
abbrev pub IsAsked : Question → Wanted → List ℕ → (before after : Option (List Move))
    → Result (Option ClientReply) AllocError → Type 0
IsAsked q kind bytes before after result =
    (moves : List Move) × Grows before after moves × Asks (q.target, bytes) (recovery_of q) moves
    × IfOk result (λ reply. reply ≡ first_reply q kind moves)

-- ---- where there is memory for the datagrams

-- this datagram, if there is one
abbrev pub handed_if : Option Post → List Move
handed_if None = []
handed_if (Some post) = Handed post ∷ []

-- a question is handed out, and after it a Recover, if it is time for one, and no other datagram
abbrev pub HasAsked : (question : Post) → (recovery : Option Post) → List Move → Type 0
HasAsked question recovery moves =
    (others : List Move) × (moves ≡ Handed question ∷ (handed_if recovery ++ others))
    × OnlyTakes others

-- A site is asked by this datagram, and the first wanted reply that is then taken in is what it
-- replies; or memory runs out, and not all may be handed out.
abbrev pub IsAskedAgain : Question → Wanted → List ℕ → (before after : Option (List Move))
    → Result (Option ClientReply) AllocError → Type 0
IsAskedAgain q kind bytes before after (Ok reply) =
    (moves : List Move) × Grows before after moves
    × HasAsked (q.target, bytes) (recovery_of q) moves × (reply ≡ first_reply q kind moves)
IsAskedAgain q kind bytes before after (Err fault) =
    (moves : List Move) × Grows before after moves × Asks (q.target, bytes) (recovery_of q) moves

-- the same for the slot's bag, and the first reply to a query is the answer
abbrev pub IsAskedForBag : Question → (before after : Option (List Move))
    → Result (Option QueryAnswer) AllocError → Type 0
IsAskedForBag q before after (Ok answer) =
    (moves : List Move) × Grows before after moves
    × HasAsked (q.target, datagram_to q None) (recovery_of q) moves
    × (option_map ToQuery answer ≡ first_reply q wanted.ToQuery moves)
IsAskedForBag q before after (Err fault) =
    (moves : List Move) × Grows before after moves
    × Asks (q.target, datagram_to q None) (recovery_of q) moves

-- The replies that count: to a deposit; or to a query, and those to an earlier deposit, which may
-- come late.
abbrev pub wanted_about : (path : Option (List ℕ)) → Wanted
wanted_about (Some path) = wanted.ToDeposit
wanted_about None = wanted.Any

-- a folder is deposited at a site, or it is asked for the slot's bag, and the first reply that
-- counts is its answer
abbrev pub IsAskedAbout : Question → (path : Option (List ℕ)) → (before after : Option (List Move))
    → Result (Option ClientReply) AllocError → Type 0
IsAskedAbout q path before after result =
    IsAskedAgain q (wanted_about path) (datagram_to q path) before after result
