-- Questions one after another, and the last reply.
use Rattle.std.proofs.Common.{◌≡◌, ℕ, true, false, List, [], ◌∷◌, ◌++◌, Option, Some, None}
use Rattle.std.proofs.Common.{Result, Ok, Err, inl, inr}
use Rattle.std.proofs.Common.{refl, sym, ap, subst, ◌∙◌, append_assoc, append-nil, length, ◌+◌}
use Rattle.std.proofs.lemmas.List.{length-append}
use Rattle.std.specs.Prelude.{IfSome, IsErr, ◌≢◌}
use Rattle.std.specs.Option.{option_or}
use Rattle.std.specs.declared.alloc.AllocError.{AllocError}
use Rattle.outcomes.specs.declared.program_output.ProgramOutput.{ProgramOutput}
use Rattle.outcomes.specs.declared.fault.ProgramFault.{ProgramFault}
use Rattle.udp_site.specs.Traffic.{Post, Move, Grows}
use Rattle.udp_site.proofs.Growth.{Grows-trans, Grows-none}
use Rattle.site_client.specs.declared.reply.ClientReply.{ClientReply}
use Rattle.site_client.specs.declared.reply.Wanted.{Wanted}
use Rattle.site_client.specs.Replies.{Question, datagram_to, first_reply}
use Rattle.site_client.specs.Exchanges.{Asks, HasAsked, IsAskedAgain}
use Rattle.site_client.specs.Recoveries.{recovery_of, next_question}
use Rattle.site_client.specs.Repeats.{next_path, path_after, wanted_until, is_last, ends}
use Rattle.site_client.specs.Repeats.{question_after, NoneEnds, AreReplies, AsksNext, last_of}
use Rattle.site_client.specs.Repeats.{IsSentUntilKnown}
use Rattle.site_client.specs.Answers.{IsWritten}
use Rattle.site_client.specs.inner.Repeated.{IsLastReply, IsLastAnswer}
use Rattle.site_client.specs.inner.Written.{outcome_to}
use Rattle.site_client.proofs.Heard.{or_assoc, or_none}

none_ends_then : (replies : List (Option ClientReply)) (reply : Option ClientReply)
    → NoneEnds replies → ends reply ≡ false → NoneEnds (replies ++ reply ∷ [])
none_ends_then [] reply p is = (is, tt)
none_ends_then (r ∷ replies) reply (one, p) is = (one, none_ends_then replies reply p is)

-- nothing follows
at_last : (reply : Option ClientReply)
    → IfSome reply (λ r. is_last r ≡ true → ◌≡◌ {A = List (Option ClientReply)} [] [])
at_last None = tt
at_last (Some r) = λ _. refl

-- something may follow
not_last : (reply : Option ClientReply) (replies : List (Option ClientReply)) → ends reply ≡ false
    → IfSome reply (λ r. is_last r ≡ true → replies ≡ [])
not_last None replies is = tt
not_last (Some r) replies is = λ last. absurd (cc (is, last))

some_of : (replies : List (Option ClientReply)) → length replies ≢ 0 → replies ≢ []
some_of replies some is = some (ap length is)

some_then : (replies : List (Option ClientReply)) (reply : Option ClientReply)
    → (replies ++ reply ∷ []) ≢ []
some_then [] reply is = absurd (cc is)
some_then (r ∷ replies) reply is = absurd (cc is)

-- the site was asked once more
abbrev HasAskedNext : Question → (path : Option (List ℕ)) → List Move → Type 0
HasAskedNext q path moves = HasAsked (q.target, datagram_to q path) (recovery_of q) moves

replies_then : (q : Question) (path next : Option (List ℕ)) (replies : List (Option ClientReply))
    (m n : List Move) (reply : Option ClientReply) → AreReplies q path next replies m
    → NoneEnds replies → HasAskedNext (question_after q replies) (path_after path next replies) n
    → reply ≡ first_reply (question_after q replies) (wanted_until path) n
    → AreReplies q path next (replies ++ reply ∷ []) (m ++ n)
replies_then q path next [] m n reply p none asks is = (
  n,
  [],
  ap (λ (k : List Move). k ++ n) p ∙ sym (append-nil n),
  asks,
  is,
  at_last reply,
  refl,
)
replies_then q path next (r ∷ replies) m n reply (first, rest, parts, one, given, last, more)
    (goes_on, none) asks is = (
      first,
      rest ++ n,
      ap (λ (k : List Move). k ++ n) parts ∙ append_assoc first rest n,
      one,
      given,
      not_last r (replies ++ reply ∷ []) goes_on,
      replies_then (next_question q) path (next_path path r) replies rest n reply more none asks is,
    )

last_then : (replies : List (Option ClientReply)) (reply : Option ClientReply)
    → last_of (replies ++ reply ∷ []) ≡ option_or reply (last_of replies)
last_then [] reply = or_none reply
last_then (r ∷ replies) reply =
    ap (λ (last : Option ClientReply). option_or last r) (last_then replies reply)
    ∙ sym (or_assoc reply (last_of replies) r)

path_then : (path next : Option (List ℕ)) (replies : List (Option ClientReply))
    (reply : Option ClientReply)
    → path_after path next (replies ++ reply ∷ []) ≡ next_path path reply
path_then path next [] reply = refl
path_then path next (r ∷ replies) reply = path_then path (next_path path r) replies reply

question_then : (q : Question) (replies : List (Option ClientReply)) (reply : Option ClientReply)
    → question_after q (replies ++ reply ∷ []) ≡ next_question (question_after q replies)
question_then q [] reply = refl
question_then q (r ∷ replies) reply = question_then (next_question q) replies reply

-- the datagrams are the same, however many questions came before
same_datagram : (q : Question) (path : Option (List ℕ))
    → datagram_to (next_question q) path ≡ datagram_to q path
unfolding datagram_to
same_datagram q path = refl

datagram_after : (q : Question) (replies : List (Option ClientReply)) (path : Option (List ℕ))
    → datagram_to (question_after q replies) path ≡ datagram_to q path
datagram_after q [] path = refl
datagram_after q (reply ∷ replies) path =
    datagram_after (next_question q) replies path ∙ same_datagram q path

-- so many replies, of which none is the last; and whom is asked next, and what is sent
abbrev pub SoFar : Question → (path : Option (List ℕ)) → (before after : Option (List Move))
    → (count : ℕ) → (last : Option ClientReply) → (next : Question) → (bytes : List ℕ) → Type 0
SoFar q path before after count last next bytes =
    (replies : List (Option ClientReply)) × (moves : List Move) × Grows before after moves
    × AreReplies q path path replies moves × NoneEnds replies × (length replies ≡ count)
    × (last ≡ last_of replies) × (next ≡ question_after q replies)
    × (bytes ≡ datagram_to q (path_after path path replies))

module _ (q : Question) (path : Option (List ℕ)) (a : Option (List Move)) where
  pub at_first : (at : Question) (bytes : List ℕ) → at ≡ q → bytes ≡ datagram_to q path
      → SoFar q path a a 0 None at bytes
  at_first at bytes here is = ([], [], Grows-none a, refl, tt, refl, refl, here, is)

  -- what is asked by the bytes that are sent is what is asked next
  asks_next : (A : Post → Option Post → Type 0) (at : Question)
      (replies : List (Option ClientReply)) (bytes : List ℕ) → at ≡ question_after q replies
      → bytes ≡ datagram_to q (path_after path path replies)
      → A (at.target, bytes) (recovery_of at)
      → A (
        (question_after q replies).target,
        datagram_to (question_after q replies) (path_after path path replies),
      )
      (recovery_of (question_after q replies))
  asks_next A at replies bytes is sent asks =
      subst (λ (l : List ℕ). A ((question_after q replies).target, l)
      (recovery_of (question_after q replies)))
      (sent ∙ sym (datagram_after q replies (path_after path path replies)))
      (subst (λ (p : Question). A (p.target, bytes) (recovery_of p)) is asks)

  module _ (b c : Option (List Move)) (count : ℕ) (last : Option ClientReply) (at : Question)
      (bytes : List ℕ) (far : SoFar q path a b count last at bytes) (reply : Option ClientReply)
      (kind : Wanted) (kind_is : kind ≡ wanted_until path)
      (asked_so : IsAskedAgain at kind bytes b c (Ok reply)) where
    asked : IsAskedAgain at (wanted_until path) bytes b c (Ok reply)
    asked = subst (λ (k : Wanted). IsAskedAgain at k bytes b c (Ok reply)) kind_is asked_so

    -- one reply more
    more : (replies : List (Option ClientReply)) (m n : List Move) → NoneEnds replies
        → at ≡ question_after q replies → bytes ≡ datagram_to q (path_after path path replies)
        → AreReplies q path path replies m → HasAsked (at.target, bytes) (recovery_of at) n
        → reply ≡ first_reply at (wanted_until path) n
        → AreReplies q path path (replies ++ reply ∷ []) (m ++ n)
    more replies m n none here sent are asks is =
        replies_then q path path replies m n reply are none
        (asks_next (λ post recovery. HasAsked post recovery n) at replies bytes here sent asks)
        (is ∙ ap (λ (p : Question). first_reply p (wanted_until path) n) here)

    -- the next reply is the last
    pub then_last : (new : Option ClientReply) → new ≡ option_or reply last
        → IsLastReply q path a c (Ok new)
    then_last new is_new = go far asked
      where
        go : SoFar q path a b count last at bytes
            → IsAskedAgain at (wanted_until path) bytes b c (Ok reply)
            → IsLastReply q path a c (Ok new)
        go (replies, m, grows, are, none, length_is, was, here, sent) (n, grows_more, asks, is) = (
          replies ++ reply ∷ [],
          m ++ n,
          Grows-trans a b c m n grows grows_more,
          more replies m n none here sent are asks is,
          some_then replies reply,
          is_new ∙ (ap (option_or reply) was ∙ sym (last_then replies reply)),
        )

    -- it isn't
    pub then_more : (new : Option ClientReply) (next : Question) (bytes_next : List ℕ)
        → new ≡ option_or reply last → ends reply ≡ false → next ≡ next_question at
        → bytes_next ≡ datagram_to q (next_path path reply)
        → SoFar q path a c (count + 1) new next bytes_next
    then_more new next bytes_next is_new goes_on at_next is_next = go far asked
      where
        go : SoFar q path a b count last at bytes
            → IsAskedAgain at (wanted_until path) bytes b c (Ok reply)
            → SoFar q path a c (count + 1) new next bytes_next
        go (replies, m, grows, are, none, length_is, was, here, sent) (n, grows_more, asks, is) = (
          replies ++ reply ∷ [],
          m ++ n,
          Grows-trans a b c m n grows grows_more,
          more replies m n none here sent are asks is,
          none_ends_then replies reply none goes_on,
          length-append replies (reply ∷ []) ∙ ap (λ (k : ℕ). k + 1) length_is,
          is_new ∙ (ap (option_or reply) was ∙ sym (last_then replies reply)),
          at_next ∙ (ap next_question here ∙ sym (question_then q replies reply)),
          is_next ∙ sym (ap (datagram_to q) (path_then path path replies reply)),
        )

  -- memory ran out
  pub then_stopped : (b c : Option (List Move)) (count : ℕ) (last : Option ClientReply)
      (at : Question) (bytes : List ℕ) (fault : AllocError)
      (result : Result (Option ClientReply) AllocError)
      → SoFar q path a b count last at bytes → (kind : Wanted)
      → IsAskedAgain at kind bytes b c (Err fault)
      → IsErr result → IsLastReply q path a c result
  then_stopped b c count last at bytes fault (Ok given) far kind asked err = absurd (cc err)
  then_stopped b c count last at bytes fault (Err e)
      (replies, m, grows, are, none, length_is, was, here, sent) kind (n, grows_more, asks) err = (
        replies,
        m,
        n,
        Grows-trans a b c m n grows grows_more,
        are,
        inr (
          none,
          asks_next (λ post recovery. Asks post recovery n) at replies bytes here sent asks,
        ),
      )

  -- no more questions can be counted
  pub no_more : (b : Option (List Move)) (count : ℕ) (last : Option ClientReply) (at : Question)
      (bytes : List ℕ) → count ≢ 0 → SoFar q path a b count last at bytes
      → IsLastReply q path a b (Ok last)
  no_more b count last at bytes some (replies, m, grows, are, none, length_is, was, here, sent) =
      (replies, m, grows, are, some_of replies (λ is. some (sym length_is ∙ is)), was)

-- ---- what is told

module _ (q : Question) (path : Option (List ℕ)) (a b : Option (List Move)) where
  -- nothing was asked
  pub not_begun : (result : Result (Option ProgramOutput) AllocError) → IsErr result
      → IsLastAnswer q path a a result
  not_begun (Ok given) err = absurd (cc err)
  not_begun (Err e) err = ([], [], [], Grows-none a, refl, inl refl)

  -- there was a reply, and no memory for its line
  pub no_room : (last : Option ClientReply) (result : Result (Option ProgramOutput) AllocError)
      → IsErr result
      → IsLastReply q path a b (Ok last) → IsLastAnswer q path a b result
  no_room last (Ok given) err is = absurd (cc err)
  no_room last (Err e) err (replies, m, grows, are, some, was) =
      (replies, m, [], subst (Grows a b) (sym (append-nil m)) grows, are, inl refl)

  pub told : (old new : Option (List ℕ)) (result : Result ℕ ProgramFault)
      (answer : Result (Option ProgramOutput) AllocError) → IsLastAnswer q path a b answer
      → IsWritten old new result (outcome_to answer) → IsSentUntilKnown q path a b old new result
  told old new result (Ok answer) (replies, m, grows, are, some, is) written =
      inl (replies, m, grows, are, some, subst (IsWritten old new result) is written)
  told old new result (Err e) broken written = inr (broken, written)
