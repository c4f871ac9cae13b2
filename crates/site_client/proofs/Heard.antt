-- Datagrams that are taken in one after another, and the first reply among them.
use Rattle.std.proofs.Common.{◌≡◌, ℕ, List, [], ◌∷◌, ◌++◌, Option, Some, None, Result, Ok, Err}
use Rattle.std.proofs.Common.{refl, sym, ap, subst, ◌∙◌, Bool, true, false, ◌&&◌, ◌==◌, cond}
use Rattle.std.specs.Prelude.{IfOk, IsErr, IsErrAnd}
use Rattle.std.specs.Option.{option_or, option_map}
use Rattle.dgram.specs.declared.answers.DepositAnswer.{DepositAnswer}
use Rattle.dgram.specs.declared.answers.QueryAnswer.{QueryAnswer}
use Rattle.std.specs.declared.alloc.AllocError.{AllocError}
use Rattle.fed_types.specs.Slots.{same_slot}
use Rattle.dgram.specs.declared.body.Body.{Body}
use Rattle.dgram.specs.declared.body.Body.TheVariants as bodies
use Rattle.dgram.specs.declared.message.Message.{Message}
use Rattle.dgram.specs.Decoded.{message_of}
use Rattle.udp_site.specs.Traffic.{Nothing, From, Post, Move, Took, Failed, Handed, Grows}
use Rattle.udp_site.proofs.Growth.{Grows-trans, Grows-none}
use Rattle.site_client.specs.declared.reply.ClientReply.{ClientReply}
use Rattle.site_client.specs.declared.reply.ClientReply.TheVariants.{ToDeposit, ToQuery}
use Rattle.site_client.specs.declared.reply.Wanted.{Wanted}
use Rattle.site_client.specs.declared.reply.Wanted.TheVariants as wanted
use Rattle.site_client.specs.Replies.{Question, datagram_to, reply_by, reply_of, reply_from}
use Rattle.site_client.specs.Replies.{reply_at, first_reply}
use Rattle.site_client.specs.Exchanges.{OnlyTakes, HandsNext, Asks, IsAsked, handed_if}
use Rattle.site_client.specs.Exchanges.{HasAsked, IsAskedAgain, IsAskedForBag}
use Rattle.site_client.specs.Recoveries.{recovery_of, recovery_port, recovery_datagram}
use Rattle.site_client.specs.inner.Heard.{BringsNone, TakesOne, IsTaken, IsAskedToRecover}
use Rattle.site_client.specs.inner.Heard.{OnlyHands, IsHandedOut, Hears, query_in}

pub takes_both : (m n : List Move) → OnlyTakes m → OnlyTakes n → OnlyTakes (m ++ n)
takes_both [] n p q = q
takes_both (Took taken ∷ m) n p q = takes_both m n p q
takes_both (Failed ∷ m) n p q = takes_both m n p q
takes_both (Handed post ∷ m) n p q = absurd p

pub or_assoc : (a b c : Option ClientReply)
    → option_or a (option_or b c) ≡ option_or (option_or a b) c
or_assoc None b c = refl
or_assoc (Some x) b c = refl

-- the first of both is that of the first part, or else that of the second
pub first_of_both : (q : Question) (kind : Wanted) (m n : List Move)
    → first_reply q kind (m ++ n) ≡ option_or (first_reply q kind m) (first_reply q kind n)
first_of_both q kind [] n = refl
first_of_both q kind (move ∷ m) n =
    ap (option_or (reply_at q kind move)) (first_of_both q kind m n)
    ∙ or_assoc (reply_at q kind move) (first_reply q kind m) (first_reply q kind n)

-- where the first part has none, it is that of the second
pub first_of_second : (q : Question) (kind : Wanted) (m n : List Move)
    → None ≡ first_reply q kind m → first_reply q kind n ≡ first_reply q kind (m ++ n)
first_of_second q kind m n none =
    ap (λ (r : Option ClientReply). option_or r (first_reply q kind n)) none
    ∙ sym (first_of_both q kind m n)

pub none_takes : (moves : List Move) → BringsNone moves → OnlyTakes moves
none_takes [] p = tt
none_takes (Took Nothing ∷ moves) p = none_takes moves p
none_takes (Took (From port bytes) ∷ moves) p = absurd p
none_takes (Failed ∷ moves) p = none_takes moves p
none_takes (Handed post ∷ moves) p = absurd p

pub none_replies : (q : Question) (kind : Wanted) (moves : List Move) → BringsNone moves
    → None ≡ first_reply q kind moves
none_replies q kind [] p = refl
none_replies q kind (Took Nothing ∷ moves) p = none_replies q kind moves p
none_replies q kind (Took (From port bytes) ∷ moves) p = absurd p
none_replies q kind (Failed ∷ moves) p = none_replies q kind moves p
none_replies q kind (Handed post ∷ moves) p = absurd p

pub or_none : (a : Option ClientReply) → a ≡ option_or a None
or_none None = refl
or_none (Some x) = refl

-- ---- waiting

module _ (q : Question) (kind : Wanted) where
  pub hears_nothing : (a : Option (List Move)) → Hears q kind a a (Ok None)
  hears_nothing a = ([], Grows-none a, tt, refl)

  -- after moves without a reply others come
  pub hears_more : (a b c : Option (List Move)) → Hears q kind a b (Ok None)
      → (result : Result (Option ClientReply) AllocError) → Hears q kind b c result
      → Hears q kind a c result
  hears_more a b c (m, grows, takes, none) result (n, more, takes_more, reply) = (
    m ++ n,
    Grows-trans a b c m n grows more,
    takes_both m n takes takes_more,
    go result reply,
  )
    where
      go : (result : Result (Option ClientReply) AllocError)
          → IfOk result (λ r. r ≡ first_reply q kind n)
          → IfOk result (λ r. r ≡ first_reply q kind (m ++ n))
      go (Ok reply) is = is ∙ first_of_second q kind m n none
      go (Err fault) is = tt

  -- no datagram came
  pub hears_none : (a b : Option (List Move)) → TakesOne a b None → Hears q kind a b (Ok None)
  hears_none a b (moves, grows, none) =
      (moves, grows, none_takes moves none, none_replies q kind moves none)

  -- a datagram came
  pub hears_one : (a b : Option (List Move)) (port : ℕ) (bytes : List ℕ)
      → TakesOne a b (Some (port, bytes)) → (result : Result (Option ClientReply) AllocError)
      → IfOk result (λ r. r ≡ reply_from q kind port bytes)
      → Hears q kind a b result
  hears_one a b port bytes grows result is =
      (Took (From port bytes) ∷ [], grows, tt, go result is)
    where
      go : (result : Result (Option ClientReply) AllocError)
          → IfOk result (λ r. r ≡ reply_from q kind port bytes)
          → IfOk result (λ r. r ≡ option_or (reply_from q kind port bytes) None)
      go (Ok reply) is = is ∙ or_none (reply_from q kind port bytes)
      go (Err fault) is = tt

-- an error has no value
pub err_if_ok : {T E : Type 0} (r : Result T E) (P : E → Type 0) (Q : T → Type 0) → IsErrAnd r P
    → IfOk r Q
err_if_ok (Ok x) P Q is = absurd is
err_if_ok (Err e) P Q is = tt

-- ---- asking

-- it is not time for a Recover
pub no_recovery : (q : Question) (a : Option (List Move)) → None ≡ recovery_port q
    → IsAskedToRecover q a a (Ok true)
no_recovery q a none =
    subst (λ (port : Option ℕ). Grows a a (handed_if (option_map (λ p. (p, recovery_datagram q))
    port)))
    none (Grows-none a)

-- one was handed out, unless there was no memory for it
pub recovery_sent : (q : Question) (a b : Option (List Move)) (port : ℕ) (bytes : List ℕ)
    → Some port ≡ recovery_port q → bytes ≡ recovery_datagram q
    → (result : Result Bool AllocError) → IsTaken a b (port, bytes) result
    → IsAskedToRecover q a b result
recovery_sent q a b port bytes to are (Ok took) handed =
    subst (λ (o : Option ℕ). Grows a b (handed_if (option_map (λ p. (p, recovery_datagram q)) o)))
    to (subst (λ (l : List ℕ). Grows a b (Handed (port, l) ∷ [])) are handed)
recovery_sent q a b port bytes to are (Err fault) handed = handed

-- there was no memory for its datagram
pub recovery_unmade : (q : Question) (a : Option (List Move)) (result : Result Bool AllocError)
    → IsErr result → IsAskedToRecover q a a result
recovery_unmade q a (Ok took) err = absurd (cc err)
recovery_unmade q a (Err fault) err = Grows-none a

-- after a Recover nothing but what is taken in follows
hands_then : (post : Option Post) (moves : List Move) → OnlyTakes moves
    → HandsNext post (handed_if post ++ moves)
hands_then None moves p = p
hands_then (Some post) moves p = (refl, p)

hands_no_more : (post : Option Post) → HandsNext post []
hands_no_more None = tt
hands_no_more (Some post) = tt

only_hands : (post : Option Post) → OnlyHands (handed_if post)
only_hands None = tt
only_hands (Some post) = tt

-- what is handed out is no reply
none_in_handed : (q : Question) (kind : Wanted) (post : Option Post) (moves : List Move)
    → first_reply q kind moves ≡ first_reply q kind (handed_if post ++ moves)
none_in_handed q kind None moves = refl
none_in_handed q kind (Some post) moves = refl

none_in_only_handed : (q : Question) (kind : Wanted) (moves : List Move) → OnlyHands moves
    → None ≡ first_reply q kind moves
none_in_only_handed q kind [] p = refl
none_in_only_handed q kind (Took taken ∷ moves) p = absurd p
none_in_only_handed q kind (Failed ∷ moves) p = absurd p
none_in_only_handed q kind (Handed post ∷ moves) p = none_in_only_handed q kind moves p

hands_all : (post : Option Post) → HandsNext post (handed_if post)
hands_all None = tt
hands_all (Some post) = (refl, tt)

module _ (q : Question) (bytes : List ℕ) where
  -- there was no memory for the question
  pub hands_nothing : (a b : Option (List Move)) → Grows a b [] → (result : Result Bool AllocError)
      → IsErr result → IsHandedOut q bytes a b result
  hands_nothing a b none (Ok took) err = absurd (cc err)
  hands_nothing a b none (Err e) err = ([], none, tt, tt)

  -- the question was handed out, and there was no memory for a Recover
  pub hands_question : (a b c : Option (List Move)) → Grows a b (Handed (q.target, bytes) ∷ [])
      → Grows b c [] → (result : Result Bool AllocError) → IsErr result
      → IsHandedOut q bytes a c result
  hands_question a b c handed none (Ok took) err = absurd (cc err)
  hands_question a b c handed none (Err e) err = (
    Handed (q.target, bytes) ∷ [],
    Grows-trans a b c (Handed (q.target, bytes) ∷ []) [] handed none,
    (refl, hands_no_more (recovery_of q)),
    tt,
  )

  -- all is handed out
  abbrev pub HandsAll : (before after : Option (List Move)) → Type 0
  HandsAll before after =
      Grows before after (Handed (q.target, bytes) ∷ handed_if (recovery_of q))

  -- both were, if it was time for a Recover
  pub hands_both : (a b c : Option (List Move)) → Grows a b (Handed (q.target, bytes) ∷ [])
      → Grows b c (handed_if (recovery_of q)) → HandsAll a c
  hands_both a b c handed more =
      Grows-trans a b c (Handed (q.target, bytes) ∷ []) (handed_if (recovery_of q)) handed more

  module _ (kind : Wanted) where
    in_all : (moves : List Move) (r : Result (Option ClientReply) AllocError)
        → IfOk r (λ reply. reply ≡ first_reply q kind moves)
        → IfOk r (λ reply. reply ≡ first_reply q kind (handed_if (recovery_of q) ++ moves))
    in_all moves (Ok given) is = is ∙ none_in_handed q kind (recovery_of q) moves
    in_all moves (Err fault) is = tt

    -- all was handed out, and then some are taken in
    pub asks_then : (a b c : Option (List Move)) → HandsAll a b
        → (result : Result (Option ClientReply) AllocError) → Hears q kind b c result
        → IsAsked q kind bytes a c result
    asks_then a b c handed result (moves, grows, takes, reply) = (
      Handed (q.target, bytes) ∷ (handed_if (recovery_of q) ++ moves),
      Grows-trans a b c _ moves handed grows,
      (refl, hands_then (recovery_of q) moves takes),
      in_all moves result reply,
    )

    -- nothing is
    pub asks_no_more : (a b : Option (List Move)) (out : Result Bool AllocError)
        → IsHandedOut q bytes a b out → IsAsked q kind bytes a b (Ok None)
    asks_no_more a b (Ok took) handed = (
      Handed (q.target, bytes) ∷ handed_if (recovery_of q),
      handed,
      (refl, hands_all (recovery_of q)),
      none_in_only_handed q kind (handed_if (recovery_of q)) (only_hands (recovery_of q)),
    )
    asks_no_more a b (Err fault) (moves, grows, asks, hands) =
        (moves, grows, asks, none_in_only_handed q kind moves hands)

    -- the same where there is memory for all
    pub again_then : (a b c : Option (List Move)) → HandsAll a b
        → (result : Result (Option ClientReply) AllocError) → Hears q kind b c result
        → IsAskedAgain q kind bytes a c result
    again_then a b c handed (Ok given) (moves, grows, takes, reply) = (
      Handed (q.target, bytes) ∷ (handed_if (recovery_of q) ++ moves),
      Grows-trans a b c _ moves handed grows,
      (moves, refl, takes),
      reply ∙ none_in_handed q kind (recovery_of q) moves,
    )
    again_then a b c handed (Err fault) (moves, grows, takes, reply) = (
      Handed (q.target, bytes) ∷ (handed_if (recovery_of q) ++ moves),
      Grows-trans a b c _ moves handed grows,
      (refl, hands_then (recovery_of q) moves takes),
    )

    pub again_no_more : (a b : Option (List Move)) → HandsAll a b
        → IsAskedAgain q kind bytes a b (Ok None)
    again_no_more a b handed =
        again_then a b b handed (Ok None) ([], Grows-none b, tt, refl)

    -- there wasn't
    pub again_cut : (a b : Option (List Move)) (fault : AllocError)
        → IsHandedOut q bytes a b (Err fault) → (result : Result (Option ClientReply) AllocError)
        → IsErr result → IsAskedAgain q kind bytes a b result
    again_cut a b fault handed (Ok given) err = absurd (cc err)
    again_cut a b fault (moves, grows, asks, hands) (Err e) err = (moves, grows, asks)

-- ---- a bag that is asked for

-- it is the reply to a query, or none
IsOfQuery : Option ClientReply → Type 0
IsOfQuery reply = option_map ToQuery (query_in reply) ≡ reply

query_if : (b : Bool) (answer : QueryAnswer) → IsOfQuery (cond b (Some (ToQuery answer)) None)
unfolding IsOfQuery
query_if true answer = refl
query_if false answer = refl

no_deposit : (b : Bool) (answer : DepositAnswer)
    → IsOfQuery (cond (b && false) (Some (ToDeposit answer)) None)
unfolding IsOfQuery
no_deposit true answer = refl
no_deposit false answer = refl

none_of_query : IsOfQuery None
unfolding IsOfQuery
none_of_query = refl

of_query_if : (b : Bool) (reply : Option ClientReply) → IsOfQuery reply
    → IsOfQuery (cond b reply None)
of_query_if true reply is = is
of_query_if false reply is = none_of_query

either_of_query : (a b : Option ClientReply) → IsOfQuery a → IsOfQuery b → IsOfQuery (option_or a b)
either_of_query None b p r = r
either_of_query (Some x) b p r = p

by_query : (to : ℕ) (body : Body) → IsOfQuery (reply_by to wanted.ToQuery body)
by_query to (bodies.DepositReply from answer) = no_deposit (from == to) answer
by_query to (bodies.QueryReply from answer) = query_if ((from == to) && true) answer
by_query to body = none_of_query

of_query : (q : Question) (m : Option Message) → IsOfQuery (reply_of q wanted.ToQuery m)
of_query q None = none_of_query
of_query q (Some m) = of_query_if (same_slot m.slot q.slot) _ (by_query q.to m.body)

at_query : (q : Question) (move : Move) → IsOfQuery (reply_at q wanted.ToQuery move)
at_query q (Took (From port bytes)) =
    of_query_if (port == q.target) _ (of_query q (message_of q.federation bytes))
at_query q (Took Nothing) = none_of_query
at_query q Failed = none_of_query
at_query q (Handed post) = none_of_query

first_of_query : (q : Question) (moves : List Move)
    → IsOfQuery (first_reply q wanted.ToQuery moves)
first_of_query q [] = none_of_query
first_of_query q (move ∷ moves) =
    either_of_query (reply_at q wanted.ToQuery move) (first_reply q wanted.ToQuery moves)
    (at_query q move) (first_of_query q moves)

-- what is replied to a query is its answer
pub bag_asked : (q : Question) (bytes : List ℕ) → bytes ≡ datagram_to q None
    → (a b : Option (List Move)) (reply : Option ClientReply) (answer : Option QueryAnswer)
    → answer ≡ query_in reply → IsAskedAgain q wanted.ToQuery bytes a b (Ok reply)
    → IsAskedForBag q a b (Ok answer)
unfolding IsOfQuery
bag_asked q bytes are a b reply answer is (moves, grows, asks, first) = (
  moves,
  grows,
  subst (λ (sent : List ℕ). HasAsked (q.target, sent) (recovery_of q) moves) are asks,
  ap (option_map ToQuery) (is ∙ ap query_in first) ∙ first_of_query q moves,
)

-- memory ran out
pub bag_unasked : (q : Question) (bytes : List ℕ) → bytes ≡ datagram_to q None
    → (a b : Option (List Move)) (fault : AllocError)
    → IsAskedAgain q wanted.ToQuery bytes a b (Err fault)
    → (result : Result (Option QueryAnswer) AllocError) → IsErr result → IsAskedForBag q a b result
bag_unasked q bytes are a b fault asked (Ok answer) err = absurd (cc err)
bag_unasked q bytes are a b fault (moves, grows, asks) (Err e) err =
    (moves, grows, subst (λ (sent : List ℕ). Asks (q.target, sent) (recovery_of q) moves) are asks)

-- nothing was asked yet
pub bag_not_begun : (q : Question) (a : Option (List Move))
    → (result : Result (Option QueryAnswer) AllocError) → IsErr result → IsAskedForBag q a a result
bag_not_begun q a (Ok answer) err = absurd (cc err)
bag_not_begun q a (Err e) err = ([], Grows-none a, tt)
