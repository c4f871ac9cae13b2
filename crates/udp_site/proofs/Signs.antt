-- What came changes no pace, where it isn't noted that something comes: what a site says to itself,
-- where it can't be a vote; and what a client asks. Nor does what others say, where no proposal is
-- under way, no wait has grown, and who says it is noted.
use Rattle.std.proofs.Common.{◌||◌, ◌≡◌, ℕ, ◌==◌, ◌-◌, Bool, true, false, List, refl, ap, sym, ◌∙◌}
use Rattle.std.proofs.Common.{Option, Some, None}
use Rattle.fields.proofs.Bytes.{IsBytes}
use Rattle.dgram.specs.Decoded.{message_of}
use Rattle.dgram.specs.Encoding.{kind_of, body_from}
use Rattle.dgram.specs.Numbers.{ACCEPTED, DEPOSIT, QUERY, RECOVER}
use Rattle.dgram.specs.declared.body.Body.{Body}
use Rattle.dgram.specs.declared.body.Body.TheVariants as bodies
use Rattle.dgram.specs.declared.message.Message.{Message}
use Rattle.dgram.proofs.MessageOf.{message_of-found}
use Rattle.udp_site.specs.declared.pace.Pace.{Pace}
use Rattle.udp_site.specs.declared.movement.Sign.TheVariants as signs
use Rattle.udp_site.specs.Pace.{hears, meets, listens, arrives, takes}
use Rattle.udp_site.specs.Signs.{sign_by, own_signal_by, signal_by, signal_at, kind_byte, is_vote}
use Rattle.udp_site.specs.Signs.{is_request}

-- a datagram has the byte of its message's kind
kind_is : (federation : ℕ) (bytes : List ℕ) (m : Message) → IsBytes bytes
    → message_of federation bytes ≡ Some m → kind_byte bytes ≡ kind_of m.body
kind_is federation bytes m are e = rw (message_of-found federation bytes m are e).1

-- so the message isn't of a kind that the datagram hasn't
isnt_kind : (kind federation : ℕ) (bytes : List ℕ) (m : Message) → IsBytes bytes
    → message_of federation bytes ≡ Some m → (kind_byte bytes == kind) ≡ false
    → (kind_of m.body == kind) ≡ false
isnt_kind kind federation bytes m are e isnt = rw (← kind_is federation bytes m are e) isnt

-- a kind is one of a client's requests
abbrev is_request_kind : ℕ → Bool
is_request_kind kind = kind == DEPOSIT || (kind == RECOVER || kind == QUERY)

module _ (pace : Pace) (now own from federation : ℕ) (bytes : List ℕ) (are : IsBytes bytes)
    (noted : arrives pace None ≡ pace) where
  -- no body but that of a vote
  own_by_body : (b : Body) → (kind_of b == ACCEPTED) ≡ false → takes pace now (own_signal_by b) ≡
      pace
  own_by_body (bodies.Accepted from vote) isnt = absurd (cc isnt)
  own_by_body b isnt = noted

  own_in_message : (own == from) ≡ true → is_vote bytes ≡ false → (o : Option Message)
      → message_of federation bytes ≡ o → takes pace now (signal_at own from o) ≡ pace
  own_in_message is_own isnt None e = noted
  own_in_message is_own isnt (Some m) e =
      rw is_own (own_by_body m.body (isnt_kind ACCEPTED federation bytes m are e isnt))

  pub own_changes_nothing : (own == from) ≡ true → is_vote bytes ≡ false
      → takes pace now (signal_at own from (message_of federation bytes)) ≡ pace
  own_changes_nothing is_own isnt =
      own_in_message is_own isnt (message_of federation bytes) refl

  -- no body of a client's request
  asked_by_body : (b : Body) → is_request_kind (kind_of b) ≡ true → takes pace now (signal_by b) ≡
      pace
  asked_by_body (bodies.Deposit path) is = noted
  asked_by_body bodies.Query is = noted
  asked_by_body bodies.Recover is = noted
  asked_by_body b is = absurd (cc is)

  asked_in_message : (own == from) ≡ false → is_request bytes ≡ true → (o : Option Message)
      → message_of federation bytes ≡ o → takes pace now (signal_at own from o) ≡ pace
  asked_in_message is_own is None e = noted
  asked_in_message is_own is (Some m) e =
      rw is_own (asked_by_body m.body (rw (kind_is federation bytes m are e) at is))

  pub asked_changes_nothing : (own == from) ≡ false → is_request bytes ≡ true
      → takes pace now (signal_at own from (message_of federation bytes)) ≡ pace
  asked_changes_nothing is_own is =
      asked_in_message is_own is (message_of federation bytes) refl

module _ (pace : Pace) (now own from federation : ℕ) (bytes : List ℕ)
    (rests : pace.under_way ≡ 0) where
  -- no answer is awaited
  stays : (sender : Option ℕ) → arrives pace sender ≡ pace
  stays sender = rw rests

  module _ (first : pace.wait ≡ pace.waits.first) (early : pace.answer_wait ≡ pace.waits.first)
      (noted : (site : ℕ) → meets pace.contacts now site ≡ pace.contacts) where
    moves : hears pace signs.Moves ≡ pace
    moves = rw (← first)

    decides : hears pace signs.Decides ≡ pace
    decides =
        ap (λ (p : Pace). record p {
          answer_wait = pace.waits.first;
          under_way = pace.under_way - 1;
        }) moves
        ∙ ap (λ (n : ℕ). record pace {
          answer_wait = n;
          under_way = pace.under_way - 1;
        }) (sym early)
        ∙ ap (λ (n : ℕ). record pace { under_way = n - 1 }) rests
        ∙ ap (λ (n : ℕ). record pace { under_way = n }) (sym rests)

    -- no body does
    by_body : (b : Body) → hears pace (sign_by b) ≡ pace
    by_body (bodies.Accept vote) = moves
    by_body (bodies.Accepted from vote) = decides
    by_body (bodies.Known from bag) = decides
    by_body b = refl

    -- nor who says it
    by_sender : (sender : Option ℕ) → listens pace now sender ≡ pace
    by_sender None = refl
    by_sender (Some site) = rw (noted site)

    by_signal : (b : Body) → takes pace now (signal_by b) ≡ pace
    by_signal b = rw (stays (body_from b), by_sender (body_from b)) (by_body b)

    in_message : (own == from) ≡ false → (o : Option Message)
        → takes pace now (signal_at own from o) ≡ pace
    in_message is_own None = stays None
    in_message is_own (Some m) = rw is_own (by_signal m.body)

    pub nothing_changes : (own == from) ≡ false
        → takes pace now (signal_at own from (message_of federation bytes)) ≡ pace
    nothing_changes is_own =
        in_message is_own (message_of federation bytes)
