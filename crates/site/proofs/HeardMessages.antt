-- From what the steps of a site do to what it does with a message of a member.
use Rattle.std.proofs.Common.{◌≡◌, ◌⊎◌, inl, inr, ℕ, Bool, true, false, cond, List, [], ◌∷◌, ◌++◌}
use Rattle.std.proofs.Common.{map, Option, Some, None, IsSome, Result, Ok, Err, refl, ap, ◌∙◌}
use Rattle.std.specs.Prelude.{IsErrOf}
use Rattle.fed_types.specs.declared.bag_id.BagId.{BagId}
use Rattle.fed_types.specs.declared.vote.Vote.{Vote}
use Rattle.fed_types.specs.Ballots.{BallotNumber}
use Rattle.fed_types.specs.Quorums.{quorums_of}
use Rattle.fed_types.specs.Sites.{members_of}
use Rattle.fed_types.specs.Slots.{SlotName}
use Rattle.fed_types.specs.Laws.Slots.{same_slot_decides}
use Rattle.cell_device.specs.Devices.{Device}
use Rattle.records.specs.declared.entry.Entry.TheVariants as entry
use Rattle.records.specs.declared.owner.Owner.{Owner}
use Rattle.records.specs.declared.record.Record.{Record}
use Rattle.records.specs.SlotStates.{deposit_of, known_of, with_one, earlier, known_in, if_some}
use Rattle.records.proofs.SlotStates.{known-push}
use Rattle.book.specs.OpenBooks.{OpenBook}
use Rattle.dgram.specs.declared.body.Body.{Body}
use Rattle.dgram.specs.declared.body.Body.TheVariants as bodies
use Rattle.dgram.specs.declared.message.Message.{Message}
use Rattle.dgram.specs.Encoding.{body_from}
use Rattle.dgram.specs.Heard.{promise_in, refused_round, voter_in}
use Rattle.acceptor.specs.declared.decision.Decision.{Decision}
use Rattle.acceptor.specs.Decisions.{prepare_decision, accept_decision}
use Rattle.proposer.proofs.Stands.{at_here}
use Rattle.proposer.specs.Proposals.{ready}
use Rattle.proposer.specs.VolatileStates.{VolatileState, hears, promise_message, refusal_message}
use Rattle.proposer.specs.UnderWay.{UnderWay, waits}
use Rattle.learner.specs.LearnedBags.{learned_from, learned_of_known}
use Rattle.site.specs.Contents.{Contents, IsOf, RepresentsSame}
use Rattle.site.specs.Contents as tables
use Rattle.site.proofs.Heard.{hears_other, hears_known}
use Rattle.site.specs.declared.answer.Answer.{Answer}
use Rattle.site.specs.declared.answer.Line.{Line}
use Rattle.site.specs.declared.answer.Line.TheVariants as site_lines
use Rattle.site.specs.declared.fault.SiteFault.{SiteFault}
use Rattle.site.specs.declared.fault.SiteFault.TheVariants as faults
use Rattle.site.specs.Answered.{IsAnswered, Keeps, Gives}
use Rattle.site.specs.Arrivals.{on_body, decided, learning, proposing, answer_body}
use Rattle.site.specs.Arrivals.{addressees, is_member, on_arrival}
use Rattle.site.specs.Datagrams.{handed_out, datagram}
use Rattle.site.specs.Effects.{Effect, record_of, to_each, only_says, quiet}
use Rattle.site.specs.Sites.{OpenSite, Represents, IsInOrder}
use Rattle.site.specs.inner.Concluded.{Stands, Concludes, HearsBody}
use Rattle.site.specs.inner.Concluded.{Issues, one_datagram, all_datagrams}
use Rattle.site.proofs.Conclusions.{concluded, IsNoRound, noted_same, prepare_starts_none}
use Rattle.site.proofs.Conclusions.{accept_starts_none}

-- a message that is no promise, no refusal and no vote
pub record IsOther (body : Body) : Type 0 where
  pub no_promise : (b : BallotNumber) → promise_in b body ≡ None
  pub no_refusal : refused_round body ≡ None
  pub no_vote : (v : Vote) → voter_in v body ≡ None

-- a request of a client, or the reply to one
abbrev pub IsRequest : Body → Type 0
IsRequest (bodies.Deposit path) = Unit {0}
IsRequest bodies.Query = Unit {0}
IsRequest bodies.Recover = Unit {0}
IsRequest (bodies.DepositReply from answer) = Unit {0}
IsRequest (bodies.QueryReply from answer) = Unit {0}
IsRequest _ = ⊥

module _ {C : Type 0} (device : C → Device) (old new : OpenSite C) (slot : SlotName)
    (result : Result Answer SiteFault) where
  -- what a decision concludes
  abbrev ConcludesAs : (asker : ℕ) → Decision → Type 0
  ConcludesAs asker d =
      Concludes device old new (record_of slot d.entry) None
      (map (datagram old.book.owner.members.federation)
      (to_each slot (answer_body old.book.owner.site d.answer)
      (addressees (quorums_of old.book.owner.members) asker d.answer))) result

  -- and how a site answers it that hears a message of this body
  abbrev AnswersAs : Body → (asker : ℕ) → Decision → VolatileState → Type 0
  AnswersAs body asker d volatile =
      IsAnswered device old new volatile
      (decided (quorums_of old.book.owner.members) old.book.owner.site slot asker d
      (hears volatile (record { slot = slot; body = body }))) result

  -- what the acceptor has decided is concluded, and the message that asked for it is heard
  hears_decided : (body : Body) (asker : ℕ) (d : Decision) → IsOther body → IsNoRound d.entry
      → ConcludesAs asker d → (volatile : VolatileState) → Represents old volatile
      → AnswersAs body asker d volatile
  hears_decided body asker d other none c volatile (under, stands) =
      let same = noted_same slot d.entry none volatile under in
      concluded device old old new volatile under _ None _ result c refl stands refl refl
      (λ after. (
        under,
        hears_other new.tables new.book.records volatile under (rw (same.0, same.1) at after) _
            other.no_promise other.no_refusal other.no_vote,
      ))

  -- so it is where the decision is the one that the definitions make
  hears_as : (body : Body) (asker sender : ℕ) (d made : Decision) → IsOther body → asker ≡ sender
      → d ≡ made → IsNoRound made.entry → ConcludesAs asker d → (volatile : VolatileState)
      → Represents old volatile → AnswersAs body sender made volatile
  hears_as body asker sender d made other from is none c volatile stands =
      rw (← is, ← from) (hears_decided body asker d other (rw (← is) at none) c volatile stands)

  pub hears_prepare : (ballot : BallotNumber) (asker : ℕ) (d : Decision) → asker ≡ ballot.site
      → d ≡ prepare_decision slot old.book.records ballot → ConcludesAs asker d
      → HearsBody device old new slot (bodies.Prepare ballot) result
  unfolding on_body
  hears_prepare ballot asker d from is =
      hears_as (bodies.Prepare ballot) asker ballot.site d
      (prepare_decision slot old.book.records ballot)
      (record { no_promise = λ b. refl; no_refusal = refl; no_vote = λ v. refl }) from is
      (prepare_starts_none slot old.book.records ballot)

  pub hears_accept : (vote : Vote) (asker : ℕ) (d : Decision) → asker ≡ vote.ballot.site
      → d ≡ accept_decision slot old.book.records vote → ConcludesAs asker d
      → HearsBody device old new slot (bodies.Accept vote) result
  unfolding on_body
  hears_accept vote asker d from is =
      hears_as (bodies.Accept vote) asker vote.ballot.site d
      (accept_decision slot old.book.records vote)
      (record { no_promise = λ b. refl; no_refusal = refl; no_vote = λ v. refl }) from is
      (accept_starts_none slot old.book.records vote)

-- ---- a site whose tables hear something, and whose book stays
module _ {C : Type 0} (book : OpenBook C) (old new : Contents)
    (of : (owner : Owner) (records : List Record) → IsOf old owner records
    → IsOf new owner records) where
  -- it stays in order, whatever volatile state it represents then
  pub stays_in_order :
      ((volatile : VolatileState)
      (under : UnderWay) → tables.Represents old book.records volatile under
      → (s : VolatileState) × ((u : UnderWay) × tables.Represents new book.records s u))
      → IsInOrder (record { book = book; tables = old })
      → IsInOrder (record { book = book; tables = new })
  stays_in_order stands order = record {
    of = of book.owner book.records order.of;
    volatile = stands order.volatile.0 order.volatile.1.0 order.volatile.1.1;
  }

  -- and where they represent the same
  pub same_in_order : RepresentsSame old new → IsInOrder (record { book = book; tables = old })
      → IsInOrder (record { book = book; tables = new })
  same_in_order same =
      stays_in_order (λ volatile under stands. (
        volatile,
        (under, same.stands book.records volatile under stands),
      ))

module _ {C : Type 0} (device : C → Device) (old new : OpenSite C) where
  -- what is dropped
  says_dropped : (volatile : VolatileState) (a : Answer)
      → (a.line ≡ Some site_lines.Dropped) × (a.sends.items ≡ []) → new ≡ old
      → Represents old volatile
      → IsAnswered device old new volatile (only_says site_lines.Dropped volatile) (Ok a)
  says_dropped volatile a is same stands = record {
    keeps = cc;
    gives = (cc, cc, rw same stands);
  }

module _ {C : Type 0} (device : C → Device) (old new : OpenSite C) (slot : SlotName) where
  -- ---- nothing comes of a message but the volatile state
  says_nothing : (volatile now : VolatileState) (a : Answer)
      → (a.line ≡ None) × (a.sends.items ≡ []) → new.book ≡ old.book → Represents new now
      → IsAnswered device old new volatile (quiet now) (Ok a)
  says_nothing volatile now a is book stands = record {
    keeps = book;
    gives = (cc, cc, stands);
  }

  -- memory ran out
  out_of_memory : (volatile now : VolatileState) (result : Result Answer SiteFault)
      → result ≡ Err faults.Memory → new.book ≡ old.book → Represents new volatile
      → IsAnswered device old new volatile (quiet now) result
  out_of_memory volatile now result is book stands =
      rw is (record { keeps = book; gives = stands })

  -- ---- a refusal
  module _ (from : ℕ) (asked standing : BallotNumber) where
    pub hears_refused : (a : Answer) → (a.line ≡ None) × (a.sends.items ≡ [])
        → new.book ≡ old.book
        → ((volatile : VolatileState) (under : UnderWay) → Stands old volatile under
        → Stands new (hears volatile (refusal_message slot from asked standing)) under)
        → HearsBody device old new slot (bodies.Refused from asked standing) (Ok a)
    unfolding on_body
    hears_refused a is book heard volatile (under, stands) =
        says_nothing volatile (hears volatile (refusal_message slot from asked standing)) a is book
        (under, heard volatile under stands)

    pub refusal_unheard : (result : Result Answer SiteFault) → result ≡ Err faults.Memory
        → new.book ≡ old.book
        → ((volatile : VolatileState) (under : UnderWay) → Stands old volatile under
        → Stands new volatile under)
        → HearsBody device old new slot (bodies.Refused from asked standing) result
    unfolding on_body
    refusal_unheard result is book same volatile (under, stands) =
        out_of_memory volatile (hears volatile (refusal_message slot from asked standing)) result is
        book (under, same volatile under stands)

  -- ---- a bag that a site knows
  module _ (from : ℕ) (bag : BagId) where
    abbrev known_message : Message
    known_message = record { slot = slot; body = bodies.Known from bag }

    hears_it : (volatile : VolatileState) (under : UnderWay) → Stands new volatile under
        → Stands new (hears volatile known_message) under
    hears_it volatile under stands =
        hears_other new.tables new.book.records volatile under stands known_message (λ b. refl) refl
        (λ v. refl)

    pub hears_told_nothing : (a : Answer) → (a.line ≡ None) × (a.sends.items ≡ [])
        → new ≡ old → None ≡ learned_of_known slot old.book.records bag
        → HearsBody device old new slot (bodies.Known from bag) (Ok a)
    unfolding on_body
    hears_told_nothing a is same none volatile (under, stands) =
        rw (← none)
        (says_nothing volatile _ a is (cc) (under, hears_it volatile under (rw same stands)))

    pub hears_told : (learned : BagId) (result : Result Answer SiteFault)
        → Some learned ≡ learned_of_known slot old.book.records bag
        → Concludes device old new (record_of slot (Some (entry.Known learned)))
        (Some (site_lines.Known slot learned)) [] result
        → HearsBody device old new slot (bodies.Known from bag) result
    unfolding on_body
    hears_told learned result some c volatile (under, stands) =
        rw (← some)
        (concluded device old old new volatile under _ _ _ result c refl stands refl refl
        (λ after. (under, hears_it volatile under after)))

  -- ---- a vote
  module _ (from : ℕ) (vote : Vote) where
    abbrev vote_message : Message
    vote_message = record { slot = slot; body = bodies.Accepted from vote }

    pub hears_vote : (a : Answer) → (a.line ≡ None) × (a.sends.items ≡ [])
        → new.book ≡ old.book
        → ((volatile : VolatileState) (under : UnderWay) → Stands old volatile under
        → None ≡ learned_from (quorums_of old.book.owner.members) slot old.book.records
        volatile.heard from vote)
        → ((volatile : VolatileState) (under : UnderWay) → Stands old volatile under
        → Stands new (hears volatile (record { slot = slot; body = bodies.Accepted from vote }))
        under)
        → HearsBody device old new slot (bodies.Accepted from vote) (Ok a)
    unfolding on_body
    hears_vote a is book none heard volatile (under, stands) =
        rw (← none volatile under stands)
        (says_nothing volatile _ a is book (under, heard volatile under stands))

    pub vote_unheard : (result : Result Answer SiteFault) → result ≡ Err faults.Memory
        → new.book ≡ old.book
        → ((volatile : VolatileState) (under : UnderWay) → Stands old volatile under
        → learned_from (quorums_of old.book.owner.members) slot old.book.records volatile.heard from
        vote ≡ None)
        → ((volatile : VolatileState) (under : UnderWay) → Stands old volatile under
        → Stands new volatile under)
        → HearsBody device old new slot (bodies.Accepted from vote) result
    unfolding on_body
    vote_unheard result is book none same volatile (under, stands) =
        rw (none volatile under stands)
        (out_of_memory volatile _ result is book (under, same volatile under stands))

    -- once its bag is recorded as known, the vote that made it so is heard too
    module _ (bag : BagId) where
      abbrev noted : Record
      noted = record { slot = slot; body = entry.Known bag }

      -- of two, some bag is the first
      first_of : (known : Option BagId) → (b : BagId) × (with_one earlier known (Some bag) ≡ Some b)
      first_of None = (bag, refl)
      first_of (Some k) = (k, refl)

      now_known : (b : BagId) × (known_of slot (old.book.records ++ noted ∷ []) ≡ Some b)
      now_known = (
        (first_of (known_of slot old.book.records)).0,
        known-push slot old.book.records noted
            ∙ ap (λ (t : Bool). with_one earlier (known_of slot old.book.records)
            (if_some known_in (cond t (Some (entry.Known bag)) None)))
            ((same_slot_decides slot slot).1 refl)
            ∙ (first_of (known_of slot old.book.records)).1,
      )

      -- the effect
      abbrev learned : VolatileState → Effect
      learned volatile = learning slot (Some bag) (hears volatile vote_message)

      refused_so : (fault : SiteFault) (volatile : VolatileState) (under : UnderWay)
          → Concludes device old new (Some noted) (Some (site_lines.Known slot bag)) [] (Err fault)
          → Stands old volatile under
          → (fault ≡ faults.Memory) ⊎ ((fault ≡ faults.Device) × IsSome (Some noted))
          → Gives old new volatile (learned volatile) (Err fault)
      refused_so fault volatile under c stands (inl is) =
          rw is (under, c.same volatile under stands)
      refused_so fault volatile under c stands (inr (is, some)) =
          rw is some

      grown : (a : Answer) → Keeps device (Some noted) (Ok a) old.book new.book
          → new.book.records ≡ old.book.records ++ noted ∷ []
      grown a (inl (e, same)) = cc
      grown a (inr c) = c.committed.0

      answered : (result : Result Answer SiteFault)
          → Concludes device old new (Some noted) (Some (site_lines.Known slot bag)) [] result
          → (volatile : VolatileState) (under : UnderWay) → Stands old volatile under
          → IsAnswered device old new volatile (learned volatile) result
      answered (Ok a) c volatile under stands =
          concluded device old old new volatile under _ _ _ (Ok a) c refl stands refl refl
          (λ after. (
            under,
            hears_known new.tables new.book.records volatile under after slot from
                vote now_known.0 (ap (known_of slot) (grown a c.keeps) ∙ now_known.1),
          ))
      answered (Err fault) c volatile under stands =
          record { keeps = c.keeps; gives = refused_so fault volatile under c stands c.faults }

      pub hears_deciding_vote : (result : Result Answer SiteFault)
          → ((volatile : VolatileState) (under : UnderWay) → Stands old volatile under
          → Some bag ≡ learned_from (quorums_of old.book.owner.members) slot old.book.records
          volatile.heard from vote)
          → Concludes device old new (Some (record { slot = slot; body = entry.Known bag }))
          (Some (site_lines.Known slot bag)) [] result
          → HearsBody device old new slot (bodies.Accepted from vote) result
      unfolding on_body
      hears_deciding_vote result some c volatile (under, stands) =
          rw (← some volatile under stands) (answered result c volatile under stands)

  -- ---- a promise
  module _ (from : ℕ) (ballot : BallotNumber) (prior : Option Vote) where
    -- the bag that it makes ready to be proposed
    abbrev now_ready : VolatileState → Option BagId
    now_ready volatile =
        ready (quorums_of old.book.owner.members) (deposit_of slot old.book.records) slot
        (volatile.current slot) volatile.heard ballot (record { site = from; prior = prior })

    abbrev promise : Message
    promise = promise_message slot from ballot prior

    abbrev vote_for : BagId → Vote
    vote_for bag = record { ballot = ballot; bag = bag }

    pub hears_promise : (a : Answer) → (a.line ≡ None) × (a.sends.items ≡ [])
        → new.book ≡ old.book
        → ((volatile : VolatileState) (under : UnderWay) → Stands old volatile under
        → None ≡ now_ready volatile)
        → ((volatile : VolatileState) (under : UnderWay) → Stands old volatile under
        → Stands new (hears volatile promise) under)
        → HearsBody device old new slot (bodies.Promise from ballot prior) (Ok a)
    unfolding on_body
    hears_promise a is book none heard volatile (under, stands) =
        rw (← none volatile under stands)
        (says_nothing volatile _ a is book (under, heard volatile under stands))

    module _ (mid : OpenSite C) (bag : BagId) where
      asked_all : (result : Result Answer SiteFault) → mid.book ≡ old.book
          → Issues mid new slot (all_datagrams mid slot (bodies.Accept (vote_for bag))) result
          → (volatile : VolatileState) (under : UnderWay)
          → Stands mid volatile (waits under slot (Some promise))
          → IsAnswered device old new volatile
          (proposing (quorums_of old.book.owner.members) slot ballot (Some bag)
          (hears volatile promise)) result
      asked_all (Ok a) book i volatile under stands = record {
        keeps = i.book ∙ book;
        gives = (
          cc ((i.says a refl).0),
          (i.says a refl).1
              ∙ ap (λ (b : OpenBook C). map (datagram b.owner.members.federation)
              (to_each slot (bodies.Accept (vote_for bag)) (members_of b.owner.members))) book,
          (
            waits (waits under slot (Some promise)) slot None,
            rw (at_here slot (Some promise) under.waiting) at (i.heard volatile _ stands),
          ),
        );
      }
      asked_all (Err fault) book i volatile under stands =
          rw i.faults (record {
            keeps = i.book ∙ book;
            gives = (waits under slot (Some promise), i.same volatile _ stands);
          })

      pub hears_last_promise : (result : Result Answer SiteFault) → mid.book ≡ old.book
          → ((volatile : VolatileState) (under : UnderWay) → Stands old volatile under
          → Some bag ≡ now_ready volatile)
          → ((volatile : VolatileState) (under : UnderWay) → Stands old volatile under
          → Stands mid volatile (waits under slot (Some promise)))
          → Issues mid new slot
          (all_datagrams mid slot (bodies.Accept (record { ballot = ballot; bag = bag }))) result
          → HearsBody device old new slot (bodies.Promise from ballot prior) result
      unfolding on_body
      hears_last_promise result book some waiting i volatile (under, stands) =
          rw (← some volatile under stands)
          (asked_all result book i volatile under (waiting volatile under stands))

  -- ---- a question
  module _ (from : ℕ) where
    abbrev asking : Message
    asking = record { slot = slot; body = bodies.Ask from }

    hears_question : new ≡ old → (volatile : VolatileState) (under : UnderWay)
        → Stands old volatile under
        → Stands new (hears volatile asking) under
    hears_question same volatile under stands =
        hears_other _ _ volatile under (rw same stands) asking (λ b. refl) refl (λ v. refl)

    pub hears_ask : (a : Answer) → (a.line ≡ None) × (a.sends.items ≡ []) → new ≡ old
        → None ≡ known_of slot old.book.records
        → HearsBody device old new slot (bodies.Ask from) (Ok a)
    unfolding on_body
    hears_ask a is same none volatile (under, stands) =
        rw (← none)
        (says_nothing volatile _ a is (cc) (under, hears_question same volatile under stands))

    pub tells : (a : Answer) (bag : BagId) → a.line ≡ None
        → map handed_out a.sends.items
        ≡ one_datagram old slot (bodies.Known old.book.owner.site bag) from
        → new ≡ old → Some bag ≡ known_of slot old.book.records
        → HearsBody device old new slot (bodies.Ask from) (Ok a)
    unfolding on_body
    tells a bag silent sent same some volatile (under, stands) =
        rw (← some) (record {
          keeps = cc;
          gives = (cc, sent, (under, hears_question same volatile under stands));
        })

  -- ---- a request of a client, or the reply to one
  pub drops_request : (body : Body) → IsRequest body → (a : Answer)
      → (a.line ≡ Some site_lines.Dropped) × (a.sends.items ≡ []) → new ≡ old
      → HearsBody device old new slot body (Ok a)
  unfolding on_body
  drops_request (bodies.Deposit path) is a dropped same volatile stands =
      says_dropped device old new volatile a dropped same stands
  drops_request bodies.Query is a dropped same volatile stands =
      says_dropped device old new volatile a dropped same stands
  drops_request bodies.Recover is a dropped same volatile stands =
      says_dropped device old new volatile a dropped same stands
  drops_request (bodies.DepositReply from answer) is a dropped same volatile stands =
      says_dropped device old new volatile a dropped same stands
  drops_request (bodies.QueryReply from answer) is a dropped same volatile stands =
      says_dropped device old new volatile a dropped same stands
  drops_request _ is a dropped same volatile stands = absurd is

-- ---- what arrives
module _ {C : Type 0} (device : C → Device) (old new : OpenSite C) where
  abbrev arrived : VolatileState → Option Message → Effect
  arrived volatile message =
      on_arrival (quorums_of old.book.owner.members) old.book.owner.site old.book.records volatile
      message

  -- a message of a member is heard
  pub takes_in : (m : Message) (result : Result Answer SiteFault)
      → is_member (quorums_of old.book.owner.members) (body_from m.body) ≡ true
      → HearsBody device old new m.slot m.body result
      → (volatile : VolatileState) → Represents old volatile
      → IsAnswered device old new volatile (arrived volatile (Some m)) result
  unfolding on_arrival
  takes_in m result member hears_body volatile stands =
      rw member (hears_body volatile stands)

  -- any other is dropped
  pub drops : (m : Message) (a : Answer)
      → is_member (quorums_of old.book.owner.members) (body_from m.body) ≡ false
      → (a.line ≡ Some site_lines.Dropped) × (a.sends.items ≡ []) → new ≡ old
      → (volatile : VolatileState) → Represents old volatile
      → IsAnswered device old new volatile (arrived volatile (Some m)) (Ok a)
  unfolding on_arrival
  drops m a stranger dropped same volatile stands =
      rw stranger (says_dropped device old new volatile a dropped same stands)

  -- and so is what is no message
  pub drops_bytes : (o : Option Message) (a : Answer) → o ≡ None
      → (a.line ≡ Some site_lines.Dropped) × (a.sends.items ≡ []) → new ≡ old
      → (volatile : VolatileState) → Represents old volatile
      → IsAnswered device old new volatile (arrived volatile o) (Ok a)
  unfolding on_arrival
  drops_bytes o a none dropped same volatile stands =
      rw none (says_dropped device old new volatile a dropped same stands)

  -- what is answered needs no opening
  pub is_open : (m : Message) (result : Result Answer SiteFault)
      → HearsBody device old new m.slot m.body result → IsInOrder old
      → IsErrOf result faults.NeedsOpen → ⊥
  is_open m result hears_body order fault =
      rw fault at (hears_body order.volatile.0 order.volatile.1).gives

-- ---- what an answer says, of the answer that is given
pub says_so : (a b : Answer) (line : Option Line) (datagrams : List (ℕ × List ℕ))
    → ◌≡◌ {A = Result Answer SiteFault} (Ok a) (Ok b)
    → (a.line ≡ line) × (map handed_out a.sends.items ≡ datagrams)
    → (b.line ≡ line) × (map handed_out b.sends.items ≡ datagrams)
says_so a b line datagrams e is =
    let same : a ≡ b = cc in rw same at is
