-- What sites send one another is no request of a client and no reply to one.
use Rattle.std.proofs.Common.{ℕ, Bool, true, false, cond, List, [], ◌∷◌, Option, None, Some}
use Rattle.std.specs.Prelude.{Result, Ok, Err}
use Rattle.fed_types.specs.declared.bag_id.BagId.{BagId}
use Rattle.fed_types.specs.Ballots.{BallotNumber}
use Rattle.fed_types.specs.Lists.{Has}
use Rattle.fed_types.specs.Quorums.{QuorumSystem}
use Rattle.fed_types.specs.Slots.{SlotName}
use Rattle.fed_types.specs.Laws.Lists.{has_map, has_none}
use Rattle.bag_check.specs.declared.fault.BagFault.{BagFault}
use Rattle.records.specs.declared.record.Record.{Record}
use Rattle.records.specs.SlotStates.{deposit_of, known_of}
use Rattle.dgram.specs.declared.body.Body.{Body}
use Rattle.dgram.specs.declared.body.Body.TheVariants.{Prepare, Promise, Accept, Accepted, Refused}
use Rattle.dgram.specs.declared.body.Body.TheVariants.{Ask, Known, Deposit, Query, Recover}
use Rattle.dgram.specs.declared.body.Body.TheVariants.{DepositReply, QueryReply}
use Rattle.dgram.specs.declared.message.Message.{Message}
use Rattle.dgram.specs.Encoding.{body_from}
use Rattle.acceptor.specs.declared.decision.Response.{Response}
use Rattle.acceptor.specs.declared.decision.Response.TheVariants as answer
use Rattle.acceptor.specs.declared.decision.Decision.{Decision}
use Rattle.acceptor.specs.Decisions.{prepare_decision, accept_decision}
use Rattle.proposer.specs.Proposals.{ready, next_ballot}
use Rattle.proposer.specs.VolatileStates.{VolatileState, hears}
use Rattle.learner.specs.LearnedBags.{learned_from, learned_of_known}
use Rattle.site.specs.declared.fault.SiteFault.{SiteFault}
use Rattle.site.specs.Arrivals.{answer_body, addressees, decided, proposing, learning, telling}
use Rattle.site.specs.Arrivals.{on_body, on_arrival, is_member}
use Rattle.site.specs.Calls.{Input, Deposits, Proposes, Recovers, Asks, Arrives, effect_of}
use Rattle.site.specs.Calls.{registering, on_deposit, begins_next, begins_ballot_if, on_propose}
use Rattle.site.specs.Calls.{recovers_if, on_recover, on_ask}
use Rattle.site.specs.declared.answer.Line.TheVariants as site_lines
use Rattle.site.specs.Effects.{Send, to_each, only_says}

-- a body of kinds 1 to 7
abbrev pub IsSiteBody : Body → Type 0
IsSiteBody (Deposit path) = ⊥
IsSiteBody Query = ⊥
IsSiteBody Recover = ⊥
IsSiteBody (DepositReply from answer) = ⊥
IsSiteBody (QueryReply from answer) = ⊥
IsSiteBody _ = Unit {0}

-- each of these messages has one
abbrev pub Speak : List Send → Type 0
Speak sends = (d : Send) → Has d sends → IsSiteBody d.message.body

none_speak : Speak []
none_speak d h = absurd (has_none h)

each_speaks : (slot : SlotName) (body : Body) → IsSiteBody body → (sites : List ℕ)
    → Speak (to_each slot body sites)
unfolding to_each
each_speaks slot body is sites d h =
    let f = has_map
    (λ (k : ℕ). record { to = k; message = record { slot = slot; body = body } }) sites h in
    rw (← f.2) is

answer_speaks : (n : ℕ) (a : Response) → IsSiteBody (answer_body n a)
answer_speaks n (answer.Promised ballot vote) = tt
answer_speaks n (answer.Accepted vote) = tt
answer_speaks n (answer.Refused asked standing) = tt

module _ (q : QuorumSystem) (n : ℕ) (records : List Record) where
  decided_speaks : (slot : SlotName) (asker : ℕ) (d : Decision) (volatile : VolatileState)
      → Speak (decided q n slot asker d volatile).sends
  decided_speaks slot asker d volatile =
      each_speaks slot (answer_body n d.answer) (answer_speaks n d.answer)
      (addressees q asker d.answer)

  proposing_speaks : (slot : SlotName) (ballot : BallotNumber) (o : Option BagId)
      (volatile : VolatileState) → Speak (proposing q slot ballot o volatile).sends
  proposing_speaks slot ballot None volatile = none_speak
  proposing_speaks slot ballot (Some bag) volatile =
      each_speaks slot (Accept (record { ballot = ballot; bag = bag })) tt q.members

  learning_speaks : (slot : SlotName) (o : Option BagId) (volatile : VolatileState)
      → Speak (learning slot o volatile).sends
  learning_speaks slot None volatile = none_speak
  learning_speaks slot (Some bag) volatile = none_speak

  telling_speaks : (slot : SlotName) (asker : ℕ) (o : Option BagId) (volatile : VolatileState)
      → Speak (telling n slot asker o volatile).sends
  telling_speaks slot asker None volatile = none_speak
  telling_speaks slot asker (Some bag) volatile = each_speaks slot (Known n bag) tt _

  body_speaks : (old now : VolatileState) (slot : SlotName) (body : Body)
      → Speak (on_body q n records old now slot body).sends
  unfolding on_body
  body_speaks old now slot (Prepare ballot) =
      decided_speaks slot ballot.site (prepare_decision slot records ballot) now
  body_speaks old now slot (Accept vote) =
      decided_speaks slot vote.ballot.site (accept_decision slot records vote) now
  body_speaks old now slot (Promise from ballot prior) =
      proposing_speaks slot ballot
      (ready q (deposit_of slot records) slot (old.current slot) old.heard ballot
      (record { site = from; prior = prior })) now
  body_speaks old now slot (Accepted from vote) =
      learning_speaks slot (learned_from q slot records old.heard from vote) now
  body_speaks old now slot (Known from bag) =
      learning_speaks slot (learned_of_known slot records bag) now
  body_speaks old now slot (Ask from) = telling_speaks slot from (known_of slot records) now
  body_speaks old now slot _ = none_speak

  module _ (volatile : VolatileState) where
    arrival_speaks : (o : Option Message) → Speak (on_arrival q n records volatile o).sends
    unfolding on_arrival
    arrival_speaks None = none_speak
    arrival_speaks (Some m) = go (is_member q (body_from m.body))
      where
        go : (t : Bool)
            → Speak (cond t (on_body q n records volatile (hears volatile m) m.slot m.body)
            (only_says site_lines.Dropped volatile)).sends
        go true = body_speaks volatile (hears volatile m) m.slot m.body
        go false = none_speak

    registering_speaks : (slot : SlotName) (own : Option BagId) (bag : BagId)
        (fault : Option SiteFault) → Speak (registering slot own bag fault volatile).sends
    registering_speaks slot own bag None = none_speak
    registering_speaks slot own bag (Some fault) = none_speak

    deposit_speaks : (slot : SlotName) (checked : Result BagId BagFault)
        → Speak (on_deposit records volatile slot checked).sends
    unfolding on_deposit
    deposit_speaks slot (Err fault) = none_speak
    deposit_speaks slot (Ok bag) = registering_speaks slot (deposit_of slot records) bag _

    begins_speaks : (slot : SlotName) (next : Option BallotNumber)
        → Speak (begins_next q slot next volatile).sends
    begins_speaks slot None = none_speak
    begins_speaks slot (Some ballot) = each_speaks slot (Prepare ballot) tt q.members

    issuing_speaks : (slot : SlotName) (known own : Option BagId) (next : Option BallotNumber)
        → Speak (begins_ballot_if q slot known own next volatile).sends
    issuing_speaks slot (Some bag) own next = none_speak
    issuing_speaks slot None None next = none_speak
    issuing_speaks slot None (Some bag) next = begins_speaks slot next

    propose_speaks : (slot : SlotName) → Speak (on_propose q n records volatile slot).sends
    unfolding on_propose
    propose_speaks slot =
        issuing_speaks slot (known_of slot records) (deposit_of slot records)
        (next_ballot n slot records volatile.heard)

    recovering_speaks : (slot : SlotName) (known : Option BagId) (has : Bool)
        (next : Option BallotNumber) → Speak (recovers_if q slot known has next volatile).sends
    recovering_speaks slot (Some bag) has next = none_speak
    recovering_speaks slot None false next = none_speak
    recovering_speaks slot None true next = begins_speaks slot next

    recover_speaks : (slot : SlotName) → Speak (on_recover q n records volatile slot).sends
    unfolding on_recover
    recover_speaks slot =
        recovering_speaks slot (known_of slot records) _ (next_ballot n slot records volatile.heard)

    ask_speaks : (slot : SlotName) (member : ℕ) → Speak (on_ask n volatile slot member).sends
    unfolding on_ask
    ask_speaks slot member = each_speaks slot (Ask n) tt (member ∷ [])

    pub effect_speaks : (input : Input) → Speak (effect_of q n records volatile input).sends
    effect_speaks (Deposits slot checked) = deposit_speaks slot checked
    effect_speaks (Proposes slot) = propose_speaks slot
    effect_speaks (Recovers slot) = recover_speaks slot
    effect_speaks (Asks slot member) = ask_speaks slot member
    effect_speaks (Arrives message) = arrival_speaks message
