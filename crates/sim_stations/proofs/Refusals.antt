-- A refusal brings about nothing else.
use Rattle.std.specs.Prelude.{◌≡◌, ℕ, Bool, true, false, List, Option, Some, None, Ok, Err}
use Rattle.std.proofs.Common.{cond}
use Rattle.fed_types.specs.declared.bag_id.BagId.{BagId}
use Rattle.fed_types.specs.Ballots.{BallotNumber}
use Rattle.fed_types.specs.Quorums.{QuorumSystem}
use Rattle.fed_types.specs.Slots.{SlotName}
use Rattle.dgram.specs.declared.body.Body.{Body}
use Rattle.dgram.specs.declared.body.Body.TheVariants as bodies
use Rattle.dgram.specs.declared.message.Message.{Message}
use Rattle.dgram.specs.Encoding.{body_from}
use Rattle.records.specs.declared.record.Record.{Record}
use Rattle.records.specs.SlotStates.{deposit_of, known_of}
use Rattle.proposer.specs.Proposals.{ready}
use Rattle.proposer.specs.VolatileStates.{VolatileState, hears}
use Rattle.learner.specs.LearnedBags.{learned_from, learned_of_known}
use Rattle.site.specs.declared.answer.Line.TheVariants as site_lines
use Rattle.site.specs.declared.fault.SiteFault.{SiteFault}
use Rattle.site.specs.Arrivals.{on_arrival, on_body, proposing, learning, telling, is_member}
use Rattle.site.specs.Calls.{Input, Deposits, Proposes, Recovers, Asks, Arrives, effect_of}
use Rattle.site.specs.Calls.{on_deposit, on_propose, on_recover, on_ask, registering}
use Rattle.site.specs.Calls.{begins_next, begins_ballot_if, recovers_if}
use Rattle.site.specs.Effects.{Effect, refuses, only_says}

-- where it refuses, it does no more
abbrev pub RefusesOnly : VolatileState → Effect → Type 0
RefusesOnly volatile e = (fault : SiteFault) → e.says ≡ Err fault → e ≡ refuses fault volatile

module _ (q : QuorumSystem) (site : ℕ) (records : List Record) (volatile : VolatileState) where
  module _ (slot : SlotName) where
    registers : (own : Option BagId) (bag : BagId) (f : Option SiteFault)
        → RefusesOnly volatile (registering slot own bag f volatile)
    registers own bag (Some f) = λ fault e. cc
    registers own bag None = λ fault e. cc

    begins : (next : Option BallotNumber) → RefusesOnly volatile (begins_next q slot next volatile)
    begins None = λ fault e. cc
    begins (Some ballot) = λ fault e. cc

    begins_if : (known own : Option BagId) (next : Option BallotNumber)
        → RefusesOnly volatile (begins_ballot_if q slot known own next volatile)
    begins_if (Some known) own next = λ fault e. cc
    begins_if None None next = λ fault e. cc
    begins_if None (Some own) next = begins next

    recovers : (known : Option BagId) (has : Bool) (next : Option BallotNumber)
        → RefusesOnly volatile (recovers_if q slot known has next volatile)
    recovers (Some known) has next = λ fault e. cc
    recovers None false next = λ fault e. cc
    recovers None true next = begins next

  module _ (slot : SlotName) (now : VolatileState) where
    proposes : (ballot : BallotNumber) (bag : Option BagId)
        → RefusesOnly volatile (proposing q slot ballot bag now)
    proposes ballot None = λ fault e. cc
    proposes ballot (Some bag) = λ fault e. cc

    learns : (bag : Option BagId) → RefusesOnly volatile (learning slot bag now)
    learns None = λ fault e. cc
    learns (Some bag) = λ fault e. cc

    tells : (asker : ℕ) (bag : Option BagId)
        → RefusesOnly volatile (telling site slot asker bag now)
    tells asker None = λ fault e. cc
    tells asker (Some bag) = λ fault e. cc

    on_body_refuses : (body : Body)
        → RefusesOnly volatile (on_body q site records volatile now slot body)
    unfolding on_body
    on_body_refuses (bodies.Promise from ballot prior) = proposes ballot
        (ready q (deposit_of slot records) slot (volatile.current slot) volatile.heard ballot
        (record { site = from; prior = prior }))
    on_body_refuses (bodies.Accepted from vote) =
        learns (learned_from q slot records volatile.heard from vote)
    on_body_refuses (bodies.Known from bag) = learns (learned_of_known slot records bag)
    on_body_refuses (bodies.Ask from) = tells from (known_of slot records)
    on_body_refuses _ = λ fault e. cc

  arrives : (m : Message) (of_member : Bool) → RefusesOnly volatile (cond of_member
      (on_body q site records volatile (hears volatile m) m.slot m.body)
      (only_says site_lines.Dropped volatile))
  arrives m true = on_body_refuses m.slot (hears volatile m) m.body
  arrives m false = λ fault e. cc

  -- no input brings about more than its refusal, where it is refused
  pub refuses_only : (input : Input)
      → RefusesOnly volatile (effect_of q site records volatile input)
  unfolding on_deposit on_propose on_recover on_ask on_arrival
  refuses_only (Deposits slot (Err fault)) = λ fault e. cc
  refuses_only (Deposits slot (Ok bag)) = registers slot _ bag _
  refuses_only (Proposes slot) = begins_if slot _ _ _
  refuses_only (Recovers slot) = recovers slot _ _ _
  refuses_only (Asks slot member) = λ fault e. cc
  refuses_only (Arrives None) = λ fault e. cc
  refuses_only (Arrives (Some m)) = arrives m (is_member q (body_from m.body))
