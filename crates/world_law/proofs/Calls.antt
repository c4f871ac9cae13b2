-- What a site does when it is called agrees with a network that is kept.
use Rattle.std.proofs.Common.{ℕ, ◌≡◌, ◌≤◌, ◌+◌, Bool, true, false, cond, inl, inr, refl}
use Rattle.std.proofs.Common.{List, [], ◌∷◌, length, Option, None, Some, arith}
use Rattle.std.specs.Prelude.{Result, Ok, Err}
use Rattle.std.specs.Bool.{nat_lt}
use Rattle.std.proofs.lemmas.Bool.{cond_both}
use Rattle.fed_types.specs.declared.bag_id.BagId.{BagId}
use Rattle.fed_types.specs.Ballots.{BallotNumber}
use Rattle.fed_types.specs.Limits.{greatest_round}
use Rattle.fed_types.specs.Quorums.{QuorumSystem, AreQuorums}
use Rattle.fed_types.specs.Slots.{SlotName, same_slot}
use Rattle.fed_types.specs.Laws.Lists.{has_none}
use Rattle.fed_types.specs.Laws.Slots.{same_slot_decides}
use Rattle.bag_check.specs.declared.fault.BagFault.{BagFault}
use Rattle.records.specs.declared.entry.Entry.TheVariants as entry
use Rattle.records.specs.declared.record.Record.{Record}
use Rattle.records.specs.SlotStates.{used_of, deposit_of, known_of}
use Rattle.records.proofs.Bounds.{used_bounds}
use Rattle.dgram.specs.declared.body.Body.TheVariants.{Prepare, Accept, Ask}
use Rattle.proposer.specs.Proposals.{Current, last_round, next_ballot}
use Rattle.proposer.specs.VolatileStates.{VolatileState, with_current}
use Rattle.site.specs.declared.fault.SiteFault.{SiteFault}
use Rattle.site.specs.declared.fault.SiteFault.TheVariants as faults
use Rattle.site.specs.Calls.{Input, Deposits, Proposes, Recovers, Asks, registering, on_deposit}
use Rattle.site.specs.Calls.{begins_ballot, begins_next, begins_ballot_if, on_propose}
use Rattle.site.specs.Calls.{recovers_if, on_recover, on_ask}
use Rattle.site.specs.Effects.{record_of, refuses}
use Rattle.world_law.specs.Laws.{WasSent}
use Rattle.world_law.specs.Networks.{Network, volatile_in}
use Rattle.world_law.proofs.Kept as facts
use Rattle.world_law.proofs.Kept.{vote_for, IsCurrent, Kept}
use Rattle.world_law.proofs.Step.{Extends, Splits, reports_nothing, reports_plain}
use Rattle.world_law.proofs.Deeds.{Deed, some_same, sent_extends, carries_each}
use Rattle.world_law.proofs.Deeds.{only_sends, keeps_one, not_new}
use Rattle.world_law.proofs.Arrivals.{still_deed, says_deed}

module _ (q : QuorumSystem) (laws : AreQuorums q) (w : Network) (inv : Kept q w) (n : ℕ) where
  abbrev records : List Record
  records = (w.sites n).records

  abbrev before : VolatileState
  before = volatile_in (w.sites n).mode

  refuses_deed : (input : Input) (fault : SiteFault) → Deed q w n input (refuses fault before)
  refuses_deed input fault = says_deed q laws w inv n input (Err fault) (reports_plain _ refl)

  module _ (slot : SlotName) where
    -- ---- a deposit

    registering_deed : (own : Option BagId) (bag : BagId) (fault : Option SiteFault)
        → Deed q w n (Deposits slot (Ok bag)) (registering slot own bag fault before)
    registering_deed own bag (Some fault) = refuses_deed (Deposits slot (Ok bag)) fault
    registering_deed None bag None =
        still_deed q laws w inv n _ _ _ _ slot (Ask n) (reports_plain _ refl)
        (keeps_one q w n _ slot (entry.Deposit bag) _ _
        (λ e h. absurd (has_none h)) refl (λ x g. (refl, refl)) (λ x g. tt))
        tt
    registering_deed (Some u) bag None =
        says_deed q laws w inv n _ _ (reports_plain _ refl)

    pub deposit_deed : (checked : Result BagId BagFault)
        → Deed q w n (Deposits slot checked) (on_deposit records before slot checked)
    unfolding on_deposit
    deposit_deed (Err fault) = refuses_deed (Deposits slot (Err fault)) _
    deposit_deed (Ok bag) = registering_deed (deposit_of slot records) bag _

    -- ---- a ballot is begun, above every round that was used

    module _ (input : Input) (round : ℕ) (above : used_of slot records ≤ round) where
      abbrev b : BallotNumber
      b = record { round = 1 + round; site = n }

      abbrev new : Current
      new = record { ballot = b; heard_before = length before.heard }

      abbrev after : VolatileState
      after = with_current before slot b

      unsent : (bag : BagId) → ¬ WasSent w slot (Accept (vote_for b bag))
      unsent bag t =
          let says : facts.Proposes q w slot (vote_for b bag) = inv.sent _ t.is_sent in
          let l = used_bounds slot records (1 + round) says.issued in
          omega arith

      current_now : (x : Network) → Extends w x n (record_of slot (Some (entry.Round b.round)))
          → Splits w x slot (Prepare b) → (k : SlotName) (c : Current)
          → after.current k ≡ Some c → IsCurrent q x n k before.heard c
      current_now x g splits k c = go (same_slot slot k) refl
        where
          at_slot : IsCurrent q x n slot before.heard new
          at_slot = record {
            own = refl;
            issued = g.added _ refl;
            within = omega arith;
            spent = λ bag t. elim (splits slot b bag t) [
              | inl h ↦ absurd (unsent bag h)
              | inr i ↦ absurd (not_new (Prepare b) tt i)
            ];
          }

          go : (t : Bool) → same_slot slot k ≡ t → cond t (Some new) (before.current k) ≡ Some c
              → IsCurrent q x n k before.heard c
          go true e f =
              rw (← some_same f, ← (same_slot_decides slot k).0 e) at_slot
          go false e f =
              let old = (inv.volatiles n).current k c f in
              record {
                own = old.own;
                issued = g.keeps n k _ old.issued;
                within = old.within;
                spent = λ bag t. elim (splits k c.ballot bag t) [
                  | inl h ↦ old.spent bag h
                  | inr i ↦ absurd (not_new (Prepare b) tt i)
                ];
              }

      issuing_deed : Deed q w n input (begins_ballot q slot b before)
      issuing_deed = record {
        slot = slot;
        body = Prepare b;
        sound =
            keeps_one q w n _ slot _ _ _ (carries_each slot (Prepare b) q.members) refl
            (λ x g. tt) (λ x g. tt);
        recalls = record {
          recalls = λ x g splits. record {
            heard = λ d h. sent_extends g ((inv.volatiles n).heard d h);
            members = (inv.volatiles n).members;
            current = current_now x g splits;
          };
        };
        reports = reports_nothing;
      }

    -- the next ballot, where there is one, is such a ballot
    next_deed : (input : Input)
        → Deed q w n input
        (begins_next q slot (next_ballot n slot records before.heard) before)
    unfolding next_ballot
    next_deed input =
        let round : ℕ = last_round slot records before.heard in
        cond_both (nat_lt round greatest_round) (Some (record { round = 1 + round; site = n })) None
        (λ (next : Option BallotNumber). Deed q w n input (begins_next q slot next before))
        (λ e. issuing_deed input round (omega arith)) (λ e. refuses_deed input faults.RoundsSpent)

    -- ---- a proposal

    proposing_deed : (known own : Option BagId)
        → Deed q w n (Proposes slot)
        (begins_ballot_if q slot known own (next_ballot n slot records before.heard) before)
    proposing_deed None (Some bag) = next_deed (Proposes slot)
    proposing_deed known own = refuses_deed (Proposes slot) _

    pub propose_deed : Deed q w n (Proposes slot) (on_propose q n records before slot)
    unfolding on_propose
    propose_deed = proposing_deed (known_of slot records) (deposit_of slot records)

    -- ---- a recovery

    recovering_deed : (known : Option BagId) (has : Bool)
        → Deed q w n (Recovers slot)
        (recovers_if q slot known has (next_ballot n slot records before.heard) before)
    recovering_deed None true = next_deed (Recovers slot)
    recovering_deed known has = refuses_deed (Recovers slot) _

    pub recover_deed : Deed q w n (Recovers slot) (on_recover q n records before slot)
    unfolding on_recover
    recover_deed = recovering_deed (known_of slot records) _

    -- ---- a question
    pub ask_deed : (member : ℕ) → Deed q w n (Asks slot member) (on_ask n before slot member)
    unfolding on_ask
    ask_deed member =
        still_deed q laws w inv n _ _ _ _ _ _ reports_nothing
        (only_sends q w n _ _ _ _ (carries_each slot (Ask n) (member ∷ [])) refl (λ x g. tt)) tt
