-- An undisturbed ballot is begun, and decided.
use Rattle.std.proofs.Common.{ℕ, ◌≡◌, ◌≤◌, ◌+◌, inr, refl, sym, ap, subst, ◌∙◌, List, [], length}
use Rattle.std.proofs.Common.{Option, Some, arith}
use Rattle.std.specs.Prelude.{nat_lt}
use Rattle.fed_types.specs.declared.bag_id.BagId.{BagId}
use Rattle.fed_types.specs.Ballots.{BallotNumber}
use Rattle.fed_types.specs.Limits.{greatest_round}
use Rattle.fed_types.specs.Lists.{Has}
use Rattle.fed_types.specs.Quorums.{QuorumSystem, IsQuorum, AreQuorums}
use Rattle.fed_types.specs.Slots.{SlotName}
use Rattle.fed_types.specs.Laws.Ballots.{Below-irreflexive, Below-asymmetric}
use Rattle.fed_types.specs.Laws.Lists.{has_none}
use Rattle.fed_types.specs.Laws.Slots.{same_slot_decides}
use Rattle.records.specs.declared.entry.Entry.TheVariants as entry
use Rattle.records.specs.declared.record.Record.{Record}
use Rattle.records.specs.SlotStates.{ballot_in, promised_of, used_of, deposit_of}
use Rattle.records.proofs.Bounds.{used_bounds}
use Rattle.dgram.specs.declared.body.Body.TheVariants.{Prepare, Accepted}
use Rattle.dgram.specs.Heard.{bodies_of, voters_for}
use Rattle.dgram.proofs.Heard.{has_message, has_accepted}
use Rattle.proposer.specs.Proposals.{next_ballot, last_round}
use Rattle.proposer.specs.VolatileStates.{VolatileState, with_current}
use Rattle.schedule.specs.declared.fate.Fate.TheVariants.{Whole}
use Rattle.site.specs.Effects.{to_each}
use Rattle.world_law.specs.Networks.{Network, Event, new_network, run}
use Rattle.world_law.specs.Networks as networks
use Rattle.world_law.proofs.Conditions.{given_if}
use Rattle.world_law.proofs.Induction.{accept_says, vote_asked}
use Rattle.world_law.proofs.Kept.{Kept}
use Rattle.world_law.proofs.Runs.{happens_kept, run_kept}
use Rattle.reach_law.specs.Undisturbed.{CanOutbid, AllArrive, AllKnow, begun, in_the_end}
use Rattle.reach_law.proofs.Words.{of_slot, said_self, promised_silent, deposit_stays, about}
use Rattle.reach_law.proofs.Words.{to_each_has, some_of, too_many}
use Rattle.reach_law.proofs.Leads.{Took, took_stay, took_volatile, took_up, took_later, took_new}
use Rattle.reach_law.proofs.Leads.{propose_took}
use Rattle.dgram.specs.declared.body.Body.{Body}
use Rattle.reach_law.proofs.Arrived.{news_each, kinds_more}
use Rattle.reach_law.proofs.Undisturbed.{Inv, KindOf, all_know}
use Rattle.reach_law.proofs.Promising.{vote_for, none_gathered}
use Rattle.reach_law.specs.Running.{records_at, volatile_at, AreMembers}

module _ (q : QuorumSystem) (laws : AreQuorums q) (running : List ℕ) (slot : SlotName)
    (members : AreMembers q running) (quorum : IsQuorum q running) (w : Network) (kept : Kept q w)
    (p : ℕ) (can : CanOutbid w running slot p) where
  abbrev before : ℕ
  before = length w.sent

  abbrev old : ℕ
  old = length (volatile_at w p).heard

  abbrev b : BallotNumber
  b = can.ballot

  abbrev own : (bag : BagId) × (deposit_of slot (records_at w p) ≡ Some bag)
  own = some_of (deposit_of slot (records_at w p)) can.ready.deposit

  abbrev made : BallotNumber
  made = record { round = 1 + last_round slot (records_at w p) (volatile_at w p).heard; site = p }

  is_made : made ≡ b
  unfolding next_ballot
  is_made =
      (given_if (nat_lt (last_round slot (records_at w p) (volatile_at w p).heard) greatest_round)
      made b can.next).1

  mine : b.site ≡ p
  mine = ap (λ (c : BallotNumber). c.site) (sym is_made)

  abbrev x : Network
  x = begun q w slot p

  abbrev round_noted : Option Record
  round_noted = Some (of_slot slot (entry.Round b.round))

  t : Took w p round_noted (with_current (volatile_at w p) slot b)
      (to_each slot (Prepare b) q.members) x
  t = propose_took q running slot before members w p b own.0 can.ready.runs
      (can.ready.up p can.ready.runs) can.ready.unknown own.1 can.next

  promised_same : (n : ℕ) → promised_of slot (records_at x n) ≡ promised_of slot (records_at w n)
  promised_same n =
      took_stay
      (λ (rs : List Record). promised_of slot rs ≡ promised_of slot (records_at w n)) t
      (λ e.
      promised_silent slot (records_at w p) round_noted
      (said_self ballot_in slot (entry.Round b.round)) ∙ e)
      n refl

  heard_same : (m : ℕ) → (volatile_at x m).heard ≡ (volatile_at w m).heard
  heard_same m =
      took_volatile
      (λ (s : VolatileState). s.heard ≡ (volatile_at w m).heard) t (λ e. e) m refl

  -- nobody can have voted in it
  no_voter : (m n : ℕ) (v : BagId)
      → Has n (voters_for (vote_for b v) (bodies_of slot (volatile_at w m).heard)) → ⊥
  no_voter m n v has =
      let sent =
      (kept.volatiles m).heard (about slot (Accepted n (vote_for b v)))
      (has_message slot (volatile_at w m).heard (Accepted n (vote_for b v))
      (has_accepted (vote_for b v) (bodies_of slot (volatile_at w m).heard) n has)) in
      let on = kept.sent _ sent.is_sent in
      let says = accept_says kept (vote_asked kept on) in
      let used : b.round ≤ used_of slot (records_at w p) =
      subst (λ (n : ℕ). b.round ≤ used_of slot (records_at w n)) mine
      (used_bounds slot (records_at w b.site) b.round says.issued) in
      let round = ap (λ (c : BallotNumber). c.round) is_made in
      omega (arith, used, round)

  begins : Inv q laws running slot before members quorum p can.ready.runs own.0 b mine old x
  begins = record {
    kept = (happens_kept q laws w kept (networks.Propose p slot Whole)).kept;
    prepared = λ n h.
        took_new t before _ (omega arith) (to_each_has slot (Prepare b) q.members n (members n h));
    up = λ n h. took_up t n (can.ready.up n h);
    later = took_later t before (omega arith);
    deposit =
        took_stay (λ (rs : List Record). deposit_of slot rs ≡ Some own.0) t
        (λ e. deposit_stays slot (records_at w p) own.0 e round_noted) p own.1;
    is_current = rw (t.volatile_is, (same_slot_decides slot slot).1 refl) refl;
    within = rw (heard_same p) (omega arith);
    low = λ n h a e k. Below-asymmetric a b (can.above n a h (sym (promised_same n) ∙ e)) (inr k);
    answered = λ n h e. absurd (Below-irreflexive b (can.above n b h (sym (promised_same n) ∙ e)));
    kinds =
        kinds_more slot kind before t.sent
        (λ number d l was. absurd (too_many number w.sent d l was))
        (news_each slot kind q.members (Prepare b) (λ n. refl));
    asks = λ e.
        let nobody = rw (heard_same p, none_gathered slot b (volatile_at w p).heard) at e in
        let met = laws.meet [] [] nobody nobody in
        absurd (has_none met.2);
    learns = λ m h v e.
        let voters = rw (heard_same m) at e in
        let met = laws.meet _ _ voters voters in
        absurd (no_voter m met.0 v met.2);
  }
    where
      kind : (to : ℕ) → Body → Type 0
      kind = KindOf q laws running slot before members quorum p can.ready.runs own.0 b mine old x

  pub decided : (events : List Event) → AllArrive q w running slot p events
      → AllKnow (in_the_end q w slot p events) running slot
  decided events all n h =
      let knows =
      all_know q laws running slot before members quorum p can.ready.runs own.0 b mine old events x
      begins all.no_others all.each_one n h in
      rw knows.1 refl

pub undisturbed : (q : QuorumSystem) (history : List Event) (running : List ℕ) (slot : SlotName)
    (site : ℕ) (events : List Event) → AreQuorums q → AreMembers q running → IsQuorum q running
    → CanOutbid (run q new_network history) running slot site
    → AllArrive q (run q new_network history) running slot site events
    → AllKnow (in_the_end q (run q new_network history) slot site events) running slot
undisturbed q history running slot site events laws members quorum can all =
    decided q laws running slot members quorum (run q new_network history)
    (run_kept q laws history) site can events all
