-- What a site does with an input agrees with a network that is kept: what all inputs share.
use Rattle.std.proofs.Common.{ℕ, ◌≡◌, true, inl, inr, refl, ap, subst, List, [], ◌∷◌}
use Rattle.std.proofs.Common.{Option, None, Some, arith, length-append}
use Rattle.std.specs.Prelude.{Ok}
use Rattle.fed_types.specs.declared.bag_id.BagId.{BagId}
use Rattle.fed_types.specs.Ballots.{BallotNumber}
use Rattle.fed_types.specs.Lists.{Has}
use Rattle.fed_types.specs.Quorums.{QuorumSystem, AreQuorums, IsQuorum}
use Rattle.fed_types.specs.Slots.{SlotName}
use Rattle.fed_types.specs.Laws.Lists.{has_cases, has_one, has_none, has_map}
use Rattle.records.specs.declared.entry.Entry.{Entry}
use Rattle.records.specs.declared.record.Record.{Record}
use Rattle.dgram.specs.declared.body.Body.{Body}
use Rattle.dgram.specs.declared.body.Body.TheVariants.{Accept, Ask}
use Rattle.dgram.specs.declared.message.Message.{Message}
use Rattle.dgram.specs.Encoding.{body_from}
use Rattle.dgram.specs.Heard.{promisers}
use Rattle.proposer.specs.Proposals.{Current, gathered}
use Rattle.proposer.specs.VolatileStates.{VolatileState, hears}
use Rattle.site.specs.Arrivals.{is_member}
use Rattle.site.specs.Calls.{Input}
use Rattle.site.specs.Calls as inputs
use Rattle.site.specs.Effects.{Effect, Send, to_each, record_of}
use Rattle.world_law.specs.Laws.{WasSent, IsChosen}
use Rattle.lines.specs.Notices.{notice_of}
use Rattle.world_law.specs.Networks.{Network}
use Rattle.world_law.proofs.Heard.{gathered_stays}
use Rattle.world_law.proofs.Kept.{Remembers}
use Rattle.world_law.proofs.Step.{Extends, Deposits, NewEntry, NewBody, Carries, Sound, IsNew}
use Rattle.world_law.proofs.Step.{Recalls, ReportsChosen}

-- the deposit that an input may make: that of a tree that is a valid bag
abbrev pub MayDeposit : Input → Deposits
MayDeposit (inputs.Deposits slot checked) s bag = (slot ≡ s) × (checked ≡ Ok bag)
MayDeposit _ s bag = ⊥

-- what a site does with an input agrees with the network
pub record Deed (q : QuorumSystem) (w : Network) (n : ℕ) (input : Input) (e : Effect) : Type 0 where
  pub slot : SlotName
  pub body : Body
  pub sound : Sound q w n (MayDeposit input) e.commits slot body e.sends
  pub recalls : Recalls q w n e.commits slot body e.volatile
  pub reports : ReportsChosen q w (notice_of n input e.says)

pub some_same : {A : Type 0} {x y : A} → Some x ≡ Some y → x ≡ y
some_same e = cc

pub same_entry : {slot k : SlotName} {e f : Entry}
    → record_of slot (Some e) ≡ Some (record { slot = k; body = f }) → e ≡ f
same_entry h = ap (λ (r : Record). r.body) (some_same h)

pub sent_extends : {w x : Network} {n : ℕ} {kept : Option Record} {slot : SlotName} {body : Body}
    → Extends w x n kept → WasSent w slot body → WasSent x slot body
sent_extends e s = record { to = s.to; is_sent = e.sent _ s.is_sent }

pub chosen_extends : {q : QuorumSystem} {w x : Network} {n : ℕ} {kept : Option Record}
    {slot : SlotName} {bag : BagId}
    → Extends w x n kept → IsChosen q w slot bag → IsChosen q x slot bag
chosen_extends e c = record {
  ballot = c.ballot;
  chosen = record {
    voters = c.chosen.voters;
    quorum = c.chosen.quorum;
    voted = λ k h. e.keeps k _ _ (c.chosen.voted k h);
  };
}

-- ---- messages of one body

pub carries_each : (slot : SlotName) (body : Body) (sites : List ℕ) (d : Send)
    → Has d (to_each slot body sites) → Carries slot body d
unfolding to_each
carries_each slot body sites d h =
    let f = has_map
    (λ (k : ℕ). record { to = k; message = record { slot = slot; body = body } }) sites h in
    record { to = f.0; is = f.2 }

module _ (q : QuorumSystem) (w : Network) (n : ℕ) (D : Deposits) where
  -- messages of one body, and no record
  pub only_sends : (slot : SlotName) (body : Body) (sends : List Send)
      → ((d : Send) → Has d sends → Carries slot body d) → body_from body ≡ Some n
      → ((x : Network) → Extends w x n None → NewBody q w x n slot body)
      → Sound q w n D None slot body sends
  only_sends slot body sends each own says =
      record { each = each; own = own; entry = λ r e. absurd (cc e); says = says }

  pub nothing_sent : (slot : SlotName) → Sound q w n D None slot (Ask n) []
  nothing_sent slot =
      only_sends slot (Ask n) [] (λ d h. absurd (has_none h)) refl (λ x e. tt)

  -- a record, and messages of one body
  pub keeps_one : (slot : SlotName) (e : Entry) (body : Body) (sends : List Send)
      → ((d : Send) → Has d sends → Carries slot body d) → body_from body ≡ Some n
      → ((x : Network) → Extends w x n (record_of slot (Some e)) → NewEntry q w x n D slot e)
      → ((x : Network) → Extends w x n (record_of slot (Some e)) → NewBody q w x n slot body)
      → Sound q w n D (record_of slot (Some e)) slot body sends
  keeps_one slot e body sends each own entry says = record {
    each = each;
    own = own;
    entry = λ r f x g.
        rw (← some_same f) (entry x g);
    says = says;
  }

-- ---- what is remembered

-- at site n, whose volatile state was this one
module _ (q : QuorumSystem) (w : Network) (n : ℕ) (old : VolatileState) where
  -- where the new messages propose in a current ballot, a quorum is gathered for it
  abbrev Fine : SlotName → Body → VolatileState → Type 0
  Fine slot body volatile =
      (k : SlotName) (c : Current) (bag : BagId) → volatile.current k ≡ Some c
      → IsNew slot body k c.ballot bag → IsQuorum q (promisers (gathered k c volatile.heard))

  -- with a member's message that was sent heard besides
  pub hears_recalls : AreQuorums q → Remembers q w n old → (m : Message)
      → WasSent w m.slot m.body → is_member q (body_from m.body) ≡ true
      → (kept : Option Record) (slot : SlotName) (body : Body)
      → Fine slot body (hears old m) → Recalls q w n kept slot body (hears old m)
  hears_recalls laws r m sent member kept slot body fine = record {
    recalls = λ x e splits. record {
      heard = λ f h. elim (has_cases old.heard (m ∷ []) h) [
        | inl before ↦ sent_extends e (r.heard f before)
        | inr new ↦ rw (← has_one new) (sent_extends e sent)
      ];
      members = λ f h. elim (has_cases old.heard (m ∷ []) h) [
        | inl before ↦ r.members f before
        | inr new ↦ rw (← has_one new) member
      ];
      current = λ k c f.
          let was = r.current k c f in
          record {
            own = was.own;
            issued = e.keeps n k _ was.issued;
            within =
                let l = length-append old.heard (m ∷ []) in
                let o = was.within in
                omega (arith, l);
            spent = λ bag t. elim (splits k c.ballot bag t) [
              | inl g ↦
                  laws.grow _ _ (was.spent bag g)
                  (λ j member h. gathered_stays k c old.heard m was.within j h)
              | inr i ↦ fine k c bag f i
            ];
          };
    };
  }

  -- with nothing new
  pub same_recalls : Remembers q w n old → (kept : Option Record) (slot : SlotName) (body : Body)
      → Fine slot body old → Recalls q w n kept slot body old
  same_recalls r kept slot body fine = record {
    recalls = λ x e splits. record {
      heard = λ f h. sent_extends e (r.heard f h);
      members = r.members;
      current = λ k c f.
          let was = r.current k c f in
          record {
            own = was.own;
            issued = e.keeps n k _ was.issued;
            within = was.within;
            spent = λ bag t. elim (splits k c.ballot bag t) [
              | inl g ↦ was.spent bag g
              | inr i ↦ fine k c bag f i
            ];
          };
    };
  }

-- a body that proposes nothing
abbrev pub NoAccept : Body → Type 0
NoAccept (Accept vote) = ⊥
NoAccept _ = Unit {0}

pub not_new : {slot k : SlotName} {b : BallotNumber} {bag : BagId} (body : Body) → NoAccept body
    → ¬ IsNew slot body k b bag
not_new body other i = subst NoAccept i.body_is other
