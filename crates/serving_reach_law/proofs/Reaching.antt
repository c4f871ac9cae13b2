-- A decision is within reach of sites that serve.
use Rattle.std.proofs.Common.{ℕ, ◌≡◌, ◌+◌, ◌*◌, inl, inr, refl, sym, ap, subst, ◌∙◌, List, length}
use Rattle.std.proofs.Common.{Option, None, Some, arith}
use Rattle.std.specs.Prelude.{IsSome}
use Rattle.fed_types.specs.declared.bag_id.BagId.{BagId}
use Rattle.fed_types.specs.declared.vote.Vote.{Vote}
use Rattle.fed_types.specs.Lists.{Has}
use Rattle.fed_types.specs.Quorums.{QuorumSystem, AreQuorums, quorums_of}
use Rattle.fed_types.specs.Sites.{Membership}
use Rattle.fed_types.specs.Slots.{SlotName}
use Rattle.fed_types.specs.Values.{IsSlot}
use Rattle.fed_types.specs.Laws.Lists.{has_none}
use Rattle.fed_types.specs.Laws.Quorums.{are_quorums}
use Rattle.cell_device.specs.Devices.{Device}
use Rattle.records.specs.declared.entry.Entry.{Entry}
use Rattle.records.specs.declared.entry.Entry.TheVariants as entry
use Rattle.records.specs.declared.record.Record.{Record}
use Rattle.records.specs.Bounds.{HasEntry}
use Rattle.records.specs.Records.{IsRecord, AreRecords}
use Rattle.records.specs.SlotStates.{vote_of, deposit_of, known_of}
use Rattle.records.proofs.Bounds.{vote_among, deposit_among, known_among}
use Rattle.world_law.specs.Laws.{IsChosen}
use Rattle.world_law.specs.Networks.{Network, SiteState, new_network, run}
use Rattle.world_law.proofs.Grows.{chosen_grows, grows_itself}
use Rattle.world_law.proofs.Induction.{chosen_once}
use Rattle.world_law.proofs.WellFormedWords.{all_has}
use Rattle.reach_law.specs.Running.{records_at, HasVoteOrDeposit, CanDecide}
use Rattle.reach_law.proofs.Leads.{Leads}
use Rattle.reach_law.proofs.Reaching.{leads, known_chosen, has_voted}
use Rattle.reach_law.proofs.Words.{some_of}
use Rattle.serving_law.specs.Federations.{Member, Serves, Down, Federation, Happening}
use Rattle.serving_law.specs.Federations.{new_federation, after_all}
use Rattle.serving_law.specs.Reports.{Reports, records_of}
use Rattle.serving_law.specs.Rules.{IsHistory}
use Rattle.serving_law.proofs.Happenings.{records_are}
use Rattle.serving_law.proofs.Networks.{Stands}
use Rattle.serving_law.proofs.Scene.{OnlyNow}
use Rattle.serving_reach_law.specs.Laws.{AreRunning, HaveRounds, ADecisionIsWithinReach}
use Rattle.serving_reach_law.specs.Laws.{WhatIsChosenIsWithinReach, WhatIsReportedIsWithinReach}
use Rattle.serving_reach_law.specs.Reach.{site_of, network_of, Agree, IsWithinReach}
use Rattle.serving_reach_law.proofs.Moving.{Mirrors}
use Rattle.serving_reach_law.proofs.Reached.{Walked, Reached, from_new}
use Rattle.serving_reach_law.proofs.Replaying.{replay}

-- what a member has on record, as its site has
site_records : {C : Type 0} (m : Member C) → (site_of m).records ≡ records_of m
site_records (Serves s) = refl
site_records (Down records) = refl

some_vote : (o : Option Vote) → IsSome o → (vote : Vote) × (o ≡ Some vote)
some_vote None h = absurd (cc h)
some_vote (Some vote) h = (vote, refl)

-- what stands on well-formed record is of a slot
module _ (slot : SlotName) (records : List Record) (are : AreRecords records) where
  of_entry : (e : Entry) → HasEntry slot records e → IsSlot slot
  of_entry e h = (all_has IsRecord records are h).0

  known_slot : IsSome (known_of slot records) → IsSlot slot
  known_slot some =
      let bag = some_of (known_of slot records) some in
      of_entry (entry.Known bag.0) (known_among slot records bag.0 bag.1)

  able_slot : HasVoteOrDeposit slot records → IsSlot slot
  able_slot (inl some) =
      let vote = some_vote (vote_of slot records) some in
      of_entry (entry.Vote vote.0) (vote_among slot records vote.0 vote.1)
  able_slot (inr some) =
      let bag = some_of (deposit_of slot records) some in
      of_entry (entry.Deposit bag.0) (deposit_among slot records bag.0 bag.1)

module _ {C : Type 0} (device : C → Device) (members : Membership) (only_now : OnlyNow device)
    (addresses running : List ℕ) (history : List (Happening C)) (slot : SlotName)
    (are : AreRunning members addresses running) (may : IsHistory device members history)
  where
    abbrev q : QuorumSystem
    q = quorums_of members

    abbrev f : Federation C
    f = after_all new_federation history

    abbrev before : ℕ
    before = length f.handed

    laws : AreQuorums q
    laws = are_quorums members

    base : Walked device members are.membership only_now new_federation new_network history
    base = from_new device members are.membership only_now history may

    abbrev At : Federation C → Type 0
    At g = Reached device members are.membership only_now base.x g

    begins_at : At f
    begins_at =
        record { w = base.x; stands = base.stands; grows = grows_itself; bytes = base.bytes }

    -- the network of a federation has the records of the one that it represents
    same_records : (g : Federation C) (x : Network) → Stands device members g x → (n : ℕ)
        → records_at (network_of g) n ≡ records_at x n
    same_records g x stands n =
        site_records (g.members n)
        ∙ records_are device members are.membership only_now n (g.members n) (x.sites n)
        (stands.is n)

    slot_of : CanDecide (network_of f) running slot → IsSlot slot
    slot_of can =
        elim can.can [
          | inl known ↦ known_slot slot (records_at (network_of f) can.site) formed known
          | inr able ↦ able_slot slot (records_at (network_of f) can.site) formed able.0
        ]
      where
        formed : AreRecords (records_at (network_of f) can.site)
        formed =
            subst AreRecords (sym (same_records f base.x base.stands can.site))
            (base.stands.formed.records can.site)

    -- ---- where all that run know a bag they know one, which is that of every report before

    module _ (g : Federation C) (r : At g)
        (all : (n : ℕ) → Has n running
        → (bag : BagId) × (known_of slot (records_of (g.members n)) ≡ Some bag)) where
      known_is_chosen : (n : ℕ) (bag : BagId)
          → known_of slot (records_of (g.members n)) ≡ Some bag → IsChosen q r.w slot bag
      known_is_chosen n bag is =
          known_chosen q laws slot r.w r.stands.kept n bag
          (ap (known_of slot)
          (sym (records_are device members are.membership only_now n (g.members n) (r.w.sites n)
          (r.stands.is n)))
          ∙ is)

      once : (u v : BagId) → IsChosen q r.w slot u → IsChosen q r.w slot v → u ≡ v
      once u v c d = chosen_once q r.w laws r.stands.kept slot u v c d

      agree : Agree members.federation history running slot g
      agree =
          let some = laws.meet running running are.quorum are.quorum in
          let bag = all some.0 some.2 in
          let chosen = known_is_chosen some.0 bag.0 bag.1 in
          record {
            bag = bag.0;
            known = λ n h.
                let its = all n h in
                its.1 ∙ ap Some (once its.0 bag.0 (known_is_chosen n its.0 its.1) chosen);
            reported = λ h v has reports.
                once v bag.0 (chosen_grows r.grows (base.reports h has slot v reports)) chosen;
          }

    -- ---- a decision

    module _ (can : CanDecide (network_of f) running slot) where
      l : Leads q running slot 0 (network_of f) (10 * length running + 2)
      l = leads q laws running slot are.are_members are.quorum (network_of f) can

      begins : Mirrors members addresses before f (network_of f)
      begins = record {
        sites = λ n. refl;
        within = omega arith;
        out = λ d h. absurd (has_none h);
      }

      ends_known : (g : Federation C)
          → Mirrors members addresses before g (run q (network_of f) l.events) → (n : ℕ)
          → Has n running → (bag : BagId) × (known_of slot (records_of (g.members n)) ≡ Some bag)
      ends_known g m n h =
          let bag =
          some_of (known_of slot (records_at (run q (network_of f) l.events) n)) (l.known n h) in (
            bag.0,
            ap (known_of slot)
                (sym (site_records (g.members n))
                ∙ sym (ap (λ (s : SiteState). s.records) (m.sites n)))
                ∙ bag.1,
          )

      within_reach : IsWithinReach device members addresses history running slot
      within_reach =
          replay device members are.membership only_now addresses are.have_ports running
          are.are_members slot (slot_of can) before base.x history l.events
          (10 * length running + 2) f begins_at (network_of f) begins l.calm l.brought l.few
          (λ g r m. agree g r (λ n h. ends_known g m n h))

    -- ---- what is chosen

    chosen_within_reach : (bag : BagId) → IsChosen q (network_of f) slot bag
        → HaveRounds device members history running slot
        → IsWithinReach device members addresses history running slot
    chosen_within_reach bag chosen rounds =
        let voter = laws.meet running chosen.chosen.voters are.quorum chosen.chosen.quorum in
        within_reach (record {
          site = voter.0;
          runs = voter.2;
          can =
              inr (
                has_voted (network_of f) voter.0 slot _ (chosen.chosen.voted voter.0 voter.3),
                rounds voter.0 voter.2,
              );
        })

    chosen_there : (bag : BagId) → IsChosen q base.x slot bag → IsChosen q (network_of f) slot bag
    chosen_there bag c = record {
      ballot = c.ballot;
      chosen = record {
        voters = c.chosen.voters;
        quorum = c.chosen.quorum;
        voted = λ n h. rw (same_records f base.x base.stands n) (c.chosen.voted n h);
      };
    }

-- ---- the laws

module _ {C : Type 0} (device : C → Device) (members : Membership) (only_now : OnlyNow device)
  where
    pub a_decision : ADecisionIsWithinReach device members
    a_decision addresses running history slot are may can =
        within_reach device members only_now addresses running history slot are may can

    pub what_is_chosen : WhatIsChosenIsWithinReach device members
    what_is_chosen addresses running history slot bag are may chosen rounds =
        chosen_within_reach device members only_now addresses running history slot are may bag
        chosen
        rounds

    pub what_is_reported : WhatIsReportedIsWithinReach device members
    what_is_reported addresses running history slot bag h are may has reports rounds =
        chosen_within_reach device members only_now addresses running history slot are may bag
        (chosen_there device members only_now addresses running history slot are may bag
        ((base device members only_now addresses running history slot are may).reports h has slot
        bag
        reports))
        rounds

-- ---- where they agree, it is on what was reported

pub they_agree : {C : Type 0} (members : Membership) (running : List ℕ)
    (history : List (Happening C)) (slot : SlotName) (bag : BagId) (h : Happening C)
    (f : Federation C) (n : ℕ) → Agree members.federation history running slot f → Has h history
    → Reports members.federation h slot bag → Has n running
    → known_of slot (records_of (f.members n)) ≡ Some bag
they_agree members running history slot bag h f n agree has reports runs =
    agree.known n runs ∙ ap Some (sym (agree.reported h bag has reports))
