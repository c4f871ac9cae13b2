-- Every history represents a network, in which all that was reported is chosen.
use Rattle.std.proofs.Common.{ℕ, ◌≡◌, ◌⊎◌, inl, inr, refl, ap, List, [], ◌∷◌, ◌++◌, Option}
use Rattle.std.specs.Prelude.{Result}
use Rattle.bag_tree.specs.declared.fault.TreeFault.{TreeFault}
use Rattle.bag_tree.specs.Facts.{TreeFacts}
use Rattle.fed_types.specs.declared.bag_id.BagId.{BagId}
use Rattle.fed_types.specs.Lists.{Has, here, there}
use Rattle.fed_types.specs.Quorums.{QuorumSystem, AreQuorums}
use Rattle.fed_types.specs.Sites.{Membership}
use Rattle.fed_types.specs.Slots.{SlotName}
use Rattle.fed_types.specs.Values.{IsMembership}
use Rattle.fed_types.specs.Laws.Lists.{has_none, has_right}
use Rattle.fed_types.specs.Laws.Quorums.{are_quorums}
use Rattle.cell_device.specs.Devices.{Device}
use Rattle.records.specs.declared.entry.Entry.{Entry}
use Rattle.records.specs.declared.entry.Entry.TheVariants as entry
use Rattle.records.specs.Bounds.{HasEntry}
use Rattle.world_law.specs.Laws.{IsChosen}
use Rattle.world_law.specs.Networks.{Network, new_network, new_site}
use Rattle.world_law.proofs.Grows.{Grows, grows_itself, chosen_grows}
use Rattle.world_law.proofs.Induction.{chosen_once, chosen_came}
use Rattle.world_law.proofs.Runs.{new_kept}
use Rattle.world_law.proofs.WellFormed.{new_is_well_formed}
use Rattle.udp_site.specs.Requests.{request_of}
use Rattle.udp_site.specs.Turns as turns
use Rattle.udp_site.specs.Turns.{Serving, turn_of}
use Rattle.udp_site.specs.Served.{Turned}
use Rattle.serving_law.specs.Federations.{Federation, Step, Happening, new_federation, after}
use Rattle.serving_law.specs.Federations.{after_all}
use Rattle.serving_law.specs.Laws.{WasDeposited, ReportsAgree, ReportsWereDeposited}
use Rattle.serving_law.specs.Laws.{RegisteredStays, KnownStays, TurnsMayHappen, IsStep}
use Rattle.serving_law.specs.Reports.{Reports, Registers, SaysKnown, IsDeposit, records_of}
use Rattle.serving_law.specs.Rules.{May, MayAll, MayCome, IsServing, Takes}
use Rattle.serving_law.proofs.Scene.{OnlyNow}
use Rattle.serving_law.proofs.Networks.{quorums, HasDeposit, HasKnown, Stands}
use Rattle.serving_law.proofs.Happenings.{Went, went, records_are, goes_on, stands_then, HasFolders}
use Rattle.serving_law.proofs.Happenings.{with_folders}

grows_then : {w x y : Network} → Grows w x → Grows x y → Grows w y
grows_then g h = record {
  sent = λ d s. h.sent d (g.sent d s);
  kept = λ n slot e k. h.kept n slot e (g.kept n slot e k);
  votes = λ n slot vote b k promised. elim (h.votes n slot vote b k (g.kept n slot _ promised)) [
    | inl old ↦ g.votes n slot vote b old promised
    | inr above ↦ inr above
  ];
}

-- a new network has no deposits
none_new : (n : ℕ) (slot : SlotName) (bag : BagId) → HasDeposit new_network n slot bag → ⊥
unfolding new_network new_site
none_new n slot bag d = has_none d

module _ {C : Type 0} (device : C → Device) (members : Membership)
    (is_membership : IsMembership members) (only_now : OnlyNow device)
  where
    abbrev q : QuorumSystem
    q = quorums device members

    -- one of these happenings, from a federation on, is a deposit of the bag for the slot
    record Made (f : Federation C) (history : List (Happening C)) (slot : SlotName) (bag : BagId)
        : Type 0 where
      before : List (Happening C)
      happening : Happening C
      later : List (Happening C)
      split : history ≡ before ++ happening ∷ later
      is : IsDeposit members.federation (after_all f before) happening slot bag

    -- what a history leads to
    record Led (f : Federation C) (history : List (Happening C)) (w : Network) : Type 0 where
      x : Network
      stands : Stands device members (after_all f history) x
      grows : Grows w x
      reports : (h : Happening C) → Has h history → (slot : SlotName) (bag : BagId)
          → Reports members.federation h slot bag → IsChosen q x slot bag
      registers : (h : Happening C) → Has h history → (n : ℕ) (slot : SlotName) (bag : BagId)
          → Registers members.federation h n slot bag → HasDeposit x n slot bag
      knows : (h : Happening C) → Has h history → (n : ℕ) (slot : SlotName) (bag : BagId)
          → SaysKnown members.federation h n slot bag → HasKnown x n slot bag
      deposits : (n : ℕ) (slot : SlotName) (bag : BagId) → HasDeposit x n slot bag
          → HasDeposit w n slot bag ⊎ Made f history slot bag

    -- one happening, and then others
    module _ (h : Happening C) (history : List (Happening C)) (f : Federation C) (w : Network)
        (first : Went device members is_membership only_now f h w)
        (rest : Led (after f h) history first.x) where
      reported : (g : Happening C) → Has g (h ∷ history) → (slot : SlotName) (bag : BagId)
          → Reports members.federation g slot bag → IsChosen q rest.x slot bag
      reported g (here e) slot bag r =
          chosen_grows (grows_then first.grows rest.grows) (first.reports slot bag (rw (← e) at r))
      reported g (there has) slot bag r = rest.reports g has slot bag r

      registered : (g : Happening C) → Has g (h ∷ history) → (n : ℕ) (slot : SlotName) (bag : BagId)
          → Registers members.federation g n slot bag → HasDeposit rest.x n slot bag
      registered g (here e) n slot bag r =
          rest.grows.kept n slot (entry.Deposit bag) (first.registers n slot bag (rw (← e) at r))
      registered g (there has) n slot bag r = rest.registers g has n slot bag r

      known : (g : Happening C) → Has g (h ∷ history) → (n : ℕ) (slot : SlotName) (bag : BagId)
          → SaysKnown members.federation g n slot bag → HasKnown rest.x n slot bag
      known g (here e) n slot bag r =
          rest.grows.kept n slot (entry.Known bag) (first.knows n slot bag (rw (← e) at r))
      known g (there has) n slot bag r = rest.knows g has n slot bag r

      made_now : (slot : SlotName) (bag : BagId) → IsDeposit members.federation f h slot bag
          → Made f (h ∷ history) slot bag
      unfolding after_all
      made_now slot bag d =
          record { before = []; happening = h; later = history; split = refl; is = d }

      made_later : (slot : SlotName) (bag : BagId) → Made (after f h) history slot bag
          → Made f (h ∷ history) slot bag
      unfolding after_all
      made_later slot bag m = record {
        before = h ∷ m.before;
        happening = m.happening;
        later = m.later;
        split = ap (λ (hs : List (Happening C)). h ∷ hs) m.split;
        is = m.is;
      }

      led_more : Led f (h ∷ history) w
      unfolding after_all
      led_more = record {
        x = rest.x;
        stands = rest.stands;
        grows = grows_then first.grows rest.grows;
        reports = reported;
        registers = registered;
        knows = known;
        deposits = λ n slot bag d. elim (rest.deposits n slot bag d) [
          | inl then ↦ elim (first.deposits n slot bag then) [
            | inl before ↦ inl before
            | inr made ↦ inr (made_now slot bag made)
          ]
          | inr made ↦ inr (made_later slot bag made)
        ];
      }

    led : (history : List (Happening C)) (f : Federation C) (w : Network)
        → Stands device members f w → MayAll device members f history → Led f history w
    unfolding after_all MayAll
    led [] f w stands may = record {
      x = w;
      stands = stands;
      grows = grows_itself;
      reports = λ h has. absurd (has_none has);
      registers = λ h has. absurd (has_none has);
      knows = λ h has. absurd (has_none has);
      deposits = λ n slot bag d. inl d;
    }
    led (h ∷ history) f w stands may =
        let first = went device members is_membership only_now f w stands h may.0 in
        led_more h history f w first (led history (after f h) first.x first.stands may.1)

    -- ---- from new cells

    new_stands : Stands device members new_federation new_network
    unfolding new_federation new_network new_site
    new_stands = record {
      kept = new_kept q;
      formed = new_is_well_formed;
      is = λ n. refl;
      handed = λ port bytes h. absurd (has_none h);
    }

    from_new : (history : List (Happening C)) → MayAll device members new_federation history
        → Led new_federation history new_network
    from_new history may = led history new_federation new_network new_stands may

    -- a history, and one happening after it
    may_split : (before : List (Happening C)) (h : Happening C) (later : List (Happening C))
        (f : Federation C) → MayAll device members f (before ++ h ∷ later)
        → MayAll device members f before × May device members (after_all f before) h
    unfolding after_all MayAll
    may_split [] h later f may = (tt, may.0)
    may_split (g ∷ before) h later f may =
        let rest = may_split before h later (after f g) may.1 in
        ((may.0, rest.0), rest.1)

    made : (history : List (Happening C)) (l : Led new_federation history new_network) (n : ℕ)
        (slot : SlotName) (bag : BagId) → HasDeposit l.x n slot bag
        → WasDeposited members.federation history slot bag
    made history l n slot bag d = elim (l.deposits n slot bag d) [
      | inl old ↦ absurd (none_new n slot bag old)
      | inr m ↦ record {
        before = m.before;
        happening = m.happening;
        later = m.later;
        split = m.split;
        is = m.is;
      }
    ]

    -- what is on record in the network is so in the federation
    on_record : (history : List (Happening C)) (l : Led new_federation history new_network) (n : ℕ)
        (slot : SlotName) (e : Entry) → HasEntry slot (l.x.sites n).records e
        → HasEntry slot (records_of ((after_all new_federation history).members n)) e
    on_record history l n slot e h =
        rw (records_are device members is_membership only_now n
        ((after_all new_federation history).members n) (l.x.sites n) (l.stands.is n)) h

-- ---- the laws

module _ {C : Type 0} (device : C → Device) (members : Membership) (only_now : OnlyNow device) where
  abbrev its_quorums : QuorumSystem
  its_quorums = quorums device members

  pub reports_agree : ReportsAgree device members
  reports_agree history g h slot u v is may i j r s =
      let l = from_new device members is only_now history may in
      chosen_once its_quorums l.x (are_quorums members) l.stands.kept slot u v
      (l.reports g i slot u r) (l.reports h j slot v s)

  pub reports_were_deposited : ReportsWereDeposited device members
  reports_were_deposited before later h slot bag is may r =
      let split = may_split device members is only_now before h later new_federation may in
      let l = from_new device members is only_now before split.0 in
      let next = went device members is only_now (after_all new_federation before) l.x l.stands h
      split.1 in
      chosen_came its_quorums (are_quorums members) l.x l.stands.kept
      (WasDeposited members.federation before) (made device members is only_now before l) slot bag
      (next.reports slot bag r)

  pub turns_may_happen : TurnsMayHappen device members
  turns_may_happen history n old next addresses gives turn is may serving come comes =
      let l = from_new device members is only_now history may in
      let folders = with_folders device addresses old next turn.done gives
      (request_of (turns.members old).federation turn.took) comes in
      let step : Step C =
      record { addresses = addresses; folders = folders.0; turn = turn; next = next } in
      let takes : Takes device members (after_all new_federation history) old step =
      record { may_come = come; comes = folders.2 } in (
        folders.0,
        folders.1,
        takes,
        goes_on device members is only_now (after_all new_federation history) l.x l.stands n
            serving.0 old serving.1 step takes,
        stands_then device members is only_now (after_all new_federation history) l.x l.stands n
            serving.0 old serving.1 step takes,
      )

  pub registered_stays : RegisteredStays device members
  registered_stays before later h n slot bag is may r =
      let l = from_new device members is only_now (before ++ h ∷ later) may in
      on_record device members is only_now (before ++ h ∷ later) l n slot (entry.Deposit bag)
      (l.registers h (has_right before (here refl)) n slot bag r)

  pub known_stays : KnownStays device members
  known_stays before later h n slot bag is may r =
      let l = from_new device members is only_now (before ++ h ∷ later) may in
      on_record device members is only_now (before ++ h ∷ later) l n slot (entry.Known bag)
      (l.knows h (has_right before (here refl)) n slot bag r)
