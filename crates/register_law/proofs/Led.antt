-- What a history leads to, from any federation that a network represents.
use Rattle.std.proofs.Common.{ℕ, ◌≡◌, ◌⊎◌, inl, inr, refl, List, [], ◌∷◌, ◌++◌}
use Rattle.fed_types.specs.declared.bag_id.BagId.{BagId}
use Rattle.fed_types.specs.Lists.{Has, here, there}
use Rattle.fed_types.specs.Quorums.{quorums_of}
use Rattle.fed_types.specs.Sites.{Membership}
use Rattle.fed_types.specs.Slots.{SlotName}
use Rattle.fed_types.specs.Values.{IsMembership}
use Rattle.fed_types.specs.Laws.Lists.{has_none}
use Rattle.fed_types.specs.Laws.Quorums.{are_quorums}
use Rattle.cell_device.specs.Devices.{Device}
use Rattle.records.specs.declared.record.Record.{Record}
use Rattle.world_law.specs.Laws.{IsChosen}
use Rattle.world_law.specs.Networks.{Network}
use Rattle.world_law.proofs.Grows.{Grows, grows_itself, chosen_grows}
use Rattle.world_law.proofs.Induction.{chosen_once}
use Rattle.serving_law.specs.Federations.{Federation, Happening, after, after_all}
use Rattle.serving_law.specs.Reports.{Reports, records_of}
use Rattle.serving_law.specs.Rules.{MayAll}
use Rattle.serving_law.proofs.Scene.{OnlyNow}
use Rattle.serving_law.proofs.Networks.{HasDeposit, Stands}
use Rattle.serving_law.proofs.Happenings.{Went, went, records_are}
use Rattle.register_law.specs.Registers.{IsDecided}
use Rattle.register_law.specs.Carried.{WasDepositedSince}

grows_then : {w x y : Network} → Grows w x → Grows x y → Grows w y
grows_then g h = record {
  sent = λ d s. h.sent d (g.sent d s);
  kept = λ n slot e k. h.kept n slot e (g.kept n slot e k);
  votes = λ n slot vote b k promised. elim (h.votes n slot vote b k (g.kept n slot _ promised)) [
    | inl old ↦ g.votes n slot vote b old promised
    | inr above ↦ inr above
  ];
}

-- a history, in two parts
pub after_both : {C : Type 0} (f : Federation C) (before later : List (Happening C))
    → after_all f (before ++ later) ≡ after_all (after_all f before) later
unfolding after_all
after_both f [] later = refl
after_both f (h ∷ before) later = after_both (after f h) before later

-- what holds of the members, whatever happens to them
pub record Setting {C : Type 0} (device : C → Device) (members : Membership) : Type 0 where
  pub membership : IsMembership members
  pub only_now : OnlyNow device

module _ {C : Type 0} (device : C → Device) (members : Membership) where
  pub may_both : (f : Federation C) (before later : List (Happening C))
      → MayAll device members f (before ++ later)
      → MayAll device members f before × MayAll device members (after_all f before) later
  unfolding after_all MayAll
  may_both f [] later may = (tt, may)
  may_both f (h ∷ before) later may =
      let rest = may_both (after f h) before later may.1 in ((may.0, rest.0), rest.1)

  abbrev pub HasRecord : Federation C → (n : ℕ) → Record → Type 0
  HasRecord f n r = Has r (records_of (f.members n))

  -- all that was reported is chosen, and each record that a member had is still there
  pub record Led (f : Federation C) (history : List (Happening C)) (w : Network) : Type 0 where
    pub x : Network
    pub stands : Stands device members (after_all f history) x
    pub grows : Grows w x
    pub reports : (h : Happening C) → Has h history → (slot : SlotName) (bag : BagId)
        → Reports members.federation h slot bag → IsChosen (quorums_of members) x slot bag
    pub cells : (before later : List (Happening C)) → history ≡ before ++ later → (n : ℕ)
        (r : Record) → HasRecord (after_all f before) n r → Has r (x.sites n).records
    pub deposits : (n : ℕ) (slot : SlotName) (bag : BagId) → HasDeposit x n slot bag
        → HasDeposit w n slot bag ⊎ WasDepositedSince members.federation f history slot bag

module _ {C : Type 0} {device : C → Device} {members : Membership}
    (setting : Setting device members) where
  -- the records of a federation are those of the network that it represents
  module _ {f : Federation C} {w : Network} (stands : Stands device members f w) where
    records_same : (n : ℕ) → records_of (f.members n) ≡ (w.sites n).records
    records_same n =
        records_are device members setting.membership setting.only_now n (f.members n) (w.sites n)
        (stands.is n)

    pub in_federation : (n : ℕ) {r : Record} → Has r (w.sites n).records
        → HasRecord device members f n r
    in_federation n has = rw (records_same n) has

    in_network : (n : ℕ) {r : Record} → HasRecord device members f n r
        → Has r (w.sites n).records
    in_network n has = rw (records_same n) at has

    pub decided_chosen : {slot : SlotName} {bag : BagId} → IsDecided members f slot bag
        → IsChosen (quorums_of members) w slot bag
    decided_chosen d = record {
      ballot = d.ballot;
      chosen = record {
        voters = d.voters;
        quorum = d.quorum;
        voted = λ n among. in_network n (d.voted n among);
      };
    }

    pub chosen_decided : {slot : SlotName} {bag : BagId}
        → IsChosen (quorums_of members) w slot bag → IsDecided members f slot bag
    chosen_decided c = record {
      ballot = c.ballot;
      voters = c.chosen.voters;
      quorum = c.chosen.quorum;
      voted = λ n among. in_federation n (c.chosen.voted n among);
    }

    pub decided_once : {slot : SlotName} {u v : BagId} → IsDecided members f slot u
        → IsDecided members f slot v → u ≡ v
    decided_once {slot} {u} {v} d e =
        chosen_once (quorums_of members) w (are_quorums members) stands.kept slot u v
        (decided_chosen d) (decided_chosen e)

  -- one happening, and then others
  module _ {h : Happening C} {history : List (Happening C)} {f : Federation C} {w : Network}
      (stands : Stands device members f w)
      (first : Went device members setting.membership setting.only_now f h w)
      (rest : Led device members (after f h) history first.x) where
    grown : Grows w rest.x
    grown = grows_then first.grows rest.grows

    reported : (g : Happening C) → Has g (h ∷ history) → (slot : SlotName) (bag : BagId)
        → Reports members.federation g slot bag
        → IsChosen (quorums_of members) rest.x slot bag
    reported g (here e) slot bag r = chosen_grows grown (first.reports slot bag (rw (← e) at r))
    reported g (there has) slot bag r = rest.reports g has slot bag r

    held : (before later : List (Happening C)) → h ∷ history ≡ before ++ later → (n : ℕ)
        (r : Record) → HasRecord device members (after_all f before) n r
        → Has r (rest.x.sites n).records
    unfolding after_all
    held [] later e n r has = grown.kept n r.slot r.body (in_network stands n has)
    held (g ∷ before) later e n r has =
        let same : g ≡ h = cc in
        rest.cells before later (cc) n r (rw same at has)

    led_more : Led device members f (h ∷ history) w
    unfolding after_all
    led_more = record {
      x = rest.x;
      stands = rest.stands;
      grows = grown;
      reports = reported;
      cells = held;
      deposits = λ n slot bag d. elim (rest.deposits n slot bag d) [
        | inl then ↦ elim (first.deposits n slot bag then) [
          | inl before ↦ inl before
          | inr made ↦ inr (record {
            before = [];
            happening = h;
            later = history;
            split = refl;
            is = made;
          })
        ]
        | inr made ↦ inr (record {
          before = h ∷ made.before;
          happening = made.happening;
          later = made.later;
          split = cc made.split;
          is = made.is;
        })
      ];
    }

  pub led : (history : List (Happening C)) {f : Federation C} {w : Network}
      → Stands device members f w → MayAll device members f history
      → Led device members f history w
  unfolding after_all MayAll
  led [] {f} {w} stands may = record {
    x = w;
    stands = stands;
    grows = grows_itself;
    reports = λ h has. absurd (has_none has);
    cells = cells;
    deposits = λ n slot bag d. inl d;
  }
    where
      cells : (before later : List (Happening C)) → [] ≡ before ++ later → (n : ℕ) (r : Record)
          → HasRecord device members (after_all f before) n r → Has r (w.sites n).records
      cells [] later e n r has = in_network stands n has
      cells (g ∷ before) later e n r has = absurd (cc e)
  led (h ∷ history) {f} {w} stands may =
      let first = went device members setting.membership setting.only_now f w stands h may.0 in
      led_more stands first (led history first.stands may.1)
