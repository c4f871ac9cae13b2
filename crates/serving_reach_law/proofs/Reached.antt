-- What a history leads to: a network that it represents, in which what was reported is chosen, and
-- the bags of whose deposits are bytes.
use Rattle.std.proofs.Common.{ℕ, ◌≡◌, inl, inr, refl, List, [], ◌∷◌, ◌++◌}
use Rattle.fed_types.specs.declared.bag_id.BagId.{BagId}
use Rattle.fed_types.specs.Lists.{Has, here, there}
use Rattle.fed_types.specs.Quorums.{QuorumSystem}
use Rattle.fed_types.specs.Sites.{Membership}
use Rattle.fed_types.specs.Slots.{SlotName}
use Rattle.fed_types.specs.Values.{IsMembership}
use Rattle.fed_types.specs.Laws.Lists.{has_none}
use Rattle.cell_device.specs.Devices.{Device}
use Rattle.bag_check.specs.Check.{identity_of}
use Rattle.bag_check.proofs.ValidLaws.{valid_checked}
use Rattle.world_law.specs.Laws.{IsChosen}
use Rattle.world_law.specs.Networks.{Network, new_network, new_site}
use Rattle.world_law.proofs.Grows.{Grows, grows_itself, chosen_grows}
use Rattle.world_law.proofs.Runs.{new_kept}
use Rattle.world_law.proofs.WellFormed.{new_is_well_formed}
use Rattle.serving_law.specs.Federations.{Federation, Happening, new_federation, after, after_all}
use Rattle.serving_law.specs.Reports.{Reports, IsDeposit}
use Rattle.serving_law.specs.Rules.{May, MayAll, IsHistory}
use Rattle.serving_law.proofs.DatagramBytes.{Bytes, of_bag}
use Rattle.serving_law.proofs.Happenings.{Went, went}
use Rattle.serving_law.proofs.Networks.{quorums, HasDeposit, Stands}
use Rattle.serving_law.proofs.Scene.{OnlyNow}

grows_then : {w x y : Network} → Grows w x → Grows x y → Grows w y
grows_then g h = record {
  sent = λ d s. h.sent d (g.sent d s);
  kept = λ n slot e k. h.kept n slot e (g.kept n slot e k);
  votes = λ n slot vote b k promised. elim (h.votes n slot vote b k (g.kept n slot _ promised)) [
    | inl old ↦ g.votes n slot vote b old promised
    | inr above ↦ inr above
  ];
}

-- the bag of each deposit on record is bytes
abbrev pub DepositsAreBytes : Network → Type 0
DepositsAreBytes w = (n : ℕ) (slot : SlotName) (bag : BagId) → HasDeposit w n slot bag → Bytes bag.0

module _ {C : Type 0} (device : C → Device) (members : Membership)
    (is_membership : IsMembership members) (only_now : OnlyNow device)
  where
    abbrev q : QuorumSystem
    q = quorums device members

    deposit_is_bytes : (f : Federation C) (h : Happening C) (slot : SlotName) (bag : BagId)
        → IsDeposit members.federation f h slot bag → Bytes bag.0
    deposit_is_bytes f h slot bag d =
        rw d.identity (of_bag d.facts (identity_of d.facts) (valid_checked d.facts d.valid))

    bytes_then : (f : Federation C) (h : Happening C) (w : Network) → DepositsAreBytes w
        → (first : Went device members is_membership only_now f h w) → DepositsAreBytes first.x
    bytes_then f h w bytes first n slot bag d = elim (first.deposits n slot bag d) [
      | inl old ↦ bytes n slot bag old
      | inr made ↦ deposit_is_bytes f h slot bag made
    ]

    -- ---- a history from a federation on

    pub record Walked (f : Federation C) (w : Network) (history : List (Happening C)) : Type 0 where
      pub x : Network
      pub stands : Stands device members (after_all f history) x
      pub grows : Grows w x
      pub bytes : DepositsAreBytes x
      pub reports : (h : Happening C) → Has h history → (slot : SlotName) (bag : BagId)
          → Reports members.federation h slot bag → IsChosen q x slot bag

    walked_more : (h : Happening C) (history : List (Happening C)) (f : Federation C) (w : Network)
        → (first : Went device members is_membership only_now f h w)
        → Walked (after f h) first.x history → Walked f w (h ∷ history)
    unfolding after_all
    walked_more h history f w first rest = record {
      x = rest.x;
      stands = rest.stands;
      grows = grows_then first.grows rest.grows;
      bytes = rest.bytes;
      reports = reported;
    }
      where
        reported : (g : Happening C) → Has g (h ∷ history) → (slot : SlotName) (bag : BagId)
            → Reports members.federation g slot bag → IsChosen q rest.x slot bag
        reported g (here e) slot bag r =
            chosen_grows (grows_then first.grows rest.grows)
            (first.reports slot bag
            (rw e r))
        reported g (there has) slot bag r = rest.reports g has slot bag r

    pub walked : (history : List (Happening C)) (f : Federation C) (w : Network)
        → Stands device members f w → DepositsAreBytes w → MayAll device members f history
        → Walked f w history
    unfolding after_all MayAll
    walked [] f w stands bytes may = record {
      x = w;
      stands = stands;
      grows = grows_itself;
      bytes = bytes;
      reports = λ h has. absurd (has_none has);
    }
    walked (h ∷ history) f w stands bytes may =
        let first = went device members is_membership only_now f w stands h may.0 in
        walked_more h history f w first
        (walked history (after f h) first.x first.stands (bytes_then f h w bytes first) may.1)

    -- ---- from new cells

    new_stands : Stands device members new_federation new_network
    unfolding new_federation new_network new_site
    new_stands = record {
      kept = new_kept q;
      formed = new_is_well_formed;
      is = λ n. refl;
      handed = λ port bytes h. absurd (has_none h);
    }

    new_bytes : DepositsAreBytes new_network
    unfolding new_network new_site
    new_bytes n slot bag d = absurd (has_none d)

    pub from_new : (history : List (Happening C)) → IsHistory device members history
        → Walked new_federation new_network history
    from_new history may = walked history new_federation new_network new_stands new_bytes may

    -- ---- a federation that happenings lead to, since one that represented this network

    pub record Reached (since : Network) (f : Federation C) : Type 0 where
      pub w : Network
      pub stands : Stands device members f w
      pub grows : Grows since w
      pub bytes : DepositsAreBytes w

    pub reached_next : (since : Network) (f : Federation C) → Reached since f → (h : Happening C)
        → May device members f h → Reached since (after f h)
    reached_next since f r h may =
        let first = went device members is_membership only_now f r.w r.stands h may in
        record {
          w = first.x;
          stands = first.stands;
          grows = grows_then r.grows first.grows;
          bytes = bytes_then f h r.w r.bytes first;
        }

-- ---- one happening more

module _ {C : Type 0} (device : C → Device) (members : Membership) where
  pub one_more : (history : List (Happening C)) (f : Federation C) (h : Happening C)
      → MayAll device members f history → May device members (after_all f history) h
      → MayAll device members f (history ++ h ∷ [])
      × (after_all f (history ++ h ∷ []) ≡ after (after_all f history) h)
  unfolding after_all MayAll
  one_more [] f h all may = ((may, tt), refl)
  one_more (g ∷ history) f h all may =
      let rest = one_more history (after f g) h all.1 may in
      ((all.0, rest.0), rest.1)
