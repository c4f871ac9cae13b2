-- What cells show is so of the network that they are of.
use Rattle.std.proofs.Common.{ℕ, inl, inr, List}
use Rattle.fed_types.specs.declared.bag_id.BagId.{BagId}
use Rattle.fed_types.specs.Quorums.{QuorumSystem, AreQuorums}
use Rattle.fed_types.specs.Slots.{SlotName}
use Rattle.fed_types.specs.Laws.Lists.{has_filter_map}
use Rattle.records.specs.declared.entry.Entry.{Entry}
use Rattle.world_law.specs.Laws.{IsChosen, OnRecord}
use Rattle.world_law.specs.Networks.{Network, Event, new_network, run}
use Rattle.world_law.proofs.Induction.{chosen_once}
use Rattle.world_law.proofs.Runs.{run_kept}
use Rattle.audit.specs.Evidence.{SiteRecord, record_at, network_of, AreOf}
use Rattle.audit.specs.Laws.{ShowChosen, IsNamed, HaveNoConflict}
use Rattle.audit.proofs.GivenRecords.{at_site}

pub given_on_record : (w : Network) (given : List SiteRecord) → AreOf w given
    → (n : ℕ) (slot : SlotName) (e : Entry) → OnRecord (network_of given) n slot e
    → OnRecord w n slot e
unfolding network_of
given_on_record w given are n slot e h =
    let f = has_filter_map (record_at n) _ given h in
    let it = at_site n f.0 _ f.2 in
    rw (it.0, it.1) at (are f.0 f.1)

pub shown_is_chosen : (q : QuorumSystem) (w : Network) (given : List SiteRecord)
    (slot : SlotName) (bag : BagId) → AreOf w given → ShowChosen q given slot bag
    → IsChosen q w slot bag
shown_is_chosen q w given slot bag are shown = record {
  ballot = shown.ballot;
  chosen = record {
    voters = shown.chosen.voters;
    quorum = shown.chosen.quorum;
    voted = λ n among. given_on_record w given are n slot _ (shown.chosen.voted n among);
  };
}

-- what they name is chosen, in a run
module _ (q : QuorumSystem) (laws : AreQuorums q) (events : List Event)
    (given : List SiteRecord) (are : AreOf (run q new_network events) given) where
  named_is_chosen : (slot : SlotName) (bag : BagId) → IsNamed q given slot bag
      → IsChosen q (run q new_network events) slot bag
  named_is_chosen slot bag (inl shown) =
      shown_is_chosen q (run q new_network events) given slot bag are shown
  named_is_chosen slot bag (inr known) =
      (run_kept q laws events).records known.0 slot _
      (given_on_record (run q new_network events) given are known.0 slot _ known.1)

  pub no_conflict : HaveNoConflict q given
  no_conflict slot u v a b =
      chosen_once q (run q new_network events) laws (run_kept q laws events) slot u v
      (named_is_chosen slot u a) (named_is_chosen slot v b)
