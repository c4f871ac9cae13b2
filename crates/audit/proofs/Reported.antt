-- What a run reports is what cells show.
use Rattle.std.proofs.Common.{◌≡◌, refl, List, [], ◌∷◌, ◌++◌}
use Rattle.fed_types.specs.declared.bag_id.BagId.{BagId}
use Rattle.fed_types.specs.Quorums.{QuorumSystem, AreQuorums}
use Rattle.fed_types.specs.Slots.{SlotName}
use Rattle.world_law.specs.Laws.{notices_of}
use Rattle.world_law.specs.Networks.{Network, Event, new_network, happens, run}
use Rattle.world_law.proofs.Induction.{chosen_once}
use Rattle.world_law.proofs.Runs.{new_kept, run_kept}
use Rattle.audit.specs.Evidence.{SiteRecord, AreOf}
use Rattle.audit.specs.Laws.{ShowChosen, ReportNoOther}
use Rattle.audit.proofs.Shown.{shown_is_chosen}
use Rattle.world_law.proofs.Reports.{chosen_from, reported_from}

-- events, and more
pub run_on : (q : QuorumSystem) (events later : List Event) (w : Network)
    → run q (run q w events) later ≡ run q w (events ++ later)
unfolding run
run_on q [] later w = refl
run_on q (e ∷ events) later w = run_on q events later (happens q w e).network

module _ (q : QuorumSystem) (laws : AreQuorums q) where
  pub no_other : (events later : List Event) (given : List SiteRecord) (slot : SlotName)
      (bag : BagId) → AreOf (run q new_network events) given → ShowChosen q given slot bag
      → ReportNoOther (notices_of q new_network (events ++ later)) slot bag
  no_other events later given slot bag are shown m other h is =
      let all = events ++ later in
      let then = shown_is_chosen q (run q new_network events) given slot bag are shown in
      let still = rw (run_on q events later new_network)
      at (chosen_from q laws later (run q new_network events) (run_kept q laws events) slot bag
      then) in
      chosen_once q (run q new_network all) laws (run_kept q laws all) slot other bag
      (reported_from q laws all new_network (new_kept q) m _ h is) still
