-- A history in which the register of a slot is open at first, and then decided.
use Rattle.std.proofs.Common.{◌≡◌, inl, refl, List, [], ◌∷◌, ◌++◌}
use Rattle.fed_types.specs.declared.bag_id.BagId.{BagId}
use Rattle.fed_types.specs.Lists.{Has, here, there}
use Rattle.fed_types.specs.Laws.Lists.{has_none}
use Rattle.fed_types.specs.Laws.Quorums.{are_quorums}
use Rattle.lines.specs.declared.notice.Notice.TheVariants.{Learned}
use Rattle.world_law.specs.Networks.{new_network, new_site, run}
use Rattle.serving_law.specs.Disks.{Disk, device}
use Rattle.serving_law.specs.Examples.{Request}
use Rattle.serving_law.specs.ExamplesAgreed.{three, a, Agree}
use Rattle.serving_law.specs.Federations.{Happening, after_all}
use Rattle.serving_law.specs.Reports.{Reports}
use Rattle.serving_law.proofs.Agreed.{three_sites_agree}
use Rattle.serving_law.proofs.Agreement.{three_are}
use Rattle.serving_law.proofs.DiskJournals.{are_like_cells}
use Rattle.register_law.specs.Carried.{IsHistoryAfter, now}
use Rattle.register_law.specs.Registers.{IsDecided}
use Rattle.register_law.specs.Refinement.{Refines}
use Rattle.register_law.specs.Examples.{IsDecidedOnce, ARegisterIsDecided}
use Rattle.register_law.proofs.Refined.{histories_refine}
use Rattle.register_law.proofs.Runs.{new_cells_are_left_by_none}

-- what stands in a list stands between others
record Placed (h : Happening Disk) (history : List (Happening Disk)) : Type 0 where
  before : List (Happening Disk)
  later : List (Happening Disk)
  split : history ≡ before ++ h ∷ later

placed : (h : Happening Disk) (history : List (Happening Disk)) → Has h history
    → Placed h history
placed h [] has = absurd (has_none has)
placed h (g ∷ history) (here is) = record { before = []; later = history; split = cc is }
placed h (g ∷ history) (there has) =
    let p = placed h history has in
    record { before = g ∷ p.before; later = p.later; split = cc p.split }

nothing_decided : (bag : BagId) → IsDecided {C = Disk} three (now three [] []) a bag → ⊥
unfolding after_all run new_network new_site
nothing_decided bag d =
    let shared = (are_quorums three).meet d.voters d.voters d.quorum d.quorum in
    has_none (d.voted shared.0 shared.2)

module _ (bag : BagId) (request : Request three.federation a bag) where
  agree : Agree bag
  agree = three_sites_agree bag request

  abbrev h : Happening Disk
  h = agree.one.0

  place : Placed h agree.history
  place = placed h agree.history agree.one.1

  reports : Reports three.federation h a bag
  reports = inl (Learned 1 a bag, agree.one.2, refl)

  happens : IsHistoryAfter device three [] (place.before ++ h ∷ place.later)
  happens =
      rw place.split at (new_cells_are_left_by_none device three agree.history agree.happens)

  refines : Refines device three [] (place.before ++ h ∷ place.later)
  refines =
      histories_refine device three are_like_cells.only_now [] (place.before ++ h ∷ place.later)
      three_are happens

  decided_once : IsDecidedOnce bag
  decided_once = record {
    before = place.before;
    h = h;
    later = place.later;
    happens = happens;
    at_first = nothing_decided;
    decided = (refines.steps place.before h place.later refl).reports a bag reports;
    reports = reports;
  }

pub a_register_is_decided : ARegisterIsDecided
a_register_is_decided bag request = decided_once bag request
