-- Two undisturbed proposals decide: the first learns the bag, or what stands in its way; the second
-- is above that.
use Rattle.std.proofs.Common.{ℕ, inl, inr, List, [], ◌∷◌}
use Rattle.fed_types.specs.Quorums.{QuorumSystem, IsQuorum, AreQuorums}
use Rattle.fed_types.specs.Slots.{SlotName}
use Rattle.records.specs.declared.entry.Entry.TheVariants as entry
use Rattle.records.specs.SlotStates.{first, known_of}
use Rattle.records.proofs.Bounds.{known_among, known_some}
use Rattle.schedule.specs.declared.fate.Fate.TheVariants.{Whole}
use Rattle.world_law.specs.Networks.{Network, Event, Propose, new_network, happens, run}
use Rattle.world_law.proofs.Kept.{Kept}
use Rattle.world_law.proofs.Runs.{happens_kept, run_kept}
use Rattle.reach_law.specs.Running.{records_at, AreMembers}
use Rattle.reach_law.specs.Undisturbed.{CanPropose, AllArrive, Knows, begun, in_the_end}
use Rattle.reach_law.proofs.Outbidding.{outbids_then}
use Rattle.reach_law.proofs.Reaching.{run_on_kept}
use Rattle.reach_law.proofs.UndisturbedBegins.{decided}
use Rattle.reach_law.proofs.Words.{some_of}

-- ---- a bag that is known stays so

module _ (q : QuorumSystem) (laws : AreQuorums q) (slot : SlotName) where
  knows_next : (w : Network) → Kept q w → (e : Event) (n : ℕ) → Knows w slot n
      → Knows (happens q w e).network slot n
  knows_next w kept e n knows =
      let bag = some_of (known_of slot (records_at w n)) knows in
      known_some slot (records_at (happens q w e).network n) bag.0
      ((happens_kept q laws w kept e).grows.kept n slot (entry.Known bag.0)
      (known_among slot (records_at w n) bag.0 bag.1))

  knows_on : (events : List Event) (w : Network) → Kept q w → (n : ℕ) → Knows w slot n
      → Knows (run q w events) slot n
  unfolding run
  knows_on [] w kept n knows = knows
  knows_on (e ∷ events) w kept n knows =
      knows_on events (happens q w e).network (happens_kept q laws w kept e).kept n
      (knows_next w kept e n knows)

  module _ (running : List ℕ) (members : AreMembers q running) (quorum : IsQuorum q running)
      (w : Network) (kept : Kept q w) (site : ℕ) (can : CanPropose w running slot site)
      (first second : List Event) where
    abbrev x : Network
    x = in_the_end q w slot site first

    kept_begun : (w : Network) → Kept q w → Kept q (begun q w slot site)
    kept_begun w kept = (happens_kept q laws w kept (Propose site slot Whole)).kept

    kept_then : Kept q x
    kept_then = run_on_kept q laws slot first (begun q w slot site) (kept_begun w kept)

    both_decide : AllArrive q w running slot site first → AllArrive q x running slot site second
        → Knows (in_the_end q x slot site second) slot site
    both_decide all again = elim (outbids_then q running slot members w site can first all) [
      | inl knows ↦
          knows_on second (begun q x slot site) (kept_begun x kept_then) site
          (knows_next x kept_then (Propose site slot Whole) site knows)
      | inr above ↦
          decided q laws running slot members quorum x kept_then site above second again site
          can.ready.runs
    ]

pub two_decide : (q : QuorumSystem) (history : List Event) (running : List ℕ) (slot : SlotName)
    (site : ℕ) (first second : List Event) → AreQuorums q → AreMembers q running
    → IsQuorum q running → CanPropose (run q new_network history) running slot site
    → AllArrive q (run q new_network history) running slot site first
    → AllArrive q (in_the_end q (run q new_network history) slot site first) running slot site
    second
    → Knows
    (in_the_end q (in_the_end q (run q new_network history) slot site first) slot site second) slot
    site
two_decide q history running slot site first second laws members quorum can all again =
    both_decide q laws slot running members quorum (run q new_network history)
    (run_kept q laws history) site can first second all again
