-- What an auditor may be given.
use Rattle.std.proofs.Common.{ℕ, inl, inr, List, [], ◌∷◌, ◌++◌}
use Rattle.fed_types.specs.Quorums.{QuorumSystem, AreQuorums}
use Rattle.fed_types.specs.Laws.Lists.{has_map, has_cases}
use Rattle.records.specs.declared.record.Record.{Record}
use Rattle.world_law.specs.Networks.{Network, Event, new_network, happens, run}
use Rattle.world_law.proofs.Kept.{Kept}
use Rattle.world_law.proofs.Runs.{happens_kept, run_kept}
use Rattle.audit.specs.Evidence.{SiteRecord, AreOf, cell_of}
use Rattle.audit.proofs.Reported.{run_on}

pub whole : (w : Network) (n : ℕ) → AreOf w (cell_of n (w.sites n).records)
whole w n s h =
    let from = has_map (λ (r : Record). record { site = n; kept = r }) (w.sites n).records h in
    rw (← from.2) from.1

pub together : (w : Network) (some more : List SiteRecord) → AreOf w some → AreOf w more
    → AreOf w (some ++ more)
together w some more a b s has = elim (has_cases some more has) [
  | inl h ↦ a s h
  | inr h ↦ b s h
]

-- what is on record stays there
stays : (q : QuorumSystem) → AreQuorums q → (later : List Event) (w : Network) → Kept q w
    → (given : List SiteRecord) → AreOf w given → AreOf (run q w later) given
unfolding run
stays q laws [] w kept given are = are
stays q laws (e ∷ later) w kept given are =
    let next = happens_kept q laws w kept e in
    stays q laws later (happens q w e).network next.kept given
    (λ s h. next.grows.kept s.site s.kept.slot s.kept.body (are s h))

pub older : (q : QuorumSystem) (events later : List Event) (given : List SiteRecord)
    → AreQuorums q → AreOf (run q new_network events) given
    → AreOf (run q new_network (events ++ later)) given
older q events later given laws are =
    rw (run_on q events later new_network)
    at (stays q laws later (run q new_network events) (run_kept q laws events) given are)
