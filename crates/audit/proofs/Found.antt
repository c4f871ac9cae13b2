-- What is found of a version of a run.
use Rattle.std.proofs.Common.{◌≡◌, ◌≢◌, ◌∙◌, inl, refl, sym, List}
use Rattle.fed_types.specs.declared.bag_id.BagId.{BagId}
use Rattle.fed_types.specs.declared.vote.Vote.{Vote}
use Rattle.fed_types.specs.Quorums.{QuorumSystem, AreQuorums}
use Rattle.fed_types.specs.Slots.{SlotName}
use Rattle.world_law.specs.Networks.{Event, new_network, run}
use Rattle.audit.specs.declared.finding.Finding.{Finding}
use Rattle.audit.specs.declared.finding.Finding.TheVariants.{Chosen, Known, Open, Conflict}
use Rattle.audit.specs.Evidence.{SiteRecord, AreOf}
use Rattle.audit.specs.Findings.{IsFinding}
use Rattle.audit.specs.Laws.{ShowChosen, IsNamed, NameTwo}
use Rattle.audit.proofs.Shown.{no_conflict}

pub found_no_conflict : (q : QuorumSystem) (events : List Event) (given : List SiteRecord)
    (slot : SlotName) (u v : BagId) → AreQuorums q → AreOf (run q new_network events) given
    → ¬ IsFinding q given slot (Conflict u v)
found_no_conflict q events given slot u v laws are found =
    found.2 (no_conflict q laws events given are slot u v found.0 found.1)

pub found_chosen : (q : QuorumSystem) (given : List SiteRecord) (slot : SlotName) (vote : Vote)
    → IsFinding q given slot (Chosen vote) → ShowChosen q given slot vote.bag
found_chosen q given slot vote found = record { ballot = vote.ballot; chosen = found.0 }

-- it is chosen, where the cells show that
pub shown_found : (q : QuorumSystem) (events : List Event) (given : List SiteRecord)
    (slot : SlotName) (bag : BagId) (finding : Finding) → AreQuorums q
    → AreOf (run q new_network events) given → ShowChosen q given slot bag
    → IsFinding q given slot finding
    → (vote : Vote) × (finding ≡ Chosen vote) × (vote.bag ≡ bag)
shown_found q events given slot bag (Chosen vote) laws are shown found =
    (vote, refl, sym (found.1 bag (inl shown)))
shown_found q events given slot bag (Known other) laws are shown found =
    absurd (found.1 bag shown)
shown_found q events given slot bag Open laws are shown found = absurd (found bag (inl shown))
shown_found q events given slot bag (Conflict u v) laws are shown found =
    absurd (found_no_conflict q events given slot u v laws are found)

-- two bags are named: they are a conflict, whatever else is found
pub two_found : (q : QuorumSystem) (given : List SiteRecord) (slot : SlotName) (u v : BagId)
    (finding : Finding) → IsNamed q given slot u → IsNamed q given slot v → u ≢ v
    → IsFinding q given slot finding
    → (a : BagId) × (b : BagId) × (finding ≡ Conflict a b) × NameTwo q given slot a b
two_found q given slot u v (Chosen vote) one two other found =
    absurd (other (found.1 u one ∙ sym (found.1 v two)))
two_found q given slot u v (Known bag) one two other found =
    absurd (other (found.2 u one ∙ sym (found.2 v two)))
two_found q given slot u v Open one two other found = absurd (found u one)
two_found q given slot u v (Conflict a b) one two other found = (a, b, refl, found)

pub one_found : (q : QuorumSystem) (given : List SiteRecord) (slot : SlotName) (bag : BagId)
    → IsNamed q given slot bag → ¬ IsFinding q given slot Open
one_found q given slot bag named found = found bag named
