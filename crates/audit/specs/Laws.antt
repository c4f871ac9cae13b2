-- What an auditor may conclude: `IsChosen` is the laws' own, of the network that the cells are.
use Rattle.std.specs.Prelude.{◌≡◌, ◌≢◌, ◌⊎◌, ℕ, List, Some}
use Rattle.fed_types.specs.declared.bag_id.BagId.{BagId}
use Rattle.fed_types.specs.Lists.{Has}
use Rattle.fed_types.specs.Quorums.{QuorumSystem}
use Rattle.fed_types.specs.Slots.{SlotName}
use Rattle.records.specs.declared.entry.Entry.TheVariants as entry
use Rattle.lines.specs.declared.notice.Notice.{Notice}
use Rattle.world_law.specs.Laws.{IsChosen, OnRecord, notice_report}
use Rattle.audit.specs.Evidence.{SiteRecord, network_of}

-- these cells show that the bag is chosen
abbrev pub ShowChosen : QuorumSystem → List SiteRecord → SlotName → BagId → Type 0
ShowChosen q given slot bag = IsChosen q (network_of given) slot bag

-- one of them says that it is known
abbrev pub SayKnown : List SiteRecord → SlotName → BagId → Type 0
SayKnown given slot bag = (n : ℕ) × OnRecord (network_of given) n slot (entry.Known bag)

-- either
abbrev pub IsNamed : QuorumSystem → List SiteRecord → SlotName → BagId → Type 0
IsNamed q given slot bag = ShowChosen q given slot bag ⊎ SayKnown given slot bag

-- two bags are
abbrev pub NameTwo : QuorumSystem → List SiteRecord → SlotName → (a b : BagId) → Type 0
NameTwo q given slot a b = IsNamed q given slot a × IsNamed q given slot b × (a ≢ b)

-- no two bags are named for one version
abbrev pub HaveNoConflict : QuorumSystem → List SiteRecord → Type 0
HaveNoConflict q given =
    (slot : SlotName) (u v : BagId) → IsNamed q given slot u → IsNamed q given slot v → u ≡ v

-- what these notices report for the version is this bag
abbrev pub ReportNoOther : List Notice → SlotName → BagId → Type 0
ReportNoOther notices slot bag =
    (m : Notice) (other : BagId) → Has m notices
    → notice_report m ≡ Some (record { slot = slot; bag = other }) → other ≡ bag
