-- What an audit says where cells name two bags for one version.
use Rattle.std.specs.Prelude.{◌≡◌, ℕ, List, ◌++◌}
use Rattle.fed_types.specs.declared.bag_id.BagId.{BagId}
use Rattle.fed_types.specs.Quorums.{QuorumSystem}
use Rattle.fed_types.specs.Slots.{SlotName}
use Rattle.outcomes.specs.Outcomes.{Outcome}
use Rattle.audit.specs.declared.finding.Finding.TheVariants.{Conflict}
use Rattle.audit.specs.Evidence.{SiteRecord}
use Rattle.audit.specs.Laws.{NameTwo}
use Rattle.audit_command.specs.Lines.{version_line}

-- the line is in the text
abbrev pub HasLine : (text line : List ℕ) → Type 0
HasLine text line = (before : List ℕ) × (after : List ℕ) × (text ≡ before ++ (line ++ after))

-- the line `conflict` of the version, with two bags that are named for it, and the status 1
abbrev pub SaysConflict : QuorumSystem → List SiteRecord → SlotName → Outcome → Type 0
SaysConflict q given slot outcome =
    (u : BagId) × (v : BagId) × NameTwo q given slot u v
    × HasLine outcome.text (version_line (record { slot = slot; finding = Conflict u v }))
    × (outcome.status ≡ 1)
