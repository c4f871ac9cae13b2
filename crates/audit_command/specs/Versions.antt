-- What is found of each version that cells name.
use Rattle.std.specs.Prelude.{◌≡◌, ℕ, Bool, true, false, List, map, filter, length}
use Rattle.std.specs.List.{All}
use Rattle.fed_types.specs.Quorums.{QuorumSystem}
use Rattle.ledger.specs.Versions.{slots_of}
use Rattle.audit.specs.declared.finding.Finding.{Finding}
use Rattle.audit.specs.declared.finding.Finding.TheVariants.{Chosen, Known, Open, Conflict}
use Rattle.audit.specs.Evidence.{SiteRecord}
use Rattle.audit.specs.Findings.{IsFinding}
use Rattle.audit_command.specs.declared.version.Version.{Version}

-- each version that a record names, in the order of the first ones, with what the cells say of it
pub record AreVersions (q : QuorumSystem) (given : List SiteRecord) (versions : List Version)
    : Type 0 where
  pub slots : map (λ v. v.slot) versions ≡ slots_of (map (λ s. s.kept) given)
  pub findings : All (λ v. IsFinding q given v.slot v.finding) versions

-- ---- how many of them are of a kind

abbrev pub is_chosen : Finding → Bool
is_chosen (Chosen vote) = true
is_chosen (Known bag) = false
is_chosen Open = false
is_chosen (Conflict u v) = false

abbrev pub is_known : Finding → Bool
is_known (Chosen vote) = false
is_known (Known bag) = true
is_known Open = false
is_known (Conflict u v) = false

abbrev pub is_open : Finding → Bool
is_open (Chosen vote) = false
is_open (Known bag) = false
is_open Open = true
is_open (Conflict u v) = false

abbrev pub is_conflict : Finding → Bool
is_conflict (Chosen vote) = false
is_conflict (Known bag) = false
is_conflict Open = false
is_conflict (Conflict u v) = true

abbrev pub count_of : (Finding → Bool) → List Version → ℕ
count_of is_kind versions = length (filter (λ v. is_kind v.finding) versions)
