use Rattle.std.proofs.Common.{◌≡◌, List, take}
use Rattle.std.specs.Prelude.{map}
use Rattle.std.specs.List.{All}
use Rattle.fed_types.specs.Quorums.{quorums_of}
use Rattle.fed_types.specs.Sites.{Membership}
use Rattle.audit.specs.Evidence.{SiteRecord}
use Rattle.audit.specs.Findings.{IsFinding}
use Rattle.audit_command.specs.declared.version.Version.{Version}
use Rattle.audit_command.specs.inner.Gathered.{IsEvidence}
use Rattle.audit_command.proofs.evidence.versions_of.Given as goal

-- the versions so far, each with what is found of it
abbrev pub invariant-loop-slot : goal.invariant-loop-slot
invariant-loop-slot l = record {
  slots : map (λ (v : Version). v.slot) l.versions.items ≡ take l.slot-index l.slots;
  found : (members : Membership) (given : List SiteRecord)
      → IsEvidence members l.evidence given
      → All (λ (v : Version). IsFinding (quorums_of members) given v.slot v.finding)
      l.versions.items;
}
