-- What was read of a file.
use Rattle.std.proofs.Common.{◌≡◌, ◌≢◌, ℕ, zero, suc, List, [], ◌++◌, take, Option, None, Some}
use Rattle.std.proofs.Common.{Bool, false, refl, append_assoc, append-nil, IfSome}
use Rattle.std.specs.Prelude.{IsSome}
use Rattle.fed_types.specs.Sites.{Membership}
use Rattle.audit.specs.Evidence.{SiteRecord}
use Rattle.audit_command.specs.declared.cell_defect.CellDefect.{CellDefect}
use Rattle.audit_command.specs.declared.evidence.Evidence.{Evidence}
use Rattle.audit_command.specs.declared.sync_rule.SyncRule.{SyncRule}
use Rattle.audit_command.specs.CellReadings.{IsReadingOfBytes, or_unread}
use Rattle.audit_command.specs.Files.{FileBytes, Gives, with_bytes}
use Rattle.audit_command.specs.inner.Gathered.{IsEvidence}
use Rattle.audit_command.specs.inner.Standings.{IsCounted}

-- of a file that gave this, these bytes were read, and it gives that
abbrev pub IsTaken : (first now : Option FileBytes) → List ℕ → Type 0
IsTaken first now taken =
    IfSome first (λ file. (rest : List ℕ) × (file.bytes ≡ taken ++ rest)
    × (now ≡ Some (with_bytes file rest)))

-- the next bytes
pub more_taken : (first now after : Option FileBytes) (taken piece : List ℕ) (count : ℕ)
    → IsTaken first now taken → count ≢ 0
    → IfSome now (λ file. Gives file piece (Some count) after)
    → IsTaken first after (taken ++ take count piece)
more_taken None now after taken piece count h some gives = tt
more_taken (Some file) now after taken piece zero h some gives = absurd (some refl)
more_taken (Some file) now after taken piece (suc n) (rest, is, now_is) some gives =
    let next = rw now_is at gives in
    (next.0, cc (next.1, append_assoc taken (take (suc n) piece) next.0), next.2)

module _ (members : Membership) (rule : SyncRule) (evidence : Evidence) (given : List SiteRecord)
  where
    -- what the end of a cell gives
    abbrev IsFileCounted : Option FileBytes → Option CellDefect → Type 0
    IsFileCounted first fault =
        (counted : List SiteRecord)
        × IfSome first (λ file. IsReadingOfBytes members rule file fault counted)
        × IsEvidence members evidence (given ++ counted)

    -- the file has ended, or reading it failed
    pub ended : (first now : Option FileBytes) (taken : List ℕ) (whole : Bool)
        (found fault : Option CellDefect) → IsTaken first now taken
        → IfSome now (λ file. (file.bytes ≡ []) × (file.is_whole ≡ whole))
        → IsCounted members rule evidence taken given found → fault ≡ or_unread whole found
        → IsFileCounted first fault
    ended None now taken whole found fault h ends (counted, reading, is) fault_is =
        (counted, tt, is)
    ended (Some file) now taken whole found fault (rest, bytes, now_is) ends
        (counted, reading, is) fault_is =
        let end = rw now_is at ends in
        let all : file.bytes ≡ taken = cc (end.0, append-nil taken) in
        (counted, (found, rw all reading, rw end.1 fault_is), is)

    -- something is amiss, whatever follows
    pub amiss : (first now : Option FileBytes) (taken : List ℕ) (fault : Option CellDefect)
        → IsTaken first now taken → IsSome fault
        → ((more : List ℕ) → IsCounted members rule evidence (taken ++ more) given fault)
        → IsFileCounted first fault
    amiss None now taken fault h some counts = let it = counts [] in (it.0, tt, it.2)
    amiss (Some file) now taken fault (rest, bytes, now_is) some counts =
        let it = counts rest in
        (it.0, (fault, rw bytes it.1, same file.is_whole fault some), it.2)
      where
        same : (whole : Bool) (fault : Option CellDefect) → IsSome fault
            → fault ≡ or_unread whole fault
        same false None some = absurd (cc some)
        same _ _ some = refl
