-- One more record of a cell, and what is found of one more version.
use Rattle.std.proofs.Common.{◌≡◌, ℕ, ◌+◌, ◌<◌, List, [], ◌∷◌, ◌++◌, length, take, get_or}
use Rattle.std.proofs.Common.{append_assoc, ◌∙◌}
use Rattle.std.proofs.lemmas.List.{map_push, take_more}
use Rattle.std.proofs.lemmas.List.Sums.{fold-append}
use Rattle.std.specs.Prelude.{map}
use Rattle.indexmap.specs.IndexSet.{insert_key}
use Rattle.fed_types.specs.Sites.{Membership}
use Rattle.fed_types.specs.Slots.{SlotName, same_slot}
use Rattle.records.specs.declared.record.Record.{Record}
use Rattle.ledger.specs.Versions.{slots_of, with_slot}
use Rattle.audit.specs.Evidence.{SiteRecord}
use Rattle.audit.specs.Tables.{Represents}
use Rattle.audit_command.specs.declared.evidence.Evidence.{Evidence}
use Rattle.audit_command.specs.declared.version.Version.{Version}
use Rattle.audit_command.specs.CellReadings.{of_site}
use Rattle.audit_command.specs.inner.Gathered.{IsEvidence}

slots_push : (records : List Record) (r : Record)
    → slots_of (records ++ r ∷ []) ≡ with_slot (slots_of records) r
unfolding slots_of
slots_push records r = fold-append with_slot [] records (r ∷ [])

-- the version of the record goes to the end, if it is new
pub one_record : (members : Membership) (old new : Evidence) (given : List SiteRecord)
    (s : SiteRecord) → IsEvidence members old given
    → new.cells.members ≡ old.cells.members → Represents new.cells (given ++ s ∷ [])
    → new.slots.keys ≡ insert_key same_slot old.slots.keys s.kept.slot
    → IsEvidence members new (given ++ s ∷ [])
one_record members old new given s is same stands put = record {
  members_are = same ∙ is.members_are;
  stands = stands;
  slots = rw (put, is.slots, map_push, slots_push);
}

-- the next record of a cell
pub next_record : (members : Membership) (e : Evidence) (given : List SiteRecord) (site : ℕ)
    (records : List Record) (i : ℕ) (r : Record) → i < length records → r ≡ get_or records i r
    → IsEvidence members e
    ((given ++ of_site site (take i records)) ++ record { site = site; kept = r } ∷ [])
    → IsEvidence members e (given ++ of_site site (take (i + 1) records))
next_record members e given site records i r within at is =
    let more : take (i + 1) records ≡ take i records ++ r ∷ [] =
    cc (take_more records i r within) in
    rw (more, map_push, ← append_assoc) is

-- the next version
pub next_slot : (versions more : List Version) (v : Version) (slots : List SlotName) (i : ℕ)
    (slot : SlotName) → more ≡ versions ++ v ∷ [] → v.slot ≡ slot → i < length slots
    → slot ≡ get_or slots i slot → map (λ (v : Version). v.slot) versions ≡ take i slots
    → map (λ (v : Version). v.slot) more ≡ take (i + 1) slots
next_slot versions more v slots i slot is its within at so =
    rw (is, map_push, so, take_more slots i slot) (cc)
