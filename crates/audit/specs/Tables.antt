-- What is kept of the records that were given, and what it represents.
use Rattle.std.specs.Prelude.{◌≡◌, ◌↔◌, ℕ, List, true}
use Rattle.fed_types.specs.declared.vote.Vote.{Vote}
use Rattle.fed_types.specs.Lists.{is_in}
use Rattle.fed_types.specs.Quorums.{QuorumSystem, quorums_of}
use Rattle.fed_types.specs.Sites.{Membership}
use Rattle.fed_types.specs.Slots.{SlotName}
use Rattle.records.specs.declared.entry.Entry.TheVariants as entry
use Rattle.records.specs.Bounds.{HasEntry}
use Rattle.slot_table.specs.Rows.{Rows, row_of}
use Rattle.world_law.specs.Laws.{IsChosenBy}
use Rattle.audit.specs.declared.row.Row.{Row}
use Rattle.audit.specs.Evidence.{SiteRecord, records_at, network_of}
use Rattle.audit.specs.Laws.{IsNamed}
use Rattle.audit.specs.inner.Casts.{Casts, cast_of, voters_in}
use Rattle.audit.specs.inner.Rows.{empty_row, IsRowOf}

-- the members; the sites that have each vote; and what was given of each version
pub record Tables : Type 0 where
  pub members : Membership
  pub votes : Casts
  pub rows : Rows Row

-- the votes that are chosen for a version, by what was given
abbrev pub ChosenBy : QuorumSystem → List SiteRecord → SlotName → Vote → Type 0
ChosenBy q given slot vote = IsChosenBy q (network_of given) slot vote

-- the sites counted for a vote are those that have it on record
abbrev pub AreVoters : Casts → List SiteRecord → Type 0
AreVoters votes given =
    (slot : SlotName) (vote : Vote) (n : ℕ)
    → (is_in (voters_in votes (cast_of slot vote)) n ≡ true)
    ↔ HasEntry slot (records_at given n) (entry.Vote vote)

-- what is kept of a version is what was given of it
abbrev pub IsRowFor : QuorumSystem → List SiteRecord → SlotName → Row → Type 0
IsRowFor q given slot row = IsRowOf (IsNamed q given slot) (ChosenBy q given slot) row

abbrev pub AreRows : QuorumSystem → Rows Row → List SiteRecord → Type 0
AreRows q rows given =
    (slot : SlotName)
    → IsRowFor q given slot (row_of empty_row rows slot)

pub record Represents (t : Tables) (given : List SiteRecord) : Type 0 where
  pub voters : AreVoters t.votes given
  pub rows : AreRows (quorums_of t.members) t.rows given
