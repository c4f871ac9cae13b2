-- What is kept of each version.
use Rattle.std.specs.Prelude.{◌≡◌, ℕ, List, [], Option, Some, None, slice_get}
use Rattle.fed_types.specs.Slots.{SlotName}
use Rattle.slot_table.specs.Listings.{Listing}
use Rattle.slot_table.specs.Rows.{Rows, row_of}
use Rattle.records.specs.declared.entry.Entry.{Entry}
use Rattle.records.specs.declared.record.Record.{Record}
use Rattle.records.specs.SlotStates.{deposit_of, known_of, vote_of, earlier, higher, with_one}
use Rattle.records.specs.SlotStates.{if_some}
use Rattle.records.specs.SlotStates.{deposit_in, known_in, vote_in}
use Rattle.ledger.specs.declared.version_filter.VersionFilter.{VersionFilter}
use Rattle.ledger.specs.declared.row.Row.{Row}
use Rattle.ledger.specs.declared.standing.Standing.{Standing}
use Rattle.ledger.specs.Ledgers.{listed_line}
use Rattle.ledger.specs.Versions.{slots_of, standing}

-- the row of a version without records
abbrev pub empty_row : Row
empty_row = record { known = None; deposit = None; vote = None }

-- the row after the entry, if there is one
abbrev pub noted : Row → Option Entry → Row
noted row entry = record {
  known = with_one earlier row.known (if_some known_in entry);
  deposit = with_one earlier row.deposit (if_some deposit_in entry);
  vote = with_one (higher (λ v. v.ballot)) row.vote (if_some vote_in entry);
}

-- what is kept of the version of a record, after it
abbrev pub row_after : Rows Row → Record → Row
row_after rows r = noted (row_of empty_row rows r.slot) (Some r.body)

-- what these records say of a version
abbrev pub row_from : List Record → SlotName → Row
row_from records slot = record {
  known = known_of slot records;
  deposit = deposit_of slot records;
  vote = vote_of slot records;
}

-- the versions are those of the records, in their order, and what is kept of each is what they say
pub record Represents (versions : Listing Row) (records : List Record) : Type 0 where
  pub slots : versions.slots ≡ slots_of records
  pub says : (slot : SlotName) → row_of empty_row versions.rows slot ≡ row_from records slot

-- the version at this place
abbrev pub slot_at : Listing Row → ℕ → Option SlotName
slot_at versions place = slice_get versions.slots place

-- what is said of a version
abbrev pub standing_by : Row → Standing
standing_by row = standing row.known row.deposit row.vote

abbrev pub standing_in : Rows Row → SlotName → Standing
standing_in rows slot = standing_by (row_of empty_row rows slot)

-- its line, where it is listed
abbrev pub listed_in : VersionFilter → Rows Row → SlotName → List ℕ
listed_in wanted rows slot = listed_line wanted slot (standing_in rows slot)

-- the text of what is there, if anything is
abbrev pub text_if : {X : Type 0} → (X → List ℕ) → Option X → List ℕ
text_if f None = []
text_if f (Some x) = f x
