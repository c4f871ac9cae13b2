-- What the steps of reading a cell answer.
use Rattle.std.specs.Prelude.{◌≡◌, ◌≤◌, ◌+◌, ℕ, zero, suc, true, List, ◌++◌, length, drop}
use Rattle.std.specs.Prelude.{Option, Some, None, Result, Ok, IsErr}
use Rattle.std.specs.declared.alloc.AllocError.{AllocError}
use Rattle.fed_types.specs.Sites.{Membership}
use Rattle.records.specs.declared.fault.JournalFault.{JournalFault}
use Rattle.records.specs.declared.fault.JournalFault.TheVariants as faults
use Rattle.records.specs.declared.layout.Layout.TheVariants.{Second}
use Rattle.records.specs.declared.owner.Owner.{Owner}
use Rattle.records.specs.declared.record.Record.{Record}
use Rattle.records.specs.Journals.{Reaches, IsEnd, HasEnd, IsDamage}
use Rattle.records.specs.Layout.{all_encoded}
use Rattle.records.specs.Records.{AreRecords}
use Rattle.records.specs.Starts.{Start, HasWeights, records_of}
use Rattle.ledger.specs.declared.contents.Contents.{Contents}
use Rattle.ledger.specs.declared.ending.Ending.{Ending}
use Rattle.ledger.specs.declared.ending.Ending.TheVariants.{Whole, Torn}
use Rattle.ledger.specs.declared.read.Found.{Found}
use Rattle.ledger.specs.Cells.{NamesWeights}
use Rattle.ledger.specs.inner.Sizes.{Stops}

-- headers and records, and damage from this place on
pub record HasDamage (owner : Owner) (bytes : List ℕ) (place : ℕ) : Type 0 where
  pub start : Start
  pub records : List Record
  pub rest : List ℕ
  pub reaches : Reaches owner bytes start records rest
  pub damage : IsDamage owner start rest
  pub place_is : place + length rest ≡ length bytes

abbrev pub IsDamageFound : Owner → List ℕ → Option ℕ → Type 0
IsDamageFound owner bytes None = HasEnd owner bytes
IsDamageFound owner bytes (Some place) = HasDamage owner bytes place

-- what a fault says of damage, unless memory ran out
abbrev pub IsDamageIn : JournalFault → Result (Option ℕ) AllocError → Type 0
IsDamageIn (faults.Damaged place) result = result ≡ Ok (Some place)
IsDamageIn faults.Memory result = IsErr result
IsDamageIn faults.OtherFederation result = result ≡ Ok None
IsDamageIn faults.OtherSite result = result ≡ Ok None
IsDamageIn faults.OtherWeights result = result ≡ Ok None

-- of records of the second layout from a place on, it is found where they end
pub record IsAllAfter (bytes : List ℕ) (members : Membership) (place : ℕ) (found : Found)
    : Type 0 where
  pub members_are : found.members ≡ members
  pub named : found.named ≡ true
  pub in_range : found.end ≤ length bytes
  pub end_is : (records : List Record) (rest : List ℕ) → AreRecords records
      → drop place bytes ≡ all_encoded Second records ++ rest → Stops rest
      → found.end + length rest ≡ length bytes

-- of a cell that isn't damaged, it is found where its text ends, and which weights it names
pub record IsAllFound (owner : Owner) (bytes : List ℕ) (found : Found) : Type 0 where
  pub federation : found.members.federation ≡ owner.members.federation
  pub in_range : found.end ≤ length bytes
  pub all : (start : Start) (records : List Record) (rest : List ℕ)
      → Reaches owner bytes start records rest → IsEnd owner start rest
      → NamesWeights start found.members.weights found.named
      × (found.end + length rest ≡ length bytes)

-- these are its records, where it isn't damaged
abbrev pub AreRecordsRead : Owner → List ℕ → List Record → Type 0
AreRecordsRead owner bytes read =
    (start : Start) (records : List Record) (rest : List ℕ)
    → Reaches owner bytes start records rest → IsEnd owner start rest
    → HasWeights owner.members.weights start → read ≡ records_of start records

-- how a cell ends with this many bytes after its text
abbrev pub ending_of : ℕ → Ending
ending_of zero = Whole
ending_of (suc n) = Torn (suc n)

-- the contents of a cell that isn't damaged
pub record IsTextRead (owner : Owner) (bytes : List ℕ) (contents : Contents) : Type 0 where
  pub federation : contents.owner.members.federation ≡ owner.members.federation
  pub site : contents.owner.site ≡ owner.site
  pub all : (start : Start) (records : List Record) (rest : List ℕ)
      → Reaches owner bytes start records rest → IsEnd owner start rest
      → (contents.records.items ≡ records_of start records)
      × NamesWeights start contents.owner.members.weights contents.names_weights
      × (contents.ending ≡ ending_of (length rest))
