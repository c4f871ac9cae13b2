-- What the pieces of a cell say, one after another.
use Rattle.std.specs.Prelude.{◌≡◌, ◌⊎◌, ◌+◌, ℕ, true, List, [], ◌++◌, length}
use Rattle.std.specs.Prelude.{Option, None, Some}
use Rattle.std.specs.Option.{option_or}
use Rattle.records.specs.declared.owner.Owner.{Owner}
use Rattle.records.specs.declared.record.Record.{Record}
use Rattle.records.specs.Journals.{Reaches}
use Rattle.records.specs.Starts.{Start, records_of}
use Rattle.ledger.specs.declared.cell_reader.CellReader.{CellReader}
use Rattle.ledger.specs.declared.ending.Ending.{Ending}
use Rattle.ledger.specs.declared.ending.Ending.TheVariants.{Damaged}
use Rattle.ledger.specs.declared.part.Head.{Head}
use Rattle.ledger.specs.declared.part.LastPart.{LastPart}
use Rattle.ledger.specs.declared.part.Part.{Part}
use Rattle.ledger.specs.declared.part.Parts.{Parts}
use Rattle.ledger.specs.declared.part.Parts.TheVariants.{More, Last}
use Rattle.ledger.specs.Cells.{HasNoOwner, NamesWeights, IsOwner, Said, IsSaid}
use Rattle.ledger.specs.Headless.{EndsHeadless}

-- ---- what was said

-- whose cell it is, if that was said; and records
pub record Told : Type 0 where
  pub head : Option Head
  pub records : List Record

abbrev pub nothing : Told
nothing = record { head = None; records = [] }

-- a part says more
abbrev pub and_part : Told → Part → Told
and_part told part = record {
  head = option_or told.head part.head;
  records = told.records ++ part.records.items;
}

-- the head and the records of what a cell says
abbrev pub told_of : Said → Told
told_of said = record {
  head = Some (record { owner = said.owner; names_weights = said.names_weights });
  records = said.records;
}

-- all that the bytes of a cell say, and how they end
abbrev pub IsWhole : List ℕ → Told → Ending → Type 0
IsWhole bytes told ending =
    ((said : Said) × IsSaid bytes said × (said.ending ≡ ending) × (told ≡ told_of said))
    ⊎ (HasNoOwner bytes × EndsHeadless bytes ending × (told ≡ nothing))

-- ---- between two pieces

-- The bytes that were taken begin with a header that names the weights, and records, and these were
-- told; what follows them is kept.
pub record IsTold (owner : Owner) (passed : ℕ) (kept taken : List ℕ) (told : Told) : Type 0 where
  pub start : Start
  pub records : List Record
  pub owner_is : IsOwner owner
  pub reaches : Reaches owner taken start records kept
  pub weights_are : NamesWeights start owner.members.weights true
  pub passed_is : passed + length kept ≡ length taken
  pub head_is : told.head ≡ Some (record { owner = owner; names_weights = true })
  pub told_is : told.records ≡ records_of start records

-- or all bytes are kept, and nothing was told
abbrev pub HasToldBy : Option Owner → ℕ → (kept taken : List ℕ) → Told → Type 0
HasToldBy None passed kept taken told = (kept ≡ taken) × (told ≡ nothing)
HasToldBy (Some owner) passed kept taken told = IsTold owner passed kept taken told

-- this was told of these bytes
abbrev pub HasTold : CellReader → (taken : List ℕ) → Told → Type 0
HasTold reader taken told =
    HasToldBy reader.owner reader.passed reader.bytes.items taken told

-- the head is told once
abbrev pub Fits : Told → Part → Type 0
Fits told part = (told ≡ nothing) ⊎ (part.head ≡ None)

-- the last part, and how the bytes end
abbrev pub TellsLast : (taken : List ℕ) → Told → LastPart → Type 0
TellsLast taken told last =
    Fits told last.part × IsWhole taken (and_part told last.part) last.ending

-- the bytes are damaged
abbrev pub IsDamaged : Ending → Type 0
IsDamaged ending = (place : ℕ) × (ending ≡ Damaged place)

-- what one more piece tells: so much, and it goes on; or the last part before damage, whatever
-- follows
abbrev pub Tells : CellReader → (taken : List ℕ) → Told → Parts → Type 0
Tells reader taken told (More part) =
    Fits told part × HasTold reader taken (and_part told part)
Tells reader taken told (Last last) =
    IsDamaged last.ending × ((more : List ℕ) → TellsLast (taken ++ more) told last)

-- a part that says nothing
abbrev pub IsEmpty : Part → Type 0
IsEmpty part = (part.head ≡ None) × (part.records.items ≡ [])
