-- What the steps of reading a cell in pieces answer.
use Rattle.std.specs.Prelude.{◌≡◌, ◌+◌, ◌-◌, ℕ, ⊤, Bool, true, false, List, ◌++◌}
use Rattle.std.specs.Prelude.{Option, Some, None}
use Rattle.records.specs.declared.more_records.MoreRecords.{MoreRecords}
use Rattle.records.specs.declared.owner.Owner.{Owner}
use Rattle.ledger.specs.declared.contents.Contents.{Contents}
use Rattle.ledger.specs.declared.ending.Ending.{Ending}
use Rattle.ledger.specs.declared.ending.Ending.TheVariants.{Whole, Torn, Damaged}
use Rattle.ledger.specs.declared.part.LastPart.{LastPart}
use Rattle.ledger.specs.declared.part.Part.{Part}
use Rattle.ledger.specs.declared.steps.Kept.{Kept}
use Rattle.ledger.specs.declared.steps.Step.{Step}
use Rattle.ledger.specs.declared.steps.Step.TheVariants.{Wait, Next, End}
use Rattle.ledger.specs.Parts.{Told, and_part, Fits, IsDamaged, IsTold, TellsLast}
use Rattle.ledger.specs.inner.Found.{ending_of}

-- how a cell ends after these records, before which so many of its bytes were passed
abbrev pub ending_by : Bool → (place left : ℕ) → Ending
ending_by false place left = ending_of left
ending_by true place left = Damaged place

abbrev pub ending_after : (passed : ℕ) → MoreRecords → (len : ℕ) → Ending
ending_after passed more len =
    ending_by more.is_damaged (passed + more.end) (len - more.end)

-- a part that says these records
abbrev pub IsNextPart : MoreRecords → Part → Type 0
IsNextPart more part = (part.head ≡ None) × (part.records.items ≡ more.records.items)

-- the last one, and how a cell ends after it
abbrev pub IsLastPart : MoreRecords → Ending → LastPart → Type 0
IsLastPart more ending last = IsNextPart more last.part × (last.ending ≡ ending)

-- where headers and records end in a cell of `len` bytes that isn't damaged
abbrev pub text_end : Ending → ℕ → Option ℕ
text_end Whole len = Some len
text_end (Torn count) len = Some (len - count)
text_end (Damaged place) len = None

-- a part that says what these contents do
abbrev pub IsPartOf : Contents → Part → Type 0
IsPartOf contents part =
    (part.head ≡ Some (record { owner = contents.owner; names_weights = contents.names_weights }))
    × (part.records.items ≡ contents.records.items)

-- what is kept after a part: `passed` bytes are passed, and the rest is kept
pub record Keeps (owner : Owner) (passed : ℕ) (rest : List ℕ) (kept : Kept) : Type 0 where
  pub owner_is : kept.owner ≡ owner
  pub passed_is : kept.passed ≡ passed
  pub bytes_are : kept.bytes.items ≡ rest

-- after the first part
abbrev pub KeepsFirst : Contents → ℕ → List ℕ → Kept → Type 0
KeepsFirst contents passed rest kept =
    IsPartOf contents kept.part × Keeps contents.owner passed rest kept

-- after more records
abbrev pub KeepsNext : Owner → MoreRecords → ℕ → List ℕ → Kept → Type 0
KeepsNext owner more passed rest kept =
    IsNextPart more kept.part × Keeps owner passed rest kept

-- what the bytes that were taken say, after what was given
abbrev pub IsStep : (taken : List ℕ) → Told → Step → Type 0
IsStep taken told Wait = ⊤
IsStep taken told (Next kept) =
    Fits told kept.part
    × IsTold kept.owner kept.passed kept.bytes.items taken (and_part told kept.part)
IsStep taken told (End last) =
    IsDamaged last.ending × ((more : List ℕ) → TellsLast (taken ++ more) told last)
