-- What the steps of reading a journal answer.
use Rattle.std.specs.Prelude.{◌≡◌, ◌⊎◌, ◌≤◌, ◌<◌, ◌+◌, ◌-◌, ◌==◌, ℕ, Bool}
use Rattle.std.specs.Prelude.{true, false, List, [], ◌++◌, length, take, drop}
use Rattle.std.specs.Prelude.{Option, Some, None}
use Rattle.std.specs.List.{list_any}
use Rattle.fed_types.specs.Limits.{most_members}
use Rattle.fed_types.specs.Sites.{AreWeights}
use Rattle.fields.specs.Checksums.{without_checksum}
use Rattle.fields.specs.Decoders.{◌>>=◌}
use Rattle.records.specs.declared.layout.Layout.{Layout}
use Rattle.records.specs.declared.layout.Layout.TheVariants.{First, Second}
use Rattle.records.specs.declared.record.Record.{Record}
use Rattle.records.specs.declared.journal.Find.{Find}
use Rattle.records.specs.declared.journal.Find.TheVariants as finds
use Rattle.records.specs.declared.journal.Passed.{Passed}
use Rattle.records.specs.declared.headers.HeaderAt.{HeaderAt}
use Rattle.records.specs.declared.headers.HeaderAt.TheVariants as headers
use Rattle.records.specs.declared.owner.Owner.{Owner}
use Rattle.records.specs.Numbers.{magic}
use Rattle.records.specs.Layout.{checksum_size, encoded, all_encoded, owner_bytes, header_of}
use Rattle.records.specs.Records.{IsRecord, AreRecords}
use Rattle.records.specs.Journals.{length_field, IsTornRecord, IsNoRecord, IsHeaderPart, HasHeader}
use Rattle.records.specs.inner.Decoders.{content_at}

-- the bytes of a whole record, its checksum left out, if that is right
abbrev pub unsealed : Layout → List ℕ → Option (List ℕ)
unsealed First bytes = Some bytes
unsealed Second bytes = without_checksum bytes

-- the record of all of its bytes
unfoldable pub record_in : Layout → List ℕ → Option Record
record_in l bytes = unsealed l bytes >>= λ b. content_at (drop 2 b)

-- the same, the checksum left out without a look at it
unfoldable pub record_before : Layout → List ℕ → Option Record
record_before l bytes = content_at (drop 2 (take (length bytes - checksum_size l) bytes))

-- nothing, or a record cut short
abbrev pub IsShort : Layout → List ℕ → Type 0
IsShort l bytes = (length bytes ≡ 0) ⊎ IsTornRecord l bytes

-- this many bytes, by the length before them
abbrev pub IsSized : Layout → List ℕ → Find → Type 0
IsSized l bytes finds.End = IsShort l bytes
IsSized l bytes (finds.Whole size) =
    (2 ≤ length bytes) × (size ≡ 2 + length_field bytes) × (size ≤ length bytes) × (13 ≤ size)
IsSized l bytes finds.Damaged = IsNoRecord l bytes

-- a record's bytes
abbrev pub IsWhole : Layout → List ℕ → Record → ℕ → Type 0
IsWhole l bytes r size = IsRecord r × (size ≤ length bytes) × (take size bytes ≡ encoded l r)

-- what comes next, where a record is found by its size
abbrev pub IsFound : Layout → List ℕ → Find → Type 0
IsFound l bytes finds.End = IsShort l bytes
IsFound l bytes (finds.Whole size) = (r : Record) × IsWhole l bytes r size
IsFound l bytes finds.Damaged = IsNoRecord l bytes

-- what comes next of bytes that are records: the first of them with its size, or none
pub record IsNext (l : Layout) (bytes : List ℕ) (next : Option (Record × ℕ)) : Type 0 where
  pub first : (r : Record) (more : List ℕ) → IsRecord r → bytes ≡ encoded l r ++ more
      → next ≡ Some (r, length (encoded l r))
  pub none : bytes ≡ [] → next ≡ None
  pub in_range : (n : Record × ℕ) → next ≡ Some n → (1 ≤ n.1) × (n.1 ≤ length bytes)

-- `len` of the bytes are these records
abbrev pub IsPassed : Layout → List ℕ → List Record → ℕ → Type 0
IsPassed l bytes records len =
    AreRecords records × (len ≤ length bytes) × (take len bytes ≡ all_encoded l records)

-- what follows them
abbrev pub Follows : Layout → List ℕ → Bool → Type 0
Follows l rest true = IsNoRecord l rest
Follows l rest false = IsShort l rest

-- records, and what follows them
abbrev pub Passes : Layout → List ℕ → Passed → Type 0
Passes l bytes passed =
    ((records : List Record) × IsPassed l bytes records passed.len)
    × Follows l (drop passed.len bytes) passed.damaged

-- the records whose bytes these are were read, and follow those that were there
abbrev pub HasRead : Layout → List ℕ → (old new : List Record) → Type 0
HasRead l bytes old new =
    (records : List Record) → AreRecords records → bytes ≡ all_encoded l records
    → new ≡ old ++ records

-- the records of the first layout, and then those of the second
abbrev pub HasReadBoth : (old new : List ℕ) → List Record → Type 0
HasReadBoth old new records =
    (none : List Record) × (mid : List Record) × (none ≡ []) × HasRead First old none mid
    × HasRead Second new mid records

-- magic, federation, site
abbrev pub front_of : Owner → List ℕ
front_of owner = magic ++ owner_bytes owner

-- whether there is a 0
abbrev pub has_zero : List ℕ → Bool
has_zero bytes = list_any (λ b. b == 0) bytes

-- `count` weights begin the bytes; or the bytes are fewer weights; or neither
abbrev pub IsWeightsAt : ℕ → List ℕ → HeaderAt → Type 0
IsWeightsAt count bytes (headers.Whole n) =
    (n ≡ count) × (1 ≤ count) × (count ≤ most_members) × (count ≤ length bytes)
    × (has_zero (take count bytes) ≡ false)
IsWeightsAt count bytes headers.Part =
    (count ≤ most_members) × (length bytes < count) × (has_zero bytes ≡ false)
IsWeightsAt count bytes headers.None =
    ((count ≡ 0) ⊎ (most_members < count))
    ⊎ (((length bytes < count) × (has_zero bytes ≡ true))
    ⊎ ((count ≤ length bytes) × (has_zero (take count bytes) ≡ true)))

-- whether the bytes begin with a header of the second layout, or are a prefix of one
abbrev pub IsHeaderAt : Owner → List ℕ → HeaderAt → Type 0
IsHeaderAt owner bytes (headers.Whole count) =
    (weights : List ℕ) × AreWeights weights × (length weights ≡ count)
    × (bytes ≡ header_of owner weights ++ drop (14 + count) bytes)
IsHeaderAt owner bytes headers.Part = IsHeaderPart owner bytes
IsHeaderAt owner bytes headers.None = ¬ IsHeaderPart owner bytes × ¬ HasHeader owner bytes
