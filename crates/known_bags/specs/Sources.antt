-- The bags that the bytes of a source know: of a cell, or of a list of its versions.
use Rattle.std.specs.Prelude.{◌≡◌, ◌≢◌, ◌⊎◌, ◌++◌, ℕ, ⊤, Bool, true, false, List, [], ◌∷◌, take}
use Rattle.std.specs.Prelude.{filter_map, codes, Option, Some, None, Result, Ok, Err, IsOk, IsErr}
use Rattle.std.specs.Prelude.{IsErrAnd}
use Rattle.std.specs.Option.{option_map}
use Rattle.std.specs.Str.{bytes_eq}
use Rattle.std.specs.declared.io.ErrorKind.{ErrorKind}
use Rattle.std.specs.declared.io.ErrorKind.TheVariants.{OutOfMemory}
use Rattle.records.specs.declared.record.Record.{Record}
use Rattle.records.specs.SlotStates as records
use Rattle.ledger.specs.declared.contents.Contents.{Contents}
use Rattle.ledger.specs.declared.ending.Ending.{Ending}
use Rattle.ledger.specs.declared.ending.Ending.TheVariants.{Whole, Torn, Damaged}
use Rattle.ledger.specs.Cells.{HasNoOwner, IsCell}
use Rattle.ledger.specs.Headless.{EndsHeadless}
use Rattle.known_bags.specs.declared.known_bag.KnownBag.{KnownBag}
use Rattle.known_bags.specs.declared.sources.SourceFault.{SourceFault}
use Rattle.known_bags.specs.declared.sources.SourceFault.TheVariants.{Unread, Line, Memory}
use Rattle.known_bags.specs.declared.sources.SourceFault.TheVariants as faults
use Rattle.known_bags.specs.Lists.{known_for, ListKnows, HasOtherLine}

-- a source is read as a cell if it begins with the magic of one, in either layout
abbrev pub is_cell : List ℕ → Bool
is_cell bytes = bytes_eq (take 3 bytes) (codes "BPJ")

-- ---- cells

-- the bag that a Known record knows
abbrev pub known_by : Record → Option KnownBag
known_by r = option_map (known_for r.slot) (records.known_in r.body)

-- the bags of records, in order
unfoldable pub known_of : List Record → List KnownBag
known_of all = filter_map known_by all

-- the cell isn't damaged
abbrev pub IsSound : Ending → Type 0
IsSound Whole = ⊤
IsSound (Torn count) = ⊤
IsSound (Damaged place) = ⊥

-- the bytes are a cell's, or begin with no whole header, and end so
abbrev pub EndsCell : List ℕ → Ending → Type 0
EndsCell bytes ending =
    ((contents : Contents) × IsCell bytes contents × (contents.ending ≡ ending))
    ⊎ (HasNoOwner bytes × EndsHeadless bytes ending)

-- the bytes are a cell's that isn't damaged, whose records know these bags; or, with no whole
-- header, what is there of one that has no records
abbrev pub CellKnows : List ℕ → List KnownBag → Type 0
CellKnows bytes bags =
    ((contents : Contents) × IsCell bytes contents × IsSound contents.ending
    × (bags ≡ known_of contents.records.items))
    ⊎ (HasNoOwner bytes × ((ending : Ending) × EndsHeadless bytes ending × IsSound ending)
    × (bags ≡ []))

-- ---- both

-- the bytes of a source know these bags, in order
abbrev pub Knows : List ℕ → List KnownBag → Type 0
Knows bytes bags =
    ((is_cell bytes ≡ true) × CellKnows bytes bags)
    ⊎ ((is_cell bytes ≡ false) × ListKnows bytes bags)

-- why the bytes are no source
abbrev pub IsNoSource : List ℕ → SourceFault → Type 0
IsNoSource bytes Unread = ⊥
IsNoSource bytes (faults.Damaged place) = (is_cell bytes ≡ true) × EndsCell bytes (Damaged place)
IsNoSource bytes (Line number) = (is_cell bytes ≡ false) × HasOtherLine bytes number
IsNoSource bytes Memory = ⊤

-- what a source gives: the bags that it knows, after the earlier ones; or why it is no source
abbrev pub IsSourceOf : List ℕ → (old new : List KnownBag) → Result (Unit {0}) SourceFault → Type 0
IsSourceOf bytes old new (Ok u) = (bags : List KnownBag) × Knows bytes bags × (new ≡ old ++ bags)
IsSourceOf bytes old new (Err fault) = IsNoSource bytes fault

-- the earlier bags stay, in their places
pub record Keeps (old new : List KnownBag) : Type 0 where
  pub more : List KnownBag
  pub new_is : new ≡ old ++ more

-- ---- files

-- its bytes can't be had, or there was no memory for them
abbrev pub IsUnread : SourceFault → Type 0
IsUnread fault = (fault ≡ Unread) ⊎ (fault ≡ Memory)

-- a source that can't be opened, since an error of this kind came: memory ran out, or it can't be
-- read
abbrev pub IsUnopened : ErrorKind → SourceFault → Type 0
IsUnopened kind fault = (kind ≡ OutOfMemory → fault ≡ Memory) ×
    (kind ≢ OutOfMemory → fault ≡ Unread)

-- what the files of these paths have, where that is known; none inside where one can't be read
abbrev pub Files : Type 0
Files = List ℕ → Option (Option (List ℕ))

-- what a file gives that can't be read: nothing, and why
abbrev pub IsOfNoFile : (old new : List KnownBag) → Result (Unit {0}) SourceFault → Type 0
IsOfNoFile old new result = (new ≡ old) × IsErrAnd result IsUnread

-- A file has these bytes, whichever they are, and they are a source of what was appended, or none;
-- or its bytes aren't available, and nothing was appended. No clause says which bytes a file has.
abbrev pub IsOfSomeFile : (old new : List KnownBag) → Result (Unit {0}) SourceFault → Type 0
IsOfSomeFile old new result =
    ((bytes : List ℕ) × IsSourceOf bytes old new result) ⊎ IsOfNoFile old new result

-- what a file gives: what its bytes know, where these are known
abbrev pub IsOfFile : Option (Option (List ℕ)) → (old new : List KnownBag)
    → Result (Unit {0}) SourceFault → Type 0
IsOfFile (Some (Some bytes)) old new result = IsSourceOf bytes old new result
IsOfFile (Some None) old new result = IsOfNoFile old new result
IsOfFile None old new result = IsOfSomeFile old new result

-- what the files of these paths give, one after the other, up to the first that is no source
abbrev pub AreOfFiles : Files → (paths : List (List ℕ)) → (old new : List KnownBag)
    → Result (Unit {0}) SourceFault → Type 0
AreOfFiles files [] old new result = (new ≡ old) × IsOk result
AreOfFiles files (path ∷ paths) old new result =
    ((next : List KnownBag) × IsOfFile (files path) old next (Ok tt)
    × AreOfFiles files paths next new result)
    ⊎ (IsErr result × IsOfFile (files path) old new result)
