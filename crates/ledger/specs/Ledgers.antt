-- The text of what a cell says of its versions: a line for each that is listed, and one for the
-- cell's end.
use Rattle.std.specs.Prelude.{ℕ, Bool, not, ◌||◌, ◌&&◌, if◌then◌else◌, List, [], ◌∷◌, ◌++◌, codes}
use Rattle.std.specs.List.{flat_map}
use Rattle.fed_types.specs.Slots.{SlotName}
use Rattle.tokens.specs.Written.{slot_text, bag_text}
use Rattle.records.specs.declared.record.Record.{Record}
use Rattle.ledger.specs.declared.version_filter.VersionFilter.{VersionFilter}
use Rattle.ledger.specs.declared.standing.Standing.{Standing}
use Rattle.ledger.specs.declared.standing.Standing.TheVariants.{Known, Pending, Voted, Asked}
use Rattle.ledger.specs.Cells.{Said}
use Rattle.ledger.specs.Lines.{ending_line}
use Rattle.ledger.specs.Versions.{slots_of, standing_of}

-- whether a version is listed: all are where neither kind is asked for
abbrev pub is_listed : VersionFilter → Standing → Bool
is_listed wanted (Known bag) = wanted.known || not wanted.pending
is_listed wanted (Pending bag) = wanted.pending || not wanted.known
is_listed wanted (Voted bag) = not wanted.known && not wanted.pending
is_listed wanted Asked = not wanted.known && not wanted.pending

-- what is said
abbrev pub word_of : Standing → List ℕ
word_of (Known bag) = codes "known "
word_of (Pending bag) = codes "pending "
word_of (Voted bag) = codes "voted "
word_of Asked = codes "asked "

-- the bag, where one is named
abbrev pub named_bag : Standing → List ℕ
named_bag (Known bag) = bag_text bag
named_bag (Pending bag) = bag_text bag
named_bag (Voted bag) = bag_text bag
named_bag Asked = []

-- the line of a version
unfoldable pub version_line : SlotName → Standing → List ℕ
version_line slot standing =
    word_of standing ++ (slot_text slot ++ (named_bag standing ++ 10 ∷ []))

-- the line of a version that is listed
abbrev pub listed_line : VersionFilter → SlotName → Standing → List ℕ
listed_line wanted slot standing =
    if is_listed wanted standing then version_line slot standing else []

-- the lines of the versions of records
unfoldable pub versions_text : VersionFilter → List Record → List ℕ
versions_text wanted records =
    flat_map (λ slot. listed_line wanted slot (standing_of records slot)) (slots_of records)

-- the lines of a cell's versions, and its end
unfoldable pub ledger_text : VersionFilter → Said → List ℕ
ledger_text wanted said = versions_text wanted said.records ++ ending_line said.ending
