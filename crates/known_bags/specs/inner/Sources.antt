-- What reading a cell answers.
use Rattle.std.specs.Prelude.{◌≡◌, ⊤, List, ◌++◌, Result, Ok, Err}
use Rattle.ledger.specs.declared.contents.Contents.{Contents}
use Rattle.ledger.specs.declared.ending.Ending.{Ending}
use Rattle.ledger.specs.declared.ending.Ending.TheVariants.{Whole, Torn, Damaged}
use Rattle.known_bags.specs.declared.known_bag.KnownBag.{KnownBag}
use Rattle.known_bags.specs.declared.sources.SourceFault.{SourceFault}
use Rattle.known_bags.specs.declared.sources.SourceFault.TheVariants.{Unread, Line, Memory}
use Rattle.known_bags.specs.declared.sources.SourceFault.TheVariants as faults
use Rattle.known_bags.specs.Sources.{IsSound, known_of}

-- whether a cell that ends so isn't damaged
abbrev pub end_of : Ending → Result (Unit {0}) SourceFault
end_of Whole = Ok tt
end_of (Torn count) = Ok tt
end_of (Damaged place) = Err (faults.Damaged place)

-- the bags that a cell's records know after the earlier ones, unless it is damaged
abbrev pub AreOfContents : Contents → (old new : List KnownBag) → Result (Unit {0}) SourceFault
    → Type 0
AreOfContents contents old new (Ok u) =
    IsSound contents.ending × (new ≡ old ++ known_of contents.records.items)
AreOfContents contents old new (Err Memory) = ⊤
AreOfContents contents old new (Err fault) = end_of contents.ending ≡ Err fault
