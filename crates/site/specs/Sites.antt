-- A site that is open, as a clause sees it, and what it represents.
use Rattle.fed_types.specs.Quorums.{quorums_of}
use Rattle.book.specs.OpenBooks.{OpenBook}
use Rattle.proposer.specs.VolatileStates.{VolatileState}
use Rattle.proposer.specs.UnderWay.{UnderWay}
use Rattle.site.specs.Contents.{Contents, IsOf}
use Rattle.site.specs.Contents as tables
use Rattle.site.specs.Effects.{Effect}
use Rattle.site.specs.Calls.{Input, effect_of}

-- its book, and what its tables hold
pub record OpenSite (C : Type 0) : Type 0 where
  pub book : OpenBook C
  pub tables : Contents

-- The site represents a volatile state: what its tables count is what the definitions find in its
-- records and in the messages that it has heard, whatever a call has begun in them.
abbrev pub Represents : {C : Type 0} → OpenSite C → VolatileState → Type 0
Represents s volatile =
    (under : UnderWay) × tables.Represents s.tables s.book.records volatile under

-- what is true of every site: its tables are those of its records, and it represents some volatile
-- state
pub record IsInOrder {C : Type 0} (s : OpenSite C) : Type 0 where
  pub of : IsOf s.tables s.book.owner s.book.records
  pub volatile : (volatile : VolatileState) × Represents s volatile

-- what the definitions say that it does with an input in a volatile state
abbrev pub effect : {C : Type 0} → OpenSite C → VolatileState → Input → Effect
effect s volatile input =
    effect_of (quorums_of s.book.owner.members) s.book.owner.site s.book.records volatile input
