use Rattle.std.proofs.Common.{take}
use Rattle.proposer.specs.VolatileStates.{new_volatile}
use Rattle.proposer.specs.UnderWay.{nothing}
use Rattle.site.specs.Contents.{IsOf, Represents}
use Rattle.site.proofs.tables.Tables.of.Given as goal

-- the records so far were noted
abbrev pub invariant-loop-r : goal.invariant-loop-r
invariant-loop-r l = IsOf l.tables l.owner (take l.r-index l.records)
    × Represents l.tables (take l.r-index l.records) new_volatile nothing
