-- What is kept of each version.
use Rattle.std.specs.Prelude.{◌≡◌, ◌≢◌, ◌⊎◌, Bool, true, false, Option, Some, None, IsSome}
use Rattle.fed_types.specs.declared.bag_id.BagId.{BagId}
use Rattle.fed_types.specs.declared.vote.Vote.{Vote}
use Rattle.fed_types.specs.Bags.{same_bag}
use Rattle.records.specs.SlotStates.{earlier}
use Rattle.audit.specs.declared.finding.Finding.{Finding}
use Rattle.audit.specs.declared.finding.Finding.TheVariants.{Chosen, Known, Open, Conflict}
use Rattle.audit.specs.declared.row.Row.{Row}

-- the row of a version for which nothing was given
abbrev pub empty_row : Row
empty_row = record { first = None; other = None; chosen = None }

-- a bag is named; and whether it is the first
abbrev pub named_again : Bool → Row → BagId → Row
named_again true row bag = row
named_again false row bag =
    record { first = row.first; other = earlier row.other bag; chosen = row.chosen }

abbrev pub named_after : Option BagId → Row → BagId → Row
named_after None row bag =
    record { first = Some bag; other = row.other; chosen = row.chosen }
named_after (Some first) row bag = named_again (same_bag first bag) row bag

abbrev pub named : Row → BagId → Row
named row bag = named_after row.first row bag

-- a vote is chosen
abbrev pub chosen_also : Row → Vote → Row
chosen_also row vote =
    record { first = row.first; other = row.other; chosen = earlier row.chosen vote }

abbrev pub chosen_in : Row → Vote → Row
chosen_in row vote = chosen_also (named row vote.bag) vote

-- what is found
abbrev pub finding_by : Option BagId → Option BagId → Option Vote → Finding
finding_by None other chosen = Open
finding_by (Some first) (Some other) chosen = Conflict first other
finding_by (Some first) None (Some vote) = Chosen vote
finding_by (Some first) None None = Known first

abbrev pub finding_in : Row → Finding
finding_in row = finding_by row.first row.other row.chosen

-- the bag is the first, or there is another
abbrev pub HasBag : Row → BagId → Type 0
HasBag row bag = (row.first ≡ Some bag) ⊎ IsSome row.other

-- The row has these bags as named, and these votes as chosen: the first of each, and another bag
-- where there is one.
pub record IsRowOf (Named : BagId → Type 0) (ChosenBy : Vote → Type 0) (row : Row) : Type 0 where
  pub first_is : (bag : BagId) → row.first ≡ Some bag → Named bag
  pub other_is : (other : BagId) → row.other ≡ Some other
      → Named other × ((bag : BagId) × (row.first ≡ Some bag) × (bag ≢ other))
  pub chosen_is : (vote : Vote) → row.chosen ≡ Some vote → ChosenBy vote
  pub all_named : (bag : BagId) → Named bag → HasBag row bag
  pub all_chosen : (vote : Vote) → ChosenBy vote → IsSome row.chosen
