-- The mark up to which the bytes of a cell are synced, while it is read.
use Rattle.std.specs.Prelude.{◌≡◌, ◌+◌, ◌-◌, ◌≤◌, ℕ, List, length, take, Option, Some, None}
use Rattle.ledger.specs.declared.ending.Ending.{Ending}
use Rattle.ledger.specs.declared.ending.Ending.TheVariants as endings
use Rattle.audit_command.specs.declared.mark.Mark.{Mark}
use Rattle.audit_command.specs.declared.mark.Mark.TheVariants.{Unsaid, Ahead, Passed}
use Rattle.audit_command.specs.CellReadings.{CountWhole}

-- before the first byte
abbrev pub begins : (synced : Option ℕ) → Mark
begins None = Unsaid
begins (Some k) = Ahead k

-- So many bytes were taken, and so many records counted: nothing is said of a mark; or it comes
-- after so many more bytes; or it was passed, and so many more records are synced.
abbrev pub IsMark : (synced : Option ℕ) → (taken : List ℕ) → (counted : ℕ) → Mark → Type 0
IsMark synced taken counted Unsaid = synced ≡ None
IsMark synced taken counted (Ahead more) = synced ≡ Some (length taken + more)
IsMark synced taken counted (Passed left) =
    (k : ℕ) × (n : ℕ) × (synced ≡ Some k) × (k ≤ length taken) × CountWhole (take k taken) n
    × (left ≡ n - counted)

-- the next bytes don't pass it
abbrev pub EndsBefore : (count : ℕ) → Mark → Type 0
EndsBefore count Unsaid = Unit {0}
EndsBefore count (Ahead more) = count ≤ more
EndsBefore count (Passed left) = Unit {0}

-- it after so many bytes, and so many counted records
abbrev pub mark_after : (count records : ℕ) → Mark → Mark
mark_after count records Unsaid = Unsaid
mark_after count records (Ahead more) = Ahead (more - count)
mark_after count records (Passed left) = Passed (left - records)

-- so many more records are synced
abbrev pub more_synced : Mark → ℕ
more_synced Unsaid = 0
more_synced (Ahead more) = 0
more_synced (Passed left) = left

-- how many records come after those that were counted, if the cell ends whole; else none
abbrev pub waiting_if_whole : Ending → (last next : ℕ) → ℕ
waiting_if_whole endings.Whole last next = last + next
waiting_if_whole (endings.Torn count) last next = 0
waiting_if_whole (endings.Damaged place) last next = 0
