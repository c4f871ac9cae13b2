-- What a check of folders against known bags comes to.
use Rattle.std.specs.Prelude.{◌≡◌, ◌≢◌, ◌⊎◌, ℕ, if◌then◌else◌, List, [], ◌++◌, take, Option}
use Rattle.std.specs.Prelude.{Bool, ◌&&◌, is_some}
use Rattle.std.specs.Io.KnownBytes.{Appends}
use Rattle.std.specs.List.{list_all}
use Rattle.cell_device.specs.Calls.{one_more}
use Rattle.folder_checks.specs.declared.report.Detail.{Detail}
use Rattle.folder_checks.specs.Reports.{validity, ReportsOn, ReportsFirst}
use Rattle.known_bags.specs.declared.known_bag.KnownBag.{KnownBag}
use Rattle.outcomes.specs.Outcomes.{Outcome, Writes, no_memory}
use Rattle.registered_checks.specs.Held.{Given, Held, bag_in, held_of}
use Rattle.registered_checks.specs.Comparisons.{are_equal, comparison_text}

-- the status of the check alone, if the bags that are held are those that are known; and else 1
abbrev pub status_of : List Held → List KnownBag → (alone : ℕ) → ℕ
status_of held known alone = if are_equal held known then alone else 1

-- what is written where the check alone ends so: the same, with that status
abbrev pub compared : List Held → List KnownBag → (alone : Outcome) → Outcome
compared held known alone =
    record { status = status_of held known alone.status; text = alone.text }

-- and if memory runs out then: the same, and that it did
abbrev pub not_compared : (alone : Outcome) → Outcome
not_compared alone = record { status = no_memory.status; text = alone.text ++ no_memory.text }

-- how a check may end if alone it ends so, and what is then written and said: the comparison, or,
-- if memory runs out, nothing
abbrev pub ComparesFor : List Held → List KnownBag → (Outcome → List ℕ → Type 0)
    → (alone : Outcome) → Type 0
ComparesFor held known P alone =
    P (compared held known alone) (comparison_text held known) ⊎ P (not_compared alone) []

-- the same of a check of these folders
abbrev pub ComparesOn : Detail → Given → Option (List ℕ) → (paths : List (List ℕ)) → List KnownBag
    → (Outcome → List ℕ → Type 0) → Type 0
ComparesOn detail gives place paths known P =
    ReportsOn (validity detail) gives place paths (ComparesFor (held_of gives paths) known P)

-- what was to be written when the output failed: the lines of the first folders, or those of all,
-- and that memory ran out
abbrev pub ComparesFirst : Detail → Given → Option (List ℕ) → (paths : List (List ℕ))
    → (Outcome → Type 0) → Type 0
ComparesFirst detail gives place paths P =
    ReportsFirst (validity detail) gives place paths P
    ⊎ ReportsOn (validity detail) gives place paths (λ alone. P (not_compared alone))

-- a writer took the whole text of the outcome, the status is its own, and these words are to be
-- said
abbrev pub Ends : Option (List ℕ) → Option (List ℕ) → ℕ → List ℕ → Outcome → List ℕ → Type 0
Ends old new status said outcome words = Writes old new status outcome × (said ≡ words)

-- a writer took all these words, and the status is the one before; or there are some, it took a
-- part of them, and failed, once, and the status is 1
abbrev pub IsSaid : (old new : Option (List ℕ)) → (before after : ℕ) → (alone status : ℕ)
    → (words : List ℕ) → Type 0
IsSaid old new before after alone status words =
    ((status ≡ alone) × (after ≡ before) × Appends old new words)
    ⊎ ((words ≢ []) × (status ≡ 1) × (after ≡ one_more before)
    × ((n : ℕ) × Appends old new (take n words)))

-- a writer took nothing, and didn't fail
abbrev pub IsQuiet : (old new : Option (List ℕ)) → (before after : ℕ) → Type 0
IsQuiet old new before after = (new ≡ old) × (after ≡ before)

-- ---- the status 0

-- each of these folders is a valid bag
abbrev pub are_valid : Given → (paths : List (List ℕ)) → Bool
are_valid gives paths = list_all (λ path. is_some (bag_in (gives path))) paths

-- each of these folders is a valid bag, and these bags are those that are known
abbrev pub agree : Given → (paths : List (List ℕ)) → List KnownBag → Bool
agree gives paths known = are_valid gives paths && are_equal (held_of gives paths) known
