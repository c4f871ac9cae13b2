-- What a check against a file comes to, and where that is said.
use Rattle.std.specs.Prelude.{◌≡◌, ℕ, Bool, true, false, List, [], Option, Some, None, IfSome}
use Rattle.std.specs.Prelude.{Result, Ok, Err}
use Rattle.std.specs.Io.KnownBytes.{Appends}
use Rattle.folder_checks.specs.declared.report.Detail.{Detail}
use Rattle.known_bags.specs.declared.sources.SourceFault.{SourceFault}
use Rattle.known_bags.specs.declared.sources.SourceFault.TheVariants.{Unread}
use Rattle.known_bags.specs.Sources.{IsUnread}
use Rattle.outcomes.specs.Outcomes.{Outcome}
use Rattle.registered_checks.specs.Held.{Given}
use Rattle.registered_checks.specs.Checks.{IsSaid, IsQuiet}
use Rattle.registered_checks.specs.Lists.{AnswersTo, WhereOpened}

-- what a file has, where that is known; none inside where it can't be read
abbrev pub File : Type 0
File = Option (Option (List ℕ))

-- what a read of the file may give: all its bytes; or that it can't be read, if it can't, or that
-- there is no memory for them
abbrev pub MayGive : File → Result (List ℕ) SourceFault → Type 0
MayGive file (Ok bytes) = IfSome file (λ known. known ≡ Some bytes)
MayGive file (Err fault) = IsUnread fault × (fault ≡ Unread → IfSome file (λ known. known ≡ None))

-- The file was read, and there are folders: the first of these. Else no folder is checked, and the
-- second holds of what is written.
abbrev pub WhereRead : {F E : Type 0} → File → Result F E → (List ℕ → F → Type 0)
    → (Outcome → Type 0) → Type 0
WhereRead file folders P Q =
    (read : Result (List ℕ) SourceFault) × MayGive file read × WhereOpened read folders P Q

-- how a check against a file may end, and what is then written and said: as a check against its
-- bytes; or, if it can't be read, or there is no memory, why, and nothing is said
abbrev pub AnswersToFile : {F E : Type 0} → File → Result F E → (gives : F → Option Given)
    → (place : F → Option (List ℕ)) → Detail → (paths : List (List ℕ))
    → (Outcome → List ℕ → Type 0) → Type 0
AnswersToFile file folders gives place detail paths P =
    WhereRead file folders
    (λ bytes them. AnswersTo bytes detail (gives them) (place them) paths P)
    (λ outcome. P outcome [])

-- These words were said: to the output, if the versions are to be printed, and nothing to the other
-- writer; and else to the other one, and nothing to the output.
abbrev pub IsSaidOn : (versions : Bool) → (old new : Option (List ℕ)) → (before after : ℕ)
    → (other_old other_new : Option (List ℕ)) → (other_before other_after : ℕ)
    → (alone status : ℕ) → (words : List ℕ) → Type 0
IsSaidOn true old new before after other_old other_new other_before other_after alone status
    words =
    IsSaid old new before after alone status words
    × IsQuiet other_old other_new other_before other_after
IsSaidOn false old new before after other_old other_new other_before other_after alone status
    words =
    IsSaid other_old other_new other_before other_after alone status words
    × IsQuiet old new before after

-- The output took the whole text of the outcome. Then these words were said, where they have to be,
-- after a check of the outcome's status.
abbrev pub EndsOn : (versions : Bool) → (old new : Option (List ℕ)) → (before after : ℕ)
    → (other_old other_new : Option (List ℕ)) → (other_before other_after : ℕ) → (status : ℕ)
    → Outcome → List ℕ → Type 0
EndsOn versions old new before after other_old other_new other_before other_after status outcome
    words =
    (mid : Option (List ℕ)) × Appends old mid outcome.text
    × IsSaidOn versions mid new before after other_old other_new other_before other_after
    outcome.status status words
