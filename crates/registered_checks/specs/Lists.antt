-- What a check against a list comes to, or against a cell.
use Rattle.std.specs.Prelude.{◌⊎◌, ℕ, List, [], Option, IfSome, Result, Ok, Err}
use Rattle.folder_checks.specs.declared.report.Detail.{Detail}
use Rattle.known_bags.specs.declared.known_bag.KnownBag.{KnownBag}
use Rattle.known_bags.specs.declared.sources.SourceFault.{SourceFault}
use Rattle.known_bags.specs.Faults.{fault_outcome, AnswersFault}
use Rattle.known_bags.specs.Sources.{Knows, IsNoSource}
use Rattle.outcomes.specs.Outcomes.{Outcome, no_memory}
use Rattle.registered_checks.specs.Held.{Given}
use Rattle.registered_checks.specs.Checks.{ComparesOn, ComparesFirst}

-- how a check against a source of these bytes may end, and what is then written and said: if it
-- knows bags, as a check against these; if it doesn't, why
abbrev pub AnswersTo : (source : List ℕ) → Detail → Option Given → Option (List ℕ)
    → (paths : List (List ℕ)) → (Outcome → List ℕ → Type 0) → Type 0
AnswersTo source detail given place paths P =
    ((known : List KnownBag) × Knows source known
    × IfSome given (λ gives. ComparesOn detail gives place paths known P))
    ⊎ ((fault : SourceFault) × IsNoSource source fault × P (fault_outcome fault) [])

-- what was to be written when the output failed
abbrev pub AnswersFirst : (source : List ℕ) → Detail → Option Given → Option (List ℕ)
    → (paths : List (List ℕ)) → (Outcome → Type 0) → Type 0
AnswersFirst source detail given place paths P =
    ((known : List KnownBag) × Knows source known
    × IfSome given (λ gives. ComparesFirst detail gives place paths P))
    ⊎ ((fault : SourceFault) × IsNoSource source fault × P (fault_outcome fault))

-- A source was read, and there are folders: the first of these. Else no folder is checked, and the
-- second holds of what is written: why the source couldn't be read, or that there was no memory for
-- the folders.
abbrev pub WhereOpened : {S F E : Type 0} → Result S SourceFault → Result F E
    → (S → F → Type 0) → (Outcome → Type 0) → Type 0
WhereOpened (Ok source) (Ok folders) P Q = P source folders
WhereOpened (Ok source) (Err e) P Q = Q no_memory
WhereOpened (Err fault) folders P Q = AnswersFault fault Q
