-- A file and folders that were opened.
use Rattle.std.proofs.Common.{◌≡◌, ℕ, List, [], Option, None, Some, IfSome, Result, Ok, Err}
use Rattle.std.proofs.Common.{inl, inr, ap}
use Rattle.std.specs.Prelude.{IfOk, IfErr, IsErrOf}
use Rattle.folder_checks.specs.declared.report.Detail.{Detail}
use Rattle.known_bags.specs.declared.sources.SourceFault.{SourceFault}
use Rattle.known_bags.specs.declared.sources.SourceFault.TheVariants.{Unread}
use Rattle.known_bags.specs.Faults.{AnswersFault}
use Rattle.known_bags.specs.Sources.{IsUnread}
use Rattle.outcomes.specs.Outcomes.{Outcome, no_memory}
use Rattle.registered_checks.specs.Held.{Given}
use Rattle.registered_checks.specs.Files.{File, MayGive, WhereRead, AnswersToFile}
use Rattle.registered_checks.specs.Lists.{AnswersTo, WhereOpened}
use Rattle.registered_checks.proofs.Said.{answers_so}

-- what follows from what holds of what is written of a fault
fault_so : (P Q : Outcome → Type 0) → ((outcome : Outcome) → P outcome → Q outcome)
    → (fault : SourceFault) → AnswersFault fault P → AnswersFault fault Q
fault_so P Q so fault (inl p) = inl (so _ p)
fault_so P Q so fault (inr (number, p)) = inr (number, so _ p)

module _ {V : Type 0} (items : V → List ℕ) where
  -- what a read gave, as bytes
  abbrev bytes_read : Result V SourceFault → Result (List ℕ) SourceFault
  bytes_read (Ok v) = Ok (items v)
  bytes_read (Err fault) = Err fault

  may_give : (source : Result V SourceFault) (file : File)
      → IfOk source (λ v. IfSome file (λ known. known ≡ Some (items v)))
      → IfErr source IsUnread
      → (IsErrOf source Unread → IfSome file (λ known. known ≡ None))
      → MayGive file (bytes_read source)
  may_give (Ok v) file bytes fault unread = bytes
  may_give (Err e) file bytes fault unread = (fault, λ is. unread (ap Err is))

  opened_so : {F E : Type 0} (source : Result V SourceFault) (folders : Result F E)
      (P R : List ℕ → F → Type 0) (Q S : Outcome → Type 0)
      → ((bytes : List ℕ) (them : F) → P bytes them → R bytes them)
      → ((outcome : Outcome) → Q outcome → S outcome)
      → WhereOpened source folders (λ v them. P (items v) them) Q
      → WhereOpened (bytes_read source) folders R S
  opened_so (Ok v) (Ok them) P R Q S so also p = so (items v) them p
  opened_so (Ok v) (Err e) P R Q S so also q = also no_memory q
  opened_so (Err fault) folders P R Q S so also q = fault_so Q S also fault q

  -- what holds of a source that was read from a file, and of folders, holds of the file
  pub read_so : {F E : Type 0} (source : Result V SourceFault) (file : File)
      (folders : Result F E) (P R : List ℕ → F → Type 0) (Q S : Outcome → Type 0)
      → IfOk source (λ v. IfSome file (λ known. known ≡ Some (items v)))
      → IfErr source IsUnread
      → (IsErrOf source Unread → IfSome file (λ known. known ≡ None))
      → ((bytes : List ℕ) (them : F) → P bytes them → R bytes them)
      → ((outcome : Outcome) → Q outcome → S outcome)
      → WhereOpened source folders (λ v them. P (items v) them) Q
      → WhereRead file folders R S
  read_so source file folders P R Q S bytes fault unread so also opened = (
    bytes_read source,
    may_give source file bytes fault unread,
    opened_so source folders P R Q S so also opened,
  )

  -- the same, of what holds of both alike
  pub read_of : {F E : Type 0} (source : Result V SourceFault) (file : File)
      (folders : Result F E) (P : List ℕ → F → Type 0) (Q : Outcome → Type 0)
      → IfOk source (λ v. IfSome file (λ known. known ≡ Some (items v)))
      → IfErr source IsUnread
      → (IsErrOf source Unread → IfSome file (λ known. known ≡ None))
      → WhereOpened source folders (λ v them. P (items v) them) Q
      → WhereRead file folders P Q
  read_of source file folders P Q bytes fault unread =
      read_so source file folders P P Q Q bytes fault unread (λ bytes them p. p) (λ outcome q. q)

  -- a check against a source that was read from a file is one against the file
  pub answers_file : {F E : Type 0} (source : Result V SourceFault) (file : File)
      (folders : Result F E) (gives : F → Option Given) (place : F → Option (List ℕ))
      (detail : Detail) (paths : List (List ℕ)) (P Q : Outcome → List ℕ → Type 0)
      → IfOk source (λ v. IfSome file (λ known. known ≡ Some (items v)))
      → IfErr source IsUnread
      → (IsErrOf source Unread → IfSome file (λ known. known ≡ None))
      → ((outcome : Outcome) (words : List ℕ) → P outcome words → Q outcome words)
      → WhereOpened source folders
      (λ v them. AnswersTo (items v) detail (gives them) (place them) paths P)
      (λ outcome. P outcome [])
      → AnswersToFile file folders gives place detail paths Q
  answers_file source file folders gives place detail paths P Q bytes fault unread so =
      read_so source file folders
      (λ bytes them. AnswersTo bytes detail (gives them) (place them) paths P)
      (λ bytes them. AnswersTo bytes detail (gives them) (place them) paths Q)
      (λ outcome. P outcome []) (λ outcome. Q outcome []) bytes fault unread
      (λ bytes them. answers_so P Q so bytes detail (gives them) (place them) paths)
      (λ outcome. so outcome [])
