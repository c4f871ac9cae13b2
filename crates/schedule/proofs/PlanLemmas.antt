-- Lines that are read one after another.
use Rattle.std.proofs.Common.{◌≡◌, ℕ, ◌+◌, true, false, List, [], ◌∷◌, ◌++◌, Option, Some, None}
use Rattle.std.proofs.Common.{Result, Ok, Err, refl, append_assoc}
use Rattle.std.proofs.lemmas.List.{append-nil}
use Rattle.fed_types.specs.Sites.{Membership}
use Rattle.schedule.specs.declared.command.Command.{Command}
use Rattle.schedule.specs.declared.fault.ParseFault.{ParseFault}
use Rattle.schedule.specs.declared.fault.ParseFault.TheVariants.{Line, Memory}
use Rattle.std.specs.Option.{ok_or}
use Rattle.schedule.specs.Plans.{Plan, is_skipped, later_line, later_lines, line_then, plan_from}
use Rattle.schedule.specs.Plans.{plan_after}
use Rattle.schedule.specs.Commands.{federation_of}
use Rattle.schedule.specs.Faults.{IsOrMemory}
use Rattle.tokens.specs.Words.{words_of}

-- the lines read earlier, and then what the rest says
abbrev pub with_earlier : List (Option Command) → Result (List (Option Command)) ℕ
    → Result (List (Option Command)) ℕ
with_earlier front (Ok commands) = Ok (front ++ commands)
with_earlier front (Err fault) = Err fault

-- a line more that was read
pub with_earlier-more : (front : List (Option Command)) (number : ℕ) (line : List ℕ)
    (lines : List (List ℕ)) (said : Option Command) → later_line line ≡ Some said
    → with_earlier front (later_lines number (line ∷ lines))
    ≡ with_earlier (front ++ said ∷ []) (later_lines (number + 1) lines)
unfolding later_lines
with_earlier-more front number line lines said says =
    rw says (go (later_lines (number + 1) lines))
  where
    go : (later : Result (List (Option Command)) ℕ)
        → with_earlier front (line_then (Some said) number later)
        ≡ with_earlier (front ++ said ∷ []) later
    go (Ok commands) = rw append_assoc
    go (Err fault) = refl

-- a line that is at fault
pub with_earlier-fault : (front : List (Option Command)) (number : ℕ) (line : List ℕ)
    (lines : List (List ℕ)) → later_line line ≡ None
    → with_earlier front (later_lines number (line ∷ lines)) ≡ Err number
unfolding later_lines
with_earlier-fault front number line lines says = rw says

-- no line more
pub with_earlier-all : (front : List (Option Command)) (number : ℕ)
    → with_earlier front (later_lines number []) ≡ Ok front
unfolding later_lines
with_earlier-all front number = rw append-nil

-- a line before the federation's that is skipped
pub plan_after-skipped : (skipped : ℕ) (line : List ℕ) (lines : List (List ℕ))
    → is_skipped line ≡ true → plan_after skipped (line ∷ lines) ≡ plan_after (skipped + 1) lines
unfolding plan_after
plan_after-skipped skipped line lines is = rw is

-- the federation's line
pub plan_after-federation : (skipped : ℕ) (line : List ℕ) (lines : List (List ℕ))
    → is_skipped line ≡ false
    → plan_after skipped (line ∷ lines)
    ≡ plan_from skipped (federation_of (words_of line)) (later_lines (skipped + 2) lines)
unfolding plan_after
plan_after-federation skipped line lines isnt = rw isnt

-- no line more
pub plan_after-none : (skipped : ℕ) → plan_after skipped [] ≡ Err 1
unfolding plan_after
plan_after-none skipped = refl

-- a test that answers by a fault
pub fault_from_ok_or : {X : Type 0} (found : Option X) (number : ℕ) (fault : ParseFault)
    → Err fault ≡ ok_or found (Line number) → (found ≡ None) × (fault ≡ Line number)
fault_from_ok_or None number fault e = (refl, cc)
fault_from_ok_or (Some x) number fault e = absurd (cc e)

-- a federation's line that is at fault
pub IsOrMemory-no_federation : (plan : Result Plan ℕ) (skipped : ℕ) (members : Option Membership)
    (later : Result (List (Option Command)) ℕ) (fault : ParseFault)
    → plan ≡ plan_from skipped members later
    → members ≡ None → fault ≡ Line (skipped + 1) → IsOrMemory (Err fault) plan
IsOrMemory-no_federation plan skipped members later fault is none at =
    rw (at, is, none) refl

-- a line after the federation's that is at fault
pub IsOrMemory-later_fault : (plan : Result Plan ℕ) (skipped : ℕ) (members : Option Membership)
    (known : Membership) (later : Result (List (Option Command)) ℕ) (fault : ParseFault)
    → plan ≡ plan_from skipped members later
    → members ≡ Some known → IsOrMemory (Err fault) later → IsOrMemory (Err fault) plan
IsOrMemory-later_fault plan skipped members known later (Line number) is some fails =
    rw (is, some, fails) refl
IsOrMemory-later_fault plan skipped members known later Memory is some fails = tt
