-- The faults that texts have by cases are those that are found.
use Rattle.std.proofs.Common.{◌≡◌, ℕ, ◌+◌, false, List, [], ◌∷◌, ◌++◌, length, Option, Some, None}
use Rattle.std.proofs.Common.{Result, Ok, Err, refl, sym, ap, ◌∙◌, subst, inl, inr, arith}
use Rattle.std.specs.List.{AllByRecursion}
use Rattle.std.specs.Str.Lines.{lines}
use Rattle.std.proofs.lemmas.Bool.{cases_Bool}
use Rattle.fed_types.specs.Sites.{Membership}
use Rattle.schedule.specs.declared.command.Command.{Command}
use Rattle.tokens.specs.Words.{words_of}
use Rattle.schedule.specs.Commands.{federation_of}
use Rattle.schedule.specs.Plans.{is_skipped, later_line, later_lines, line_then, plan_from}
use Rattle.schedule.specs.Plans.{plan_after, plan_of}
use Rattle.schedule.specs.Schedules.{IsSkipped, NamesMembers, Says, AllSay, HasFault, no_command}
use Rattle.schedule.specs.Schedules.{no_federation, no_later_command}
use Rattle.schedule.proofs.PlanLemmas.{plan_after-skipped, plan_after-federation, plan_after-none}
use Rattle.schedule.proofs.SaysLemmas.{is_skipped-from, IsSkipped-is_skipped, later_line-from}
use Rattle.schedule.proofs.SaysLemmas.{Says-later_line, says_nothing, nothing_said, none_of}
use Rattle.schedule.proofs.ScheduleLemmas.{no_skip-members, members-from, NamesMembers-read}

-- what is known of a fault, in lines of which the first has this number: those before it say
-- something, and it says nothing
record FaultIn (ls : List (List ℕ)) (number fault : ℕ) : Type 0 where
  good : List (List ℕ)
  later : List (List ℕ)
  line : List ℕ
  said : List (Option Command)
  is : ls ≡ good ++ line ∷ later
  say : AllSay good said
  none : (what : Option Command) → ¬ Says line what
  at : fault ≡ number + length good

later_lines-fault : (number : ℕ) (good later : List (List ℕ)) (line : List ℕ)
    (said : List (Option Command)) → AllSay good said → ((what : Option Command) → ¬ Says line what)
    → later_lines number (good ++ line ∷ later) ≡ Err (number + length good)
unfolding later_lines
later_lines-fault number [] later line said say none =
    rw (nothing_said line none) (ap (λ (k : ℕ). Err k) (omega arith))
later_lines-fault number (first ∷ good) later line [] say none = absurd say
later_lines-fault number (first ∷ good) later line (x ∷ said) say none =
    rw (later_line-from first x say.0)
    (rw (later_lines-fault (number + 1) good later line said say.1 none)
    (ap (λ (k : ℕ). Err k) (omega arith)))

FaultIn-later_lines : (number : ℕ) (ls : List (List ℕ)) (fault : ℕ)
    → later_lines number ls ≡ Err fault → FaultIn ls number fault
unfolding later_lines
FaultIn-later_lines number [] fault is = absurd (cc is)
FaultIn-later_lines number (line ∷ ls) fault is =
    go (later_line line) refl (later_lines (number + 1) ls) refl
    (FaultIn-later_lines (number + 1) ls fault) is
  where
    go : (first : Option (Option Command)) → later_line line ≡ first
        → (later : Result (List (Option Command)) ℕ) → later_lines (number + 1) ls ≡ later
        → (later_lines (number + 1) ls ≡ Err fault → FaultIn ls (number + 1) fault)
        → line_then first number later ≡ Err fault → FaultIn (line ∷ ls) number fault
    go None nothing later after within is = record {
      good = [];
      later = ls;
      line = line;
      said = [];
      is = refl;
      say = tt;
      none = says_nothing line nothing;
      at = let same : number ≡ fault = cc in omega arith;
    }
    go (Some x) says (Ok more) after within is = absurd (cc is)
    go (Some x) says (Err at) after within is =
        let rest = within (after ∙ is) in
        record {
          good = line ∷ rest.good;
          later = rest.later;
          line = rest.line;
          said = x ∷ rest.said;
          is = cc rest.is;
          say = (Says-later_line line x says, rest.say);
          none = rest.none;
          at = omega (arith, rest.at);
        }

-- ---- all lines

-- a fault in lines, after so many that were skipped
data FaultAfter : ℕ → List (List ℕ) → ℕ → Type 0 where
  nothing : (skipped : ℕ) (ls : List (List ℕ)) (fault : ℕ) → AllByRecursion IsSkipped ls
      → fault ≡ 1 → FaultAfter skipped ls fault
  first : (skipped : ℕ) (ls : List (List ℕ)) (fault : ℕ) (before later : List (List ℕ))
      (line : List ℕ) → ls ≡ before ++ line ∷ later → AllByRecursion IsSkipped before
      → ¬ IsSkipped line → ((m : Membership) → ¬ NamesMembers line m)
      → fault ≡ skipped + length before + 1 → FaultAfter skipped ls fault
  other : (skipped : ℕ) (ls : List (List ℕ)) (fault : ℕ) (before rest : List (List ℕ))
      (line : List ℕ) (m : Membership) → ls ≡ before ++ line ∷ rest
      → AllByRecursion IsSkipped before → NamesMembers line m
      → FaultIn rest (skipped + length before + 2) fault → FaultAfter skipped ls fault

-- one more line that is skipped comes first
skipped_first : (skipped : ℕ) (line : List ℕ) (ls : List (List ℕ)) (fault : ℕ) → IsSkipped line
    → FaultAfter (skipped + 1) ls fault → FaultAfter skipped (line ∷ ls) fault
skipped_first skipped line ls fault skips (nothing _ _ _ are at) =
    nothing skipped (line ∷ ls) fault (skips, are) at
skipped_first skipped line ls fault skips (first _ _ _ before later bad is are goes_on none at) =
    first skipped (line ∷ ls) fault (line ∷ before) later bad (cc is) (skips, are) goes_on none
    (omega arith)
skipped_first skipped line ls fault skips (other _ _ _ before rest named m is are names within) =
    other skipped (line ∷ ls) fault (line ∷ before) rest named m (cc is) (skips, are) names
    (subst (λ (k : ℕ). FaultIn rest k fault) (omega arith) within)

not_skipped : (line : List ℕ) → is_skipped line ≡ false → ¬ IsSkipped line
not_skipped line goes_on skips = cc (is_skipped-from line skips, goes_on)

-- the federation's line, or a later one, is at fault
fault_from : (skipped : ℕ) (line : List ℕ) (ls : List (List ℕ)) (fault : ℕ)
    → is_skipped line ≡ false → (members : Option Membership)
    → federation_of (words_of line) ≡ members
    → plan_from skipped members (later_lines (skipped + 2) ls) ≡ Err fault
    → FaultAfter skipped (line ∷ ls) fault
fault_from skipped line ls fault goes_on None none is =
    let same : skipped + 1 ≡ fault = cc in
    first skipped (line ∷ ls) fault [] ls line refl tt (not_skipped line goes_on)
    (λ m names. cc (none, members-from line m names)) (omega arith)
fault_from skipped line ls fault goes_on (Some m) some is =
    go (later_lines (skipped + 2) ls) refl is
  where
    go : (later : Result (List (Option Command)) ℕ) → later_lines (skipped + 2) ls ≡ later
        → plan_from skipped (Some m) later ≡ Err fault → FaultAfter skipped (line ∷ ls) fault
    go (Ok said) after is = absurd (cc is)
    go (Err at) after is =
        let same : at ≡ fault = cc in
        other skipped (line ∷ ls) fault [] ls line m refl tt (NamesMembers-read line m some)
        (subst (λ (k : ℕ). FaultIn ls k fault) (omega arith)
        (FaultIn-later_lines (skipped + 2) ls fault (rw (after, same))))

FaultAfter-plan_after : (skipped : ℕ) (ls : List (List ℕ)) (fault : ℕ)
    → plan_after skipped ls ≡ Err fault → FaultAfter skipped ls fault
FaultAfter-plan_after skipped [] fault is =
    nothing skipped [] fault tt (cc (plan_after-none skipped, is))
FaultAfter-plan_after skipped (line ∷ ls) fault is =
    elim (cases_Bool (is_skipped line)) [
      | inl skips ↦ skipped_first skipped line ls fault (IsSkipped-is_skipped line skips)
          (FaultAfter-plan_after (skipped + 1) ls fault
          (sym (plan_after-skipped skipped line ls skips) ∙ is))
      | inr goes_on ↦ fault_from skipped line ls fault goes_on (federation_of (words_of line)) refl
          (sym (plan_after-federation skipped line ls goes_on) ∙ is)
    ]

pub HasFault-plan_of : (text : List ℕ) (number : ℕ) → plan_of text ≡ Err number
    → HasFault text number
unfolding plan_of
HasFault-plan_of text number is = go (FaultAfter-plan_after 0 (lines text) number is)
  where
    go : FaultAfter 0 (lines text) number → HasFault text number
    go (nothing _ _ _ are at) = no_command text number are at
    go (first _ _ _ before later line is are goes_on none at) =
        no_federation text number before later line is are goes_on none (omega (arith, at))
    go (other _ _ _ before rest line m is are names within) =
        no_later_command text number before within.good within.later line within.line m within.said
        (cc (is, within.is)) are names within.say within.none (omega (arith, within.at))

-- ---- from the cases

-- lines that are skipped come first
plan_after-skips : (skipped : ℕ) (before ls : List (List ℕ)) → AllByRecursion IsSkipped before
    → plan_after skipped (before ++ ls) ≡ plan_after (skipped + length before) ls
plan_after-skips skipped [] ls are =
    ap (λ (k : ℕ). plan_after k ls) (omega arith)
plan_after-skips skipped (line ∷ before) ls are =
    rw (plan_after-skipped skipped line (before ++ ls) (is_skipped-from line are.0))
    (plan_after-skips (skipped + 1) before ls are.1 ∙ ap (λ (k : ℕ). plan_after k ls) (omega arith))

plan_after-all_skipped : (skipped : ℕ) (ls : List (List ℕ)) → AllByRecursion IsSkipped ls
    → plan_after skipped ls ≡ Err 1
plan_after-all_skipped skipped [] are = plan_after-none skipped
plan_after-all_skipped skipped (line ∷ ls) are =
    plan_after-skipped skipped line ls (is_skipped-from line are.0)
    ∙ plan_after-all_skipped (skipped + 1) ls are.1

no_members : (line : List ℕ) → ((m : Membership) → ¬ NamesMembers line m)
    → federation_of (words_of line) ≡ None
no_members line none =
    none_of (federation_of (words_of line)) (λ m is. none m (NamesMembers-read line m is))

goes_on_from : (line : List ℕ) → ¬ IsSkipped line → is_skipped line ≡ false
goes_on_from line isnt =
    elim (cases_Bool (is_skipped line)) [
      | inl skips ↦ absurd (isnt (IsSkipped-is_skipped line skips))
      | inr goes_on ↦ goes_on
    ]

pub plan_of-fault : (text : List ℕ) (number : ℕ) → HasFault text number
    → plan_of text ≡ Err number
unfolding plan_of
plan_of-fault _ _ (no_command text number are at) =
    plan_after-all_skipped 0 (lines text) are ∙ ap (λ (k : ℕ). Err k) (sym at)
plan_of-fault _ _ (no_federation text number before later line is are isnt none at) =
    rw (is, plan_after-skips 0 before (line ∷ later) are)
    (rw (plan_after-federation (0 + length before) line later (goes_on_from line isnt))
    (rw (no_members line none) (ap (λ (k : ℕ). Err k) (omega arith))))
plan_of-fault _ _
    (no_later_command text number before good later named line m said is are names say none at) =
    let others = good ++ line ∷ later in
    let goes_on = no_skip-members named m names in
    rw (is, plan_after-skips 0 before (named ∷ others) are)
    (rw (plan_after-federation (0 + length before) named others goes_on)
    (rw (members-from named m names)
    (rw (later_lines-fault (0 + length before + 2) good later line said say none)
    (ap (λ (k : ℕ). Err k) (omega arith)))))
