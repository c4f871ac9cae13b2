-- The schedules that texts are of by cases are those that are read.
use Rattle.std.proofs.Common.{◌≡◌, ℕ, ◌+◌, false, List, [], ◌∷◌, ◌++◌, length, Option, Some, None}
use Rattle.std.proofs.Common.{Result, Ok, Err, refl, sym, ap, ◌∙◌, subst, inl, inr, arith}
use Rattle.std.specs.List.{AllByRecursion}
use Rattle.std.specs.Str.Lines.{lines}
use Rattle.std.proofs.lemmas.Bool.{cases_Bool}
use Rattle.fed_types.specs.Sites.{Membership}
use Rattle.schedule.specs.declared.command.Command.{Command}
use Rattle.tokens.specs.Words.{words_of}
use Rattle.schedule.specs.Commands.{federation_of}
use Rattle.schedule.specs.Lines.{federation_tokens}
use Rattle.schedule.specs.Plans.{Plan, is_skipped, later_line, later_lines, line_then, plan_from}
use Rattle.schedule.specs.Plans.{plan_after, plan_of, plan_with}
use Rattle.schedule.specs.Schedules.{IsSkipped, NamesMembers, AllSay, IsTextOf}
use Rattle.schedule.proofs.FederationLemmas.{federation_of-from, federation_of-says}
use Rattle.tokens.proofs.GrammarLemmas.{words_of-from, HasWords-words_of}
use Rattle.schedule.proofs.PlanLemmas.{plan_after-skipped, plan_after-federation, plan_after-none}
use Rattle.schedule.proofs.SaysLemmas.{is_skipped-from, IsSkipped-is_skipped, no_skip-tokens}
use Rattle.schedule.proofs.SaysLemmas.{later_line-from, Says-later_line}

-- ---- the lines after the federation's

pub later_lines-from : (number : ℕ) (ls : List (List ℕ)) (said : List (Option Command))
    → AllSay ls said → later_lines number ls ≡ Ok said
unfolding later_lines
later_lines-from number [] [] say = refl
later_lines-from number (line ∷ ls) (x ∷ said) say =
    rw (later_line-from line x say.0, later_lines-from (number + 1) ls said say.1)
later_lines-from number _ _ say = absurd say

-- a line and those after it that could be read
pub both_read : (first : Option (Option Command)) (number : ℕ)
    (later : Result (List (Option Command)) ℕ) (said : List (Option Command))
    → line_then first number later ≡ Ok said
    → (x : Option Command) × (more : List (Option Command)) × (first ≡ Some x) × (later ≡ Ok more)
    × (x ∷ more ≡ said)
both_read None number later said is = absurd (cc is)
both_read (Some x) number (Err fault) said is = absurd (cc is)
both_read (Some x) number (Ok more) said is =
    (x, more, refl, refl, cc is)

pub AllSay-later_lines : (number : ℕ) (ls : List (List ℕ)) (said : List (Option Command))
    → later_lines number ls ≡ Ok said → AllSay ls said
unfolding later_lines
AllSay-later_lines number [] said is =
    let none : [] ≡ said = cc in
    subst (AllSay []) none tt
AllSay-later_lines number (line ∷ ls) said is =
    let read = both_read (later_line line) number (later_lines (number + 1) ls) said is in
    subst (AllSay (line ∷ ls)) read.4
    (Says-later_line line read.0 read.2, AllSay-later_lines (number + 1) ls read.1 read.3)

-- ---- the line of the federation

pub no_skip-members : (line : List ℕ) (m : Membership) → NamesMembers line m
    → is_skipped line ≡ false
no_skip-members line m names =
    elim (names.2) [
      | inl named ↦
          no_skip-tokens line names.0 (federation_tokens m m.weights) names.1 named refl
      | inr ones ↦ no_skip-tokens line names.0 (federation_tokens m []) names.1 ones.0 refl
    ]

pub members-from : (line : List ℕ) (m : Membership) → NamesMembers line m
    → federation_of (words_of line) ≡ Some m
members-from line m names =
    rw (words_of-from line names.0 names.1) (federation_of-from names.0 m names.2)

pub NamesMembers-read : (line : List ℕ) (m : Membership) → federation_of (words_of line) ≡ Some m
    → NamesMembers line m
NamesMembers-read line m is = (
  words_of line,
  HasWords-words_of line (words_of line) refl,
  federation_of-says (words_of line) m is,
)

-- ---- all lines

-- what the lines are of a schedule, after so many that were skipped
pub record AreLinesOf (ls : List (List ℕ)) (skipped : ℕ) (plan : Plan) : Type 0 where
  pub before : List (List ℕ)
  pub first : List ℕ
  pub later : List (List ℕ)
  pub is : ls ≡ before ++ first ∷ later
  pub skips : AllByRecursion IsSkipped before
  pub count : skipped + length before ≡ plan.skipped
  pub members : NamesMembers first plan.members
  pub says : AllSay later plan.lines

pub plan_after-from : (skipped : ℕ) (before : List (List ℕ)) (first : List ℕ)
    (later : List (List ℕ)) (plan : Plan) → AllByRecursion IsSkipped before
    → skipped + length before ≡ plan.skipped → NamesMembers first plan.members
    → AllSay later plan.lines
    → plan_after skipped (before ++ first ∷ later) ≡ Ok plan
plan_after-from skipped [] first later plan skips count members says =
    rw (plan_after-federation skipped first later (no_skip-members first plan.members members))
    (rw (members-from first plan.members members)
    (rw (later_lines-from (skipped + 2) later plan.lines says)
    (ap (λ (k : ℕ). Ok (plan_with k plan.members plan.lines)) (omega arith))))
plan_after-from skipped (line ∷ before) first later plan skips count members says =
    plan_after-skipped skipped line (before ++ first ∷ later) (is_skipped-from line skips.0)
    ∙ plan_after-from (skipped + 1) before first later plan skips.1 (omega (arith, count)) members
    says

-- the parts of a schedule that could be read
parts_read : (skipped : ℕ) (members : Option Membership)
    (later : Result (List (Option Command)) ℕ) (plan : Plan)
    → plan_from skipped members later ≡ Ok plan
    → (members ≡ Some plan.members) × (later ≡ Ok plan.lines) × (skipped ≡ plan.skipped)
parts_read skipped None later plan is = absurd (cc is)
parts_read skipped (Some m) (Err fault) plan is = absurd (cc is)
parts_read skipped (Some m) (Ok said) plan is =
    let same : plan_with skipped m said ≡ plan = cc in (
      ap (λ (p : Plan). Some p.members) same,
      ap (λ (p : Plan). Ok p.lines) same,
      ap (λ (p : Plan). p.skipped) same,
    )

pub AreLinesOf-plan_after : (skipped : ℕ) (ls : List (List ℕ)) (plan : Plan)
    → plan_after skipped ls ≡ Ok plan → AreLinesOf ls skipped plan
AreLinesOf-plan_after skipped [] plan is = absurd (cc (plan_after-none skipped, is))
AreLinesOf-plan_after skipped (line ∷ ls) plan is =
    elim (cases_Bool (is_skipped line)) [
      | inl skips ↦
          let rest =
          AreLinesOf-plan_after (skipped + 1) ls plan
          (sym (plan_after-skipped skipped line ls skips) ∙ is) in
          record {
            before = line ∷ rest.before;
            first = rest.first;
            later = rest.later;
            is = cc rest.is;
            skips = (IsSkipped-is_skipped line skips, rest.skips);
            count = omega (arith, rest.count);
            members = rest.members;
            says = rest.says;
          }
      | inr goes_on ↦
          let parts =
          parts_read skipped (federation_of (words_of line)) (later_lines (skipped + 2) ls) plan
          (sym (plan_after-federation skipped line ls goes_on) ∙ is) in
          record {
            before = [];
            first = line;
            later = ls;
            is = refl;
            skips = tt;
            count = omega (arith, parts.2);
            members = NamesMembers-read line plan.members parts.0;
            says = AllSay-later_lines (skipped + 2) ls plan.lines parts.1;
          }
    ]

-- ---- texts

pub plan_of-from : (text : List ℕ) (plan : Plan) → IsTextOf text plan → plan_of text ≡ Ok plan
unfolding plan_of
plan_of-from text plan is =
    rw is.is
    (plan_after-from 0 is.before is.first is.later plan is.skipped (omega (arith, is.count))
    is.members is.says)

pub IsTextOf-plan_of : (text : List ℕ) (plan : Plan) → plan_of text ≡ Ok plan → IsTextOf text plan
unfolding plan_of
IsTextOf-plan_of text plan is =
    let parts = AreLinesOf-plan_after 0 (lines text) plan is in
    record {
      before = parts.before;
      first = parts.first;
      later = parts.later;
      is = parts.is;
      skipped = parts.skips;
      count = omega (arith, parts.count);
      members = parts.members;
      says = parts.says;
    }
