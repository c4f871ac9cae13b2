use Rattle.std.proofs.Common.{◌≡◌, ℕ, ◌+◌, List, Option, Some, true, false, Ok, refl, sym, ap, map}
use Rattle.std.proofs.Common.{◌∙◌, Bor, arith}
use Rattle.std.specs.Str.Lines.{lines}
use Rattle.std.proofs.lemmas.Result.{err_from_is_err_and}
use Rattle.tokens.specs.Words.{words_of}
use Rattle.fed_types.specs.Sites.{Membership}
use Rattle.schedule.specs.declared.command.Command.{Command}
use Rattle.schedule.specs.Plans.{plan_of, plan_after, plan_with, plan_from, is_skipped, later_lines}
use Rattle.schedule.proofs.PlanLemmas.{plan_after-skipped, plan_after-federation, plan_after-none}
use Rattle.schedule.proofs.PlanLemmas.{fault_from_ok_or, IsOrMemory-no_federation}
use Rattle.schedule.proofs.PlanLemmas.{IsOrMemory-later_fault}
use Rattle.schedule.proofs.RangeLemmas.{IsPlan-plan_of}
use Rattle.schedule.proofs.parse_schedule.parse.Goals.{After-parse_federation}
use Rattle.schedule.proofs.parse_schedule.parse.Goals as goal

pub loop-line-init : goal.loop-line-init
unfolding plan_of
loop-line-init c = record { so_far = refl; numbers = omega arith }

-- the plan is that of the federation that was read, and of the lines after its line
plan_is : (c : After-parse_federation)
    → plan_of c.args.text.now
    ≡ plan_from c.loop-line.skipped c.parse_federation.result
    (later_lines (c.loop-line.skipped + 2) (lines c.in-Some.after.now))
plan_is c =
    let skipped = c.loop-line.skipped in
    let line = c.in-Some.line.now in
    let after = lines c.in-Some.after.now in
    let isnt : is_skipped line ≡ false = sym c.skips.ensures ∙ c.if-not-skips.true in
    let words : map (λ (word : Bor (List ℕ)). word.now) c.deref-then-not-skips.result.now
    ≡ words_of line = rw c.deref-then-not-skips.ensures.value c.in_ok-words.ensures.value in
    rw (c.loop-line.invariant.so_far, c.in-Some.ensures.value)
    (rw (plan_after-federation skipped line after isnt, ← words, c.parse_federation.ensures) refl)

pub returns-in_err-members : goal.returns-in_err-members
returns-in_err-members c =
    let skipped = c.loop-line.skipped in
    let f =
    fault_from_ok_or c.parse_federation.result (skipped + 1) c.in_err-members.field-0.0
    c.in_err-members.ensures.value in
    let p =
    err_from_is_err_and c.from_residual-in_err-members.result
    c.from_residual-in_err-members.ensures.1 in
    rw (p.1, p.2)
    (IsOrMemory-no_federation (plan_of c.args.text.now) skipped c.parse_federation.result
    (later_lines (skipped + 2) (lines c.in-Some.after.now)) c.in_err-members.field-0.0
    (plan_is (goal.at.returns-in_err-members c).After-parse_federation) f.0 f.1)

pub returns-in_err-commands : goal.returns-in_err-commands
returns-in_err-commands c =
    let skipped = c.loop-line.skipped in
    let p =
    err_from_is_err_and c.from_residual-in_err-commands.result
    c.from_residual-in_err-commands.ensures.1 in
    rw (p.1, p.2)
    (IsOrMemory-later_fault (plan_of c.args.text.now) skipped c.parse_federation.result
    c.in_ok-members.members (later_lines (skipped + 2) (lines c.in-Some.after.now))
    c.in_err-commands.field-0.0
    (plan_is (goal.at.returns-in_err-commands c).After-parse_federation)
    c.in_ok-members.ensures.ok_part c.in_err-commands.ensures.fault)

-- all lines could be read
all_read : (c : After-parse_federation) (members : Membership) (said : List (Option Command))
    → c.parse_federation.result ≡ Some members
    → later_lines (c.loop-line.skipped + 2) (lines c.in-Some.after.now) ≡ Ok said
    → plan_of c.args.text.now ≡ Ok (plan_with c.loop-line.skipped members said)
all_read c members said some says =
    let skipped = c.loop-line.skipped in
    let later = later_lines (skipped + 2) (lines c.in-Some.after.now) in
    rw (plan_is c, some, says) refl

pub new-requires-clause-in_range : goal.new-requires-clause-in_range
new-requires-clause-in_range c =
    let members = c.in_ok-members.members in
    let said = c.in_ok-commands.commands.items in
    IsPlan-plan_of c.args.text.now (plan_with c.loop-line.skipped members said)
    (all_read (goal.at.new-requires-clause-in_range c).After-parse_federation members said
    c.in_ok-members.ensures.ok_part c.in_ok-commands.ensures.value)

pub returns-then-not-skips : goal.returns-then-not-skips
returns-then-not-skips c =
    all_read (goal.at.returns-then-not-skips c).After-parse_federation c.in_ok-members.members
    c.in_ok-commands.commands.items c.in_ok-members.ensures.ok_part c.in_ok-commands.ensures.value
    ∙ ap (λ p. Ok p) (sym c.new.ensures)

pub loop-line-preserved : goal.loop-line-preserved
loop-line-preserved c = record {
  so_far =
      let skipped = c.loop-line.skipped in
      let is : is_skipped c.in-Some.line.now ≡ true = sym c.skips.ensures ∙ c.if-not-skips.false in
      c.loop-line.invariant.so_far ∙ ap (plan_after skipped) c.in-Some.ensures.value
      ∙ plan_after-skipped skipped c.in-Some.line.now (lines c.in-Some.after.now) is;
  numbers = omega (arith, c.in-Some.ensures.shorter);
}

pub returns : goal.returns
returns c =
    c.loop-line.invariant.so_far ∙ ap (plan_after c.loop-line.skipped) c.in_default.ensures.value
    ∙ plan_after-none c.loop-line.skipped
