use Rattle.std.proofs.Common.{◌≡◌, true, false, sym, ◌∙◌, refl, arith}
use Rattle.std.proofs.lemmas.Grind.{common_steps}
use Rattle.bag_check.specs.Check.{repeats}
use Rattle.bag_check.proofs.Keyed.{has_text, has_text-inserted}
use Rattle.std.proofs.lemmas.Bool.{not-true, not-false}
use Rattle.bag_check.proofs.Repeats.{listed_next, repeat_found, repeat_passed}
use Rattle.bag_check.proofs.entries.repeats.Goals as goal

pub loop-entry-init : goal.loop-entry-init
unfolding repeats
loop-entry-init c =
    record { seen = λ q. grind (arith, common_steps, c.new-seen.ensures.empty); once = refl }

pub returns-then-not-added : goal.returns-then-not-added
returns-then-not-added c =
    let entry = c.entry-item.result in
    let there : has_text c.path.result.now c.loop-entry.seen ≡ true =
    not-false _ (sym c.in_ok-added.ensures.added ∙ c.if-not-added.true) in
    repeat_found c.args.entries.now c.loop-entry.entry-index entry c.loop-entry-test.true
    c.entry-item.is
    (sym (c.loop-entry.invariant.seen entry.path) ∙ rw (← c.path.ensures) there)

pub loop-entry-preserved : goal.loop-entry-preserved
loop-entry-preserved c =
    let before = c.loop-entry.seen in
    let entry = c.entry-item.result in
    let entries = c.args.entries.now in
    let absent : has_text c.path.result.now before ≡ false =
    not-true _ (sym c.in_ok-added.ensures.added ∙ c.if-not-added.false) in
    record {
      seen =
          λ q. rw (
            has_text-inserted c.path.result before c.insert.new.self c.in_ok-added.ensures.updates
                q,
            c.path.ensures,
            c.loop-entry.invariant.seen q,
          )
          (sym (listed_next entries c.loop-entry.entry-index entry c.loop-entry-test.true
          c.entry-item.is q));
      once =
          repeat_passed entries c.loop-entry.entry-index entry c.loop-entry-test.true
          c.entry-item.is c.loop-entry.invariant.once
          (sym (c.loop-entry.invariant.seen entry.path) ∙ rw (← c.path.ensures) absent);
    }
