use Rattle.std.proofs.Common.{◌≡◌, ℕ, true, List, [], take, sym, ap, ◌∙◌, refl}
use Rattle.std.specs.Cmp.Lexicographic.{slice_cmp}
use Rattle.std.specs.Ordering.{nat_cmp}
use Rattle.std.specs.declared.cmp.Ordering.TheVariants.{Less}
use Rattle.std.proofs.lemmas.Bool.{false_from_ne_true}
use Rattle.std.proofs.lemmas.List.{take_all}
use Rattle.bag_check.specs.Manifests.{is_listed}
use Rattle.bag_check.specs.Check.{repeats}
use Rattle.bag_check.proofs.AscendingPaths.{IsUpTo, less_from_not_ge, up_to_next}
use Rattle.bag_check.proofs.Repeats.{listed_next, repeat_passed}
use Rattle.bag_check.proofs.entries.is_ascending.Goals as goal

pub loop-entry-init : goal.loop-entry-init
unfolding repeats
loop-entry-init c = record { text = ([], (refl, refl)); below = λ q listed. cc; once = refl }

pub loop-entry-preserved : goal.loop-entry-preserved
loop-entry-preserved c =
    let entry = c.entry-item.result in
    let entries = c.args.entries.now in
    let last = c.loop-entry.last.now in
    let less : slice_cmp nat_cmp last entry.path ≡ Less =
    rw (← c.path.ensures)
    (less_from_not_ge (slice_cmp nat_cmp last c.path.result.now)
    (sym c.ge.ensures ∙ c.if-ge.false)) in
    let below : (q : List ℕ) → is_listed q (take c.loop-entry.entry-index entries) ≡ true
    → IsUpTo q last = c.loop-entry.invariant.below in
    record {
      text = c.path-last.utf8;
      below =
          λ q listed. rw c.path-last.ensures
          (up_to_next entry.path last q (is_listed q (take c.loop-entry.entry-index entries)) less
          (below q)
          (sym
          (listed_next entries c.loop-entry.entry-index entry c.loop-entry-test.true
          c.entry-item.is q) ∙ listed));
      once =
          repeat_passed entries c.loop-entry.entry-index entry c.loop-entry-test.true
          c.entry-item.is c.loop-entry.invariant.once
          (false_from_ne_true (is_listed entry.path (take c.loop-entry.entry-index entries))
          (λ listed. below entry.path listed less));
    }

pub returns : goal.returns
returns c = λ yes.
    ap repeats (sym (take_all c.loop-entry.entry-index c.args.entries.now c.loop-entry-test.false))
    ∙ c.loop-entry.invariant.once
