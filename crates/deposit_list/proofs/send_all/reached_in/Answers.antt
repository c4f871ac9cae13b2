use Rattle.std.proofs.Common.{◌≡◌, ◌∙◌, arith, sym, take, true, false}
use Rattle.deposit_list.specs.Reports.{reached_in}
use Rattle.deposit_list.proofs.Windows.{none_reached, reached_at, reached_next}
use Rattle.deposit_list.proofs.send_all.reached_in.Goals as goal
use Rattle.deposit_list.proofs.send_all.reached_in.Goals.{then-reaches, else-reaches}

pub loop-entry-init : goal.loop-entry-init
loop-entry-init c = none_reached c.args.aim

pub overflow_add-reached : goal.overflow_add-reached
overflow_add-reached c =
    let so_far : c.loop-entry.reached
    ≡ reached_in c.args.aim (take c.loop-entry.entry-index c.args.entries.now) =
    c.loop-entry.invariant in
    omega (arith, so_far, reached_at c.args.aim c.args.entries.now c.loop-entry.entry-index)

pub loop-entry-preserved : goal.loop-entry-preserved
loop-entry-preserved c =
    let next = reached_next c.args.aim c.args.entries.now c.loop-entry.entry-index
    c.entry-item.result c.loop-entry.reached c.if-reaches.reached in
    elim c.if-reaches.branch [
      | then-reaches w ↦ next true c.loop-entry-test.true c.entry-item.is c.loop-entry.invariant
          (sym c.reaches.ensures ∙ w.if-reaches.true) w.reached-is
      | else-reaches w ↦ next false c.loop-entry-test.true c.entry-item.is c.loop-entry.invariant
          (sym c.reaches.ensures ∙ w.if-reaches.false) (omega (arith, w.reached-is))
    ]
