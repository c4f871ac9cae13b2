use Rattle.std.proofs.Common.{arith, refl, ◌∙◌}
use Rattle.udp_site.proofs.Handed.{is_err}
use Rattle.catch_up.proofs.Versions.{at_first, one_more, stopped, same_so_far}
use Rattle.catch_up.proofs.rounds.ask_round.Goals as goal

pub loop-version-init : goal.loop-version-init
loop-version-init g c = (at_first c.args.asked.now c.args.versions.now _ _, refl)

pub returns-in_err-same-clause-asked : goal.returns-in_err-same-clause-asked
returns-in_err-same-clause-asked g c =
    rw (is_err c.from_residual.result _ c.from_residual.ensures.1)
    (stopped c.args.asked.now c.args.versions.now _ _ c.loop-version.versions
    c.loop-version.version-index c.version-item.result c.ask_unless_known.new.version _ _ _ _ _
    c.in_err-same.field-0.0 (omega arith) c.in_err-same.ensures.asked c.loop-version.invariant.0)

pub overflow_add-same : goal.overflow_add-same
overflow_add-same g c =
    omega (
      arith,
      same_so_far c.args.asked.now c.args.versions.now _ _ _ _ _ _ _
          (one_more c.args.asked.now c.args.versions.now _ _ c.loop-version.versions
          c.loop-version.version-index c.version-item.result c.ask_unless_known.new.version _ _ _ _
          _ _ (omega arith) (omega arith) c.in_ok-same.ensures.asked c.loop-version.invariant.0),
    )

pub loop-version-preserved : goal.loop-version-preserved
loop-version-preserved g c = (
  one_more c.args.asked.now c.args.versions.now _ _ c.loop-version.versions
      c.loop-version.version-index c.version-item.result c.ask_unless_known.new.version _ _ _ _ _ _
      (omega arith) (omega arith) c.in_ok-same.ensures.asked c.loop-version.invariant.0,
  c.in_ok-same.ensures.cause.same (λ is. absurd (cc is)) ∙ c.loop-version.invariant.1,
)
