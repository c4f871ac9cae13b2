use Rattle.std.proofs.Common.{arith, refl, ◌∙◌}
use Rattle.std.proofs.KnownBytes.{Appends-nil}
use Rattle.udp_site.proofs.Handed.{is_err}
use Rattle.catch_up.proofs.Reports.{no_open_lines, one_more_line, line_cut}
use Rattle.catch_up.proofs.rounds.write_open.Goals as goal

pub loop-version-init : goal.loop-version-init
loop-version-init g c =
    (rw no_open_lines (Appends-nil (g.W.CountedWrite.contents c.args.output.now)), refl)

pub returns-in_err-write_unless_known-clause-err :
    goal.returns-in_err-write_unless_known-clause-err
returns-in_err-write_unless_known-clause-err g c =
    rw (is_err c.from_residual.result _ c.from_residual.ensures.1)
    (line_cut c.args.versions.now c.loop-version.version-index c.version-item.result
    (omega arith) _ _ _ c.loop-version.invariant.0
    (rw c.version-item.is at c.in_err-write_unless_known.ensures.err))

pub loop-version-preserved : goal.loop-version-preserved
loop-version-preserved g c = (
  one_more_line c.args.versions.now c.loop-version.version-index c.version-item.result
      (omega arith) _ _ _ c.loop-version.invariant.0
      (rw c.version-item.is at c.in_ok-write_unless_known.ensures.ok),
  c.in_ok-write_unless_known.ensures.cause.same (λ is. absurd (cc is)) ∙ c.loop-version.invariant.1,
)
