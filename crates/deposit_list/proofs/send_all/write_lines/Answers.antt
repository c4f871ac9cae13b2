use Rattle.std.proofs.Common.{arith, refl, ◌∙◌}
use Rattle.std.proofs.KnownBytes.{Appends-nil}
use Rattle.udp_site.proofs.Handed.{is_err}
use Rattle.catch_up.proofs.Parts.{no_part}
use Rattle.deposit_list.proofs.Windows.{no_lines}
use Rattle.deposit_list.proofs.Reports.{one_more_line, line_cut}
use Rattle.deposit_list.proofs.send_all.write_lines.Goals as goal

pub loop-entry-init : goal.loop-entry-init
loop-entry-init g c =
    (rw (no_lines c.args.to) (Appends-nil (g.W.CountedWrite.contents c.args.output.now)), refl)

pub returns-in_err-line-clause-err : goal.returns-in_err-line-clause-err
returns-in_err-line-clause-err g c =
    rw (is_err c.from_residual.result _ c.from_residual.ensures.1)
    (line_cut c.args.to c.args.entries.now c.loop-entry.entry-index c.entry-item.result
    (omega arith) _ _ _ c.loop-entry.invariant.0 (no_part _ _))

pub returns-in_err-say-clause-err : goal.returns-in_err-say-clause-err
returns-in_err-say-clause-err g c =
    let line = c.as_str.ensures.value ∙ c.in_ok-line.ensures in
    rw (is_err c.from_residual-in_err-say.result _ c.from_residual-in_err-say.ensures.1)
    (line_cut c.args.to c.args.entries.now c.loop-entry.entry-index c.entry-item.result
    (omega arith) _ _ _ c.loop-entry.invariant.0
    (rw (line, c.entry-item.is) at c.in_err-say.ensures.part))

pub loop-entry-preserved : goal.loop-entry-preserved
loop-entry-preserved g c =
    let line = c.as_str.ensures.value ∙ c.in_ok-line.ensures in (
      one_more_line c.args.to c.args.entries.now c.loop-entry.entry-index c.entry-item.result
          (omega arith) _ _ _ c.loop-entry.invariant.0
          (rw (line, c.entry-item.is) at c.in_ok-say.ensures.ok),
      c.in_ok-say.ensures.cause.same (λ is. absurd (cc is)) ∙ c.loop-entry.invariant.1,
    )
