use Rattle.std.proofs.Common.{inl, ◌∙◌}
use Rattle.standings.specs.Reports.{report}
use Rattle.standings.proofs.Reports.{written}
use Rattle.standings.proofs.report.report_standings.Goals as goal

pub returns-in-Ok-clause-told : goal.returns-in-Ok-clause-told
returns-in-Ok-clause-told g c =
    let (heard, (moves, grows, asked), status, text) = c.in-Ok.ensures in
    inl (
      heard,
      moves,
      grows,
      asked,
      written (g.W.CountedWrite.contents c.args.output.now)
          (g.W.CountedWrite.contents c.write_output.new.output) c.write_output.result
          c.in-Ok.status _ (report c.args.federation c.args.by_files heard) status
          (c.as_str.ensures.value ∙ text) c.write_output.ensures.ok c.write_output.ensures.err,
    )
