use Rattle.udp_site.proofs.Handed.{is_err}
use Rattle.catch_up.proofs.Reports.{stops_in_rounds, stops_in_open, all_written}
use Rattle.catch_up.proofs.rounds.report_on.Goals as goal

pub returns-in_err-same-clause-asked : goal.returns-in_err-same-clause-asked
returns-in_err-same-clause-asked g c =
    rw (is_err c.from_residual.result _ c.from_residual.ensures.1)
    (stops_in_rounds c.args.seconds c.args.asked.now c.args.versions.now _ _ _ _ _ _
    c.in_err-same.field-0.0 c.in_err-same.ensures.asked)

pub returns-in_err-write_open-clause-asked : goal.returns-in_err-write_open-clause-asked
returns-in_err-write_open-clause-asked g c =
    rw (is_err c.from_residual-in_err-write_open.result _
    c.from_residual-in_err-write_open.ensures.1)
    (stops_in_open c.args.seconds c.args.asked.now c.args.versions.now _ _ _ _ _ _
    c.ask_rounds.new.versions c.in_ok-same.same _ c.in_err-write_open.field-0.0
    c.in_ok-same.ensures.asked c.in_err-write_open.ensures.err)

pub returns-clause-asked : goal.returns-clause-asked
returns-clause-asked g c =
    all_written c.args.seconds c.args.asked.now c.args.versions.now _ _ _ _ _ _
    c.ask_rounds.new.versions c.in_ok-same.same _ _ c.write_count.result
    c.in_ok-same.ensures.asked c.in_ok-write_open.ensures.ok c.write_count.ensures.status
    c.write_count.ensures.ok c.write_count.ensures.err
