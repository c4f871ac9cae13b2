use Rattle.register_law.proofs.law.steps_report_what_was_decided.Goals as goal

pub returns : goal.returns
returns g c = λ members events before h slot bag steps reports. steps.reports slot bag reports
