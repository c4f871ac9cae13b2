use Rattle.site.proofs.Reports.{reports_agree, reported, records_grow}
use Rattle.site.proofs.law.a_site_reports_one_bag.Goals as goal

pub returns-clause-agree : goal.returns-clause-agree
returns-clause-agree c = λ q site records turns. reports_agree q site turns records

pub returns-clause-known : goal.returns-clause-known
returns-clause-known c = reported

pub returns-clause-grow : goal.returns-clause-grow
returns-clause-grow c = records_grow
