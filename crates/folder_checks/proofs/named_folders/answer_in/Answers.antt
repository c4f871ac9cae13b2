use Rattle.folder_checks.proofs.named_folders.answer_in.Goals as goal

pub returns-in-Lines-clause-ok : goal.returns-in-Lines-clause-ok
returns-in-Lines-clause-ok g c = rw c.in-Lines.is c.name_answer.ensures.ok

pub returns-in-Json-clause-ok : goal.returns-in-Json-clause-ok
returns-in-Json-clause-ok g c = rw c.in-Json.is c.json_answer.ensures.ok
