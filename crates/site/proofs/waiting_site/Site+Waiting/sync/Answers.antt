use Rattle.site.proofs.waiting_site.Site+Waiting.sync.Goals as goal

pub returns-in-Ok-clause-syncs : goal.returns-in-Ok-clause-syncs
returns-in-Ok-clause-syncs g c = rw (← c.self.view_is) c.in-Ok.ensures.syncs
