use Rattle.site.proofs.batch.Batch.sync.Goals as goal

pub returns-in-Ok-clause-syncs : goal.returns-in-Ok-clause-syncs
returns-in-Ok-clause-syncs g c =
    rw (← c.self.view_is) c.in-Ok.ensures.syncs

pub returns-in-Err-Device-clause-syncs : goal.returns-in-Err-Device-clause-syncs
returns-in-Err-Device-clause-syncs g c =
    rw (← c.self.view_is) (rw c.in-Err-Device.field-0-is at c.in-Err-Device.ensures.syncs)
