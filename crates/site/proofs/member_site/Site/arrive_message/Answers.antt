use Rattle.std.proofs.Common.{Some}
use Rattle.proposer.specs.VolatileStates.{VolatileState}
use Rattle.site.specs.Calls.{Arrives}
use Rattle.site.specs.Sites.{Represents}
use Rattle.site.proofs.Reports.{reported_of}
use Rattle.site.proofs.member_site.Site.arrive_message.Goals as goal

pub returns-then-not-needs_opening-clause-reported :
    goal.returns-then-not-needs_opening-clause-reported
returns-then-not-needs_opening-clause-reported g c opened =
    let some : (volatile : VolatileState) × Represents c.args.self.now volatile =
    rw (← c.self.view_is) c.self.invariant.volatile in
    reported_of g.C.Cell.device c.args.self.now c.on_message.new.self some.0
    (Arrives (Some c.args.message)) c.on_message.result
    (c.on_message.ensures.answer some.0 some.1)
