use Rattle.std.proofs.Common.{Some, refl, sym, ◌∙◌}
use Rattle.dgram.specs.Decoded.{message_of}
use Rattle.proposer.specs.VolatileStates.{VolatileState}
use Rattle.site.specs.Calls.{Arrives}
use Rattle.site.specs.Sites.{Represents}
use Rattle.site.proofs.HeardMessages.{drops_bytes}
use Rattle.site.proofs.Reports.{reported_of}
use Rattle.site.proofs.member_site.Site.arrive.Goals as goal

pub returns-in-None-clause-answer : goal.returns-in-None-clause-answer
returns-in-None-clause-answer g c =
    λ opened. drops_bytes g.C.Cell.device c.args.self.now c.args.self.now
    (message_of c.args.self.now.book.owner.members.federation c.args.bytes.now) c.dropped.result
    (sym c.in_ok-message.ensures.message ∙ c.in-None.is) c.dropped.ensures refl

pub returns-in-Some-clause-reported : goal.returns-in-Some-clause-reported
returns-in-Some-clause-reported g c opened =
    let some : (volatile : VolatileState) × Represents c.args.self.now volatile =
    rw (← c.self.view_is) c.self.invariant.volatile in
    reported_of g.C.Cell.device c.args.self.now c.on_message.new.self some.0
    (Arrives (Some c.in-Some.message)) c.on_message.result
    (c.on_message.ensures.answer some.0 some.1)
