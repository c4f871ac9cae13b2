use Rattle.std.proofs.Common.{refl}
use Rattle.site.proofs.Asked.{asked}
use Rattle.site.proofs.member_site.Site.ask.Goals as goal

pub returns-clause-answer : goal.returns-clause-answer
returns-clause-answer g c opened volatile stands =
    asked g.C.Cell.device c.args.self.now volatile c.args.slot.now c.in_ok-slot.slot c.args.to
    c.number.result _ stands c.in_ok-slot.ensures c.number.ensures refl c.in_ok-sends.ensures
