use Rattle.std.proofs.Common.{refl, sym, ◌∙◌}
use Rattle.site.proofs.HeardMessages.{takes_in, drops, is_open}
use Rattle.site.proofs.member_site.Site.on_message.Goals as goal

pub returns-then-is_from_member-clause-answer : goal.returns-then-is_from_member-clause-answer
returns-then-is_from_member-clause-answer g c =
    takes_in g.C.Cell.device c.args.self.now c.on_body.new.self c.args.message c.on_body.result
    (sym c.is_from_member.ensures ∙ c.if-is_from_member.true) c.on_body.ensures

pub returns-then-is_from_member-clause-fault : goal.returns-then-is_from_member-clause-fault
returns-then-is_from_member-clause-fault g c =
    is_open g.C.Cell.device c.args.self.now c.on_body.new.self c.args.message c.on_body.result
    c.on_body.ensures (rw (← c.self.view_is) c.self.invariant)

pub returns-else-is_from_member-clause-answer : goal.returns-else-is_from_member-clause-answer
returns-else-is_from_member-clause-answer g c =
    drops g.C.Cell.device c.args.self.now c.args.self.now c.args.message c.dropped.result
    (sym c.is_from_member.ensures ∙ c.if-is_from_member.false) c.dropped.ensures refl
