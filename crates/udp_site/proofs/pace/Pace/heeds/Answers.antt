use Rattle.std.proofs.Common.{◌∙◌, sym, arith}
use Rattle.udp_site.proofs.Signs.{own_changes_nothing, asked_changes_nothing, nothing_changes}
use Rattle.udp_site.proofs.pace.Pace.heeds.Goals as goal

pub returns-then-eq : goal.returns-then-eq
returns-then-eq c = λ isnt federation.
    own_changes_nothing c.args.self.now c.args.now c.args.own c.args.from federation
    c.args.bytes.now (λ i. omega (arith, c.type_inv.bytes i))
    (c.notes_arrivals.ensures c.if-notes_arrivals.false)
    (sym c.eq.ensures ∙ c.if-eq.true) (sym c.is_vote.ensures ∙ isnt)

pub returns-then-is_request : goal.returns-then-is_request
returns-then-is_request c = λ isnt federation.
    asked_changes_nothing c.args.self.now c.args.now c.args.own c.args.from federation
    c.args.bytes.now (λ i. omega (arith, c.type_inv.bytes i))
    (c.notes_arrivals.ensures c.if-notes_arrivals.false)
    (sym c.eq.ensures ∙ c.if-eq.false) (sym c.is_request.ensures ∙ c.if-is_request.true)

pub returns : goal.returns
returns c = λ isnt federation.
    nothing_changes c.args.self.now c.args.now c.args.own c.args.from federation
    c.args.bytes.now c.if-self-ne0.false c.if-self.false
    c.if-self-2.false (c.wants_contacts.ensures isnt) (sym c.eq.ensures ∙ c.if-eq.false)
