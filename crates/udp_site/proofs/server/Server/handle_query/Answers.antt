use Rattle.std.proofs.Common.{[], ◌≡◌}
use Rattle.dgram.specs.declared.body.Body.TheVariants.{QueryReply}
use Rattle.udp_site.specs.Turns.{Serving, number, answer_to, replies_to}
use Rattle.udp_site.proofs.Handed.{is_err, whole_part}
use Rattle.udp_site.proofs.Queried.{answered, unanswered, is_open, known_is, client_reply}
use Rattle.udp_site.proofs.Queried.{query_replied}
use Rattle.udp_site.proofs.Same.{same_number}
use Rattle.udp_site.proofs.server.Server.handle_query.Given.{Over}
use Rattle.udp_site.proofs.server.Server.handle_query.Goals.{After-reply}
use Rattle.udp_site.proofs.server.Server.handle_query.Goals as goal

-- what is known of the slot, and the reply, in the definitions' words
known : (g : Over) (c : After-reply g) (old : Serving g.row.C.Denot)
    → old.site ≡ c.args.self.now.site.now → c.query-known.result ≡ answer_to old c.args.slot
known g c old there =
    known_is old there c.args.slot c.query-known.ensures.reply c.query-known.ensures.needs_open

replied : (g : Over) (c : After-reply g) (old : Serving g.row.C.Denot)
    → old.site ≡ c.args.self.now.site.now
    → replies_to c.federation-federation.result c.args.client c.args.slot
    (QueryReply c.number-from.result c.query_answer-answer.result)
    ≡ client_reply old c.args.client c.args.slot
replied g c old there =
    rw c.query_answer-answer.ensures
    (query_replied old there c.federation-federation.ensures c.members.ensures
    c.number-from.ensures c.args.client c.args.slot (known g c old there))

pub ask_unless_known-requires : goal.ask_unless_known-requires
ask_unless_known-requires g c ok =
    is_open c.args.self.now.site.now.book.needs_opening c.query-known.result
    c.query-known.ensures.needs_open ok

pub returns-clause-comes : goal.returns-clause-comes
returns-clause-comes g c old there serves =
    let told = (goal.at.returns-clause-comes g c).After-reply in
    let known = known g told old there in
    answered c.args.self.now.addresses.now old c.args.client c.args.slot _ there serves _ _ _ _
    c.push_reply.new.lines.items _
    (rw (replied g told old there) at c.in_ok-slot.ensures.hands)
    (rw (
      ← known,
      ← same_number old there c.number.ensures.value c.number-from.ensures,
      ← c.in_ok-slot.ensures.slot,
    ) c.in_ok-push_reply.ensures) _
    (rw (← known, ← c.in_ok-slot.ensures.slot) (c.ask_unless_known.ensures.comes old there serves))

pub returns-in_err-slot-clause-comes : goal.returns-in_err-slot-clause-comes
returns-in_err-slot-clause-comes g c old there serves =
    let told = (goal.at.returns-in_err-slot-clause-comes g c).After-reply in
    rw (is_err _ _ c.from_residual.ensures.1)
    (unanswered c.args.self.now.addresses.now old c.args.client c.args.slot _ there serves _ _ [] []
    _ (rw (replied g told old there) at c.in_err-slot.ensures.hands))

pub returns-in_err-push_reply-clause-comes : goal.returns-in_err-push_reply-clause-comes
returns-in_err-push_reply-clause-comes g c old there serves =
    let told = (goal.at.returns-in_err-push_reply-clause-comes g c).After-reply in
    rw (is_err _ _ c.from_residual-in_err-push_reply.ensures.1)
    (unanswered c.args.self.now.addresses.now old c.args.client c.args.slot _ there serves _ _ [] []
    _ (whole_part _ _ _ (rw (replied g told old there) at c.in_ok-slot.ensures.hands)))
