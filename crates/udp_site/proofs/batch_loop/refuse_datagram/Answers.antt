use Rattle.std.proofs.Common.{rules, ◌≡◌}
use Rattle.dgram.specs.Decoded.{message_of}
use Rattle.udp_site.specs.Requests.{request_in}
use Rattle.udp_site.specs.Turns.{deposit_replies}
use Rattle.udp_site.specs.BatchTurns.{refused_deposit}
use Rattle.udp_site.proofs.Handed.{is_err, grows_by_no_posts}
use Rattle.udp_site.proofs.batch_loop.refuse_datagram.Goals as goal

pub returns-in_err-reply_to_deposit-in-Deposit-clause-handed :
    goal.returns-in_err-reply_to_deposit-in-Deposit-clause-handed
returns-in_err-reply_to_deposit-in-Deposit-clause-handed g c =
    let same : deposit_replies c.federation-federation.result c.number.result c.args.client
    c.in-Deposit.slot c.deposit_answer-said.result
    ≡ refused_deposit c.args.site.now c.args.fault
    (request_in c.args.client
    (message_of c.args.site.now.book.owner.members.federation c.args.bytes.now)) = search rules in
    rw (is_err _ _ c.from_residual-in_err-reply_to_deposit-in-Deposit.ensures.1)
    (rw same at c.in_err-reply_to_deposit-in-Deposit.ensures.handed)

pub returns-in-Hear-clause-handed : goal.returns-in-Hear-clause-handed
returns-in-Hear-clause-handed g c =
    let federation : c.federation-federation.result
    ≡ c.args.site.now.book.owner.members.federation = search rules in
    let asked = rw (c.in-Hear.is, federation) at c.in_ok-slot.ensures in
    rw (asked c.args.client) (grows_by_no_posts _)

pub returns-in-Query-clause-handed : goal.returns-in-Query-clause-handed
returns-in-Query-clause-handed g c =
    let federation : c.federation-federation.result
    ≡ c.args.site.now.book.owner.members.federation = search rules in
    let asked = rw (c.in-Query.is, federation) at c.in_ok-slot.ensures in
    rw (asked c.args.client) (grows_by_no_posts _)

pub returns-in-Recover-clause-handed : goal.returns-in-Recover-clause-handed
returns-in-Recover-clause-handed g c =
    let federation : c.federation-federation.result
    ≡ c.args.site.now.book.owner.members.federation = search rules in
    let asked = rw (c.in-Recover.is, federation) at c.in_ok-slot.ensures in
    rw (asked c.args.client) (grows_by_no_posts _)

-- the arm Nothing
pub returns-clause-handed : goal.returns-clause-handed
returns-clause-handed g c =
    let federation : c.federation-federation.result
    ≡ c.args.site.now.book.owner.members.federation = search rules in
    let asked = rw (c.in-Nothing.is, federation) at c.in_ok-slot.ensures in
    rw (asked c.args.client) (grows_by_no_posts _)
