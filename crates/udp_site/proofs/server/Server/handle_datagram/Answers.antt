use Rattle.dgram.specs.Decoded.{message_of}
use Rattle.udp_site.specs.Turns.{members}
use Rattle.udp_site.proofs.Growth.{Grows-none}
use Rattle.udp_site.proofs.Handed.{is_err}
use Rattle.udp_site.proofs.Requested.{could_come}
use Rattle.udp_site.proofs.Same.{same_federation}
use Rattle.udp_site.proofs.server.Server.handle_datagram.Goals as goal

pub returns-in-Hear-clause-comes : goal.returns-in-Hear-clause-comes
returns-in-Hear-clause-comes g c old there serves =
    let asked =
    rw (c.in-Hear.is, same_federation old there c.federation.ensures c.members.ensures) at
    c.in_ok-message.ensures in
    rw (asked c.args.from) (c.handle_message.ensures.comes old there serves)

pub returns-in-Deposit-clause-comes : goal.returns-in-Deposit-clause-comes
returns-in-Deposit-clause-comes g c old there serves =
    let asked =
    rw (c.in-Deposit.is, same_federation old there c.federation.ensures c.members.ensures) at
    c.in_ok-message.ensures in
    rw (asked c.args.from) (c.handle_deposit.ensures.comes old there serves)

pub returns-in-Query-clause-comes : goal.returns-in-Query-clause-comes
returns-in-Query-clause-comes g c old there serves =
    let asked =
    rw (c.in-Query.is, same_federation old there c.federation.ensures c.members.ensures) at
    c.in_ok-message.ensures in
    rw (asked c.args.from) (c.handle_query.ensures.comes old there serves)

pub returns-in-Recover-clause-comes : goal.returns-in-Recover-clause-comes
returns-in-Recover-clause-comes g c old there serves =
    let asked =
    rw (c.in-Recover.is, same_federation old there c.federation.ensures c.members.ensures) at
    c.in_ok-message.ensures in
    rw (asked c.args.from) (c.handle_recover.ensures.comes old there serves)

pub returns-in-Nothing-clause-comes : goal.returns-in-Nothing-clause-comes
returns-in-Nothing-clause-comes g c old there serves =
    let asked =
    rw (c.in-Nothing.is, same_federation old there c.federation.ensures c.members.ensures) at
    c.in_ok-message.ensures in
    rw (asked c.args.from) (c.drop_datagram.ensures.comes old there serves)

pub returns-in_err-message-clause-comes : goal.returns-in_err-message-clause-comes
returns-in_err-message-clause-comes g c old there serves =
    let was = c.args.self.now in
    let could = could_come g.C.Cell.device was.addresses.now (g.F.Folders.gives was.folders.now) old
    serves c.args.from (message_of (members old).federation c.args.bytes.now) in
    rw (is_err _ _ c.from_residual.ensures.1)
    (could.0, old, could.1, there, 0, Grows-none _)
