use Rattle.std.proofs.Common.{Ok, Err}
use Rattle.udp_site.specs.Turns.{deposits, takes_tree}
use Rattle.udp_site.proofs.Said.{comes_too}
use Rattle.udp_site.proofs.server.Server.handle_deposit.Goals as goal

pub returns-in-Ok-clause-comes : goal.returns-in-Ok-clause-comes
returns-in-Ok-clause-comes g c old there serves =
    comes_too (takes_tree g.C.Cell.device old c.args.client c.args.slot (Ok c.in-Ok.facts))
    (deposits g.C.Cell.device (g.F.Folders.gives c.args.self.now.folders.now) old c.args.client
    c.args.slot c.args.path.now)
    (λ done next is.
    (Ok c.in-Ok.facts, rw c.as_str.ensures.value at c.in-Ok.ensures.known, is)) _ _ _ _ _ _
    (c.deposit_tree.ensures.comes old there serves)

pub returns-in-Err-clause-comes : goal.returns-in-Err-clause-comes
returns-in-Err-clause-comes g c old there serves =
    comes_too (takes_tree g.C.Cell.device old c.args.client c.args.slot (Err c.in-Err.fault))
    (deposits g.C.Cell.device (g.F.Folders.gives c.args.self.now.folders.now) old c.args.client
    c.args.slot c.args.path.now)
    (λ done next is.
    (Err c.in-Err.fault, rw c.as_str.ensures.value at c.in-Err.ensures.known, is)) _ _ _ _ _ _
    (c.refuse_deposit.ensures.comes old there serves)
