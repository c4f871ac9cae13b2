use Rattle.udp_site.proofs.Questions.{asks_none}
use Rattle.udp_site.proofs.queries.ask_unless_known.Goals as goal

pub returns-in-Pending-clause-comes : goal.returns-in-Pending-clause-comes
returns-in-Pending-clause-comes g c old there serves =
    rw (c.in-Ok.is, c.in-Pending.is) (c.ask_others.ensures.comes old there serves)

pub returns-in-Nothing-clause-comes : goal.returns-in-Nothing-clause-comes
returns-in-Nothing-clause-comes g c old there serves =
    rw (c.in-Ok.is, c.in-Nothing.is) (c.ask_others-in-Nothing.ensures.comes old there serves)

-- nobody is asked
pub returns-in-Known-clause-comes : goal.returns-in-Known-clause-comes
returns-in-Known-clause-comes g c old there serves =
    rw (c.in-Ok.is, c.in-Known.is) (asks_none c.args.addresses.now old c.args.slot.now _ _)

pub returns-in_default-clause-comes : goal.returns-in_default-clause-comes
returns-in_default-clause-comes g c old there serves =
    rw c.in_default.is (asks_none c.args.addresses.now old c.args.slot.now _ _)
