use Rattle.std.proofs.Common.{rules, inr}
use Rattle.site_commands.proofs.site_process.open_and_serve.Goals as goal

pub returns-in-Ok : goal.returns-in-Ok
returns-in-Ok g c =
    let serves = c.serve_as.ensures c.in-Ok.ensures.stands in
    inr (inr (record {
      member = search rules;
      membership = c.members_are_well_formed.ensures;
      opened = c.in-Ok.site;
      opens = c.in-Ok.ensures.opened;
      site = serves.0;
      held = serves.1;
      parted = serves.2;
      served = serves.3;
    }))
