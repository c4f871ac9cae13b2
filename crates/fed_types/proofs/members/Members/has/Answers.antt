use Rattle.std.proofs.Common.{arith, length}
use Rattle.fed_types.specs.Laws.Sites.{is_in-sites_to}
use Rattle.fed_types.proofs.members.Members.has.Goals as goal

pub returns-clause-member : goal.returns-clause-member
returns-clause-member c =
    grind (arith, c.count.ensures.value, is_in-sites_to (length c.args.self.weights) c.args.site)
