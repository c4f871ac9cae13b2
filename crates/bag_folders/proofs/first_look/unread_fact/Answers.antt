use Rattle.std.proofs.Common.{rules, []}
use Rattle.bag_folders.proofs.first_look.unread_fact.Goals as goal

pub returns-clause-digests : goal.returns-clause-digests
returns-clause-digests c = let none = c.none.ensures [] in ([], search rules)
