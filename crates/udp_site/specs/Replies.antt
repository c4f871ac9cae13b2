-- What a site answers its clients.
use Rattle.std.specs.Prelude.{Option, Some, None, Result, Ok, Err}
use Rattle.bag_tree.specs.declared.fault.TreeFault.{TreeFault}
use Rattle.bag_tree.specs.declared.fault.TreeFault.TheVariants as trees
use Rattle.bag_tree.specs.Fault as tree_faults
use Rattle.fed_types.specs.declared.bag_id.BagId.{BagId}
use Rattle.bag_check.specs.declared.fault.BagFault.{BagFault}
use Rattle.bag_check.specs.declared.fault.BagFault.TheVariants as bags
use Rattle.bag_check.specs.Fault as bag_faults
use Rattle.dgram.specs.declared.answers.DepositAnswer.{DepositAnswer}
use Rattle.dgram.specs.declared.answers.DepositAnswer.TheVariants as deposit
use Rattle.dgram.specs.declared.answers.QueryAnswer.{QueryAnswer}
use Rattle.dgram.specs.declared.answers.QueryAnswer.TheVariants as query
use Rattle.site.specs.declared.answer.Answer.{Answer}
use Rattle.site.specs.declared.answer.Line.{Line}
use Rattle.site.specs.declared.answer.Line.TheVariants as site_lines
use Rattle.site.specs.declared.answer.Reply.{Reply}
use Rattle.site.specs.declared.answer.Reply.TheVariants as replies
use Rattle.site.specs.declared.fault.SiteFault.{SiteFault}
use Rattle.site.specs.declared.fault.SiteFault.TheVariants as sites

-- the bag is registered; a deposit says nothing else where it isn't refused
abbrev pub line_answer : Option Line → Option DepositAnswer
line_answer (Some (site_lines.Registered bag)) = Some (deposit.Registered bag)
line_answer line = None

-- the fault of a folder that is no valid bag, by its number
abbrev pub bag_answer : BagFault → Option DepositAnswer
bag_answer bags.Memory = None
bag_answer fault = Some (deposit.Bag (bag_faults.number_of fault))

-- why the site refuses a deposit, of which the last four aren't reasons
abbrev pub fault_answer : SiteFault → Option DepositAnswer
fault_answer (sites.InvalidBag fault) = bag_answer fault
fault_answer (sites.OtherDeposit bag) = Some (deposit.OtherDeposit bag)
fault_answer (sites.OtherKnown bag) = Some (deposit.OtherKnown bag)
fault_answer sites.Device = Some deposit.Device
fault_answer sites.Memory = Some deposit.Memory
fault_answer sites.NeedsOpen = Some deposit.NeedsOpen
fault_answer sites.NoDeposit = None
fault_answer sites.RoundsSpent = None
fault_answer sites.AlreadyKnown = None
fault_answer sites.NothingToRecover = None

abbrev pub deposit_answer : Result Answer SiteFault → Option DepositAnswer
deposit_answer (Ok answer) = line_answer answer.line
deposit_answer (Err fault) = fault_answer fault

-- why a folder can't be read, by its number; where memory ran out, that alone. A folder's fault is
-- never that of a path.
abbrev pub tree_answer : TreeFault → Option DepositAnswer
tree_answer trees.Memory = Some deposit.Memory
tree_answer trees.BadPath = None
tree_answer fault = Some (deposit.Tree (tree_faults.number_of fault))

-- what the site knows of a slot
abbrev pub reply_answer : Reply BagId → QueryAnswer
reply_answer (replies.Known bag) = query.Known bag
reply_answer (replies.Pending bag) = query.Pending bag
reply_answer replies.Nothing = query.Nothing

-- a query is refused only where the site needs opening
abbrev pub query_answer : Result (Reply BagId) SiteFault → QueryAnswer
query_answer (Ok reply) = reply_answer reply
query_answer (Err fault) = query.NeedsOpen
