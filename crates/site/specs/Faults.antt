-- The faults: their numbers, and how they come from the faults of a check, a commit and a proposal.
use Rattle.std.specs.Prelude.{ℕ}
use Rattle.bag_check.specs.declared.fault.BagFault.{BagFault}
use Rattle.bag_check.specs.declared.fault.BagFault.TheVariants as checks
use Rattle.book.specs.declared.fault.CommitFault.{CommitFault}
use Rattle.book.specs.declared.fault.CommitFault.TheVariants as commits
use Rattle.proposer.specs.declared.fault.ProposeFault.{ProposeFault}
use Rattle.proposer.specs.declared.fault.ProposeFault.TheVariants as proposals
use Rattle.site.specs.declared.fault.SiteFault.{SiteFault}
use Rattle.site.specs.declared.fault.SiteFault.TheVariants as faults

abbrev pub number_of : SiteFault → ℕ
number_of (faults.InvalidBag fault) = 10
number_of (faults.OtherDeposit bag) = 11
number_of (faults.OtherKnown bag) = 12
number_of faults.Device = 13
number_of faults.Memory = 14
number_of faults.NeedsOpen = 15
number_of faults.NoDeposit = 16
number_of faults.RoundsSpent = 17
number_of faults.AlreadyKnown = 18
number_of faults.NothingToRecover = 19

-- why a tree is not deposited, by what its check says; if memory ran out, the check says nothing
-- about it
abbrev pub check_fault : BagFault → SiteFault
check_fault checks.Memory = faults.Memory
check_fault fault = faults.InvalidBag fault

-- why a record is not committed
abbrev pub commit_fault : CommitFault → SiteFault
commit_fault commits.Device = faults.Device
commit_fault commits.Memory = faults.Memory
commit_fault commits.NeedsOpen = faults.NeedsOpen

-- why no ballot is begun
abbrev pub propose_fault : ProposeFault → SiteFault
propose_fault proposals.RoundsSpent = faults.RoundsSpent
propose_fault proposals.Memory = faults.Memory
