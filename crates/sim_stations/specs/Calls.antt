-- A call as the input that the definitions of a site name.
use Rattle.std.specs.Prelude.{ℕ}
use Rattle.bag_check.specs.Check.{check_of}
use Rattle.dgram.specs.Decoded.{message_of}
use Rattle.site.specs.Calls.{Input, Deposits, Proposes, Recovers, Asks, Arrives}
use Rattle.sim_stations.specs.declared.site_call.SiteCall.{SiteCall}
use Rattle.sim_stations.specs.declared.site_call.SiteCall.TheVariants as calls

-- a tree by what the check says of it, bytes by the message of the federation that they are, if any
abbrev pub input_of : (federation : ℕ) → SiteCall → Input
input_of federation (calls.Deposit slot facts) = Deposits slot.now (check_of facts.now)
input_of federation (calls.Propose slot) = Proposes slot.now
input_of federation (calls.Recover slot) = Recovers slot.now
input_of federation (calls.Ask slot member) = Asks slot.now member
input_of federation (calls.Arrive bytes) = Arrives (message_of federation bytes.now)
