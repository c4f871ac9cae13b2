-- Why no ballot is begun.
use Rattle.std.specs.Prelude.{Option, Some, None, Result, Ok, Err}
use Rattle.fed_types.specs.Ballots.{BallotNumber}
use Rattle.proposer.specs.declared.fault.ProposeFault.{ProposeFault}
use Rattle.proposer.specs.declared.fault.ProposeFault.TheVariants as faults

-- the ballot, or no round is left
abbrev pub next_or_spent : Option BallotNumber → Result BallotNumber ProposeFault
next_or_spent None = Err faults.RoundsSpent
next_or_spent (Some ballot) = Ok ballot
