use Rattle.schedule.proofs.CommandLemmas.{command_of-from, command_of-says}
use Rattle.schedule.proofs.FederationLemmas.{federation_of-from, federation_of-says}
use Rattle.schedule.proofs.law.commands_law.Goals as goal

pub returns-clause-commands : goal.returns-clause-commands
returns-clause-commands c =
    λ words command. (command_of-from words command, command_of-says words command)

pub returns-clause-members : goal.returns-clause-members
returns-clause-members c = λ words m. (federation_of-from words m, federation_of-says words m)
