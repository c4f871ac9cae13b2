-- The number of the one fault of runs.
use Rattle.std.specs.Prelude.{ℕ}
use Rattle.simulator.specs.declared.fault.RunFault.{RunFault}
use Rattle.simulator.specs.declared.fault.RunFault.TheVariants.{Memory}

abbrev pub number_of : RunFault → ℕ
number_of Memory = 1
