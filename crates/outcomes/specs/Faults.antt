-- The numbers of the faults that end a run of the program.
use Rattle.std.specs.Prelude.{ℕ}
use Rattle.outcomes.specs.declared.fault.ProgramFault.{ProgramFault}
use Rattle.outcomes.specs.declared.fault.ProgramFault.TheVariants.{Input, Output}

abbrev pub number_of : ProgramFault → ℕ
number_of Input = 1
number_of Output = 2
