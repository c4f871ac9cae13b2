-- What a turn begins with, in the code's variables.
use Rattle.std.specs.Prelude.{List, [], ◌∷◌, Option, Result, Ok, Err}
use Rattle.udp_site.specs.declared.fault.ServeFault.{ServeFault}
use Rattle.udp_site.specs.declared.fault.ServeFault.TheVariants as faults
use Rattle.udp_site.specs.declared.turn.Turn.{Turn}
use Rattle.udp_site.specs.Traffic.{Move, Took, Failed, Grows, taken}

-- what the turn brings was taken in, or the receive failed; or memory ran out
abbrev pub Receives :
    (before after : Option (List Move)) → Result Turn ServeFault → Type 0
Receives before after (Ok turn) = Grows before after (Took (taken turn) ∷ [])
Receives before after (Err faults.Port) = Grows before after (Failed ∷ [])
Receives before after (Err faults.Memory) = Grows before after []
Receives before after (Err fault) = ⊥
