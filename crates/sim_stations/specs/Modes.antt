-- What one asks of a site before it is called.
use Rattle.std.specs.Prelude.{Bool, true, false}
use Rattle.world_law.specs.Networks.{Mode, Up, Down, NeedsOpening}

abbrev pub is_up : Mode → Bool
is_up (Up volatile) = true
is_up Down = false
is_up NeedsOpening = false

abbrev pub is_down : Mode → Bool
is_down (Up volatile) = false
is_down Down = true
is_down NeedsOpening = false
