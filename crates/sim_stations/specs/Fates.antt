-- A call in which the site stops is a call that goes on or fails, and then the stop.
use Rattle.schedule.specs.declared.fate.Fate.{Fate}
use Rattle.schedule.specs.declared.fate.Fate.TheVariants.{Whole, StopsIn, StopsAfter, FailsIn}

-- the fate of a call up to where its site stops, if it does
abbrev pub before_stop : Fate → Fate
before_stop Whole = Whole
before_stop (StopsIn device k) = FailsIn device k
before_stop (StopsAfter j) = Whole
before_stop (FailsIn device k) = FailsIn device k
