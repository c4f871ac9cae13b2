-- Histories over cells of a kind, as over the cells in files that the program has.
use Rattle.std.specs.Prelude.{[], ◌∷◌, IsSome}
use Rattle.cell_device.specs.Devices.{Device}
use Rattle.records.specs.declared.owner.Owner.{Owner}
use Rattle.site.specs.Sites.{OpenSite}
use Rattle.serving_law.specs.Federations.{Starts}
use Rattle.serving_law.specs.Rules.{IsHistory}

-- each of these cells tells its bytes
abbrev pub TellTheirBytes : {C : Type 0} → (C → Device) → Type 0
TellTheirBytes {C} device = (cell : C) → IsSome (device cell).image

-- a history over them begins with the start of this site
abbrev pub BeginsAHistory : {C : Type 0} → (C → Device) → Owner → OpenSite C → Type 0
BeginsAHistory {C} device owner site =
    (cell : C) × IsHistory device owner.members (Starts owner.site cell site ∷ [])
