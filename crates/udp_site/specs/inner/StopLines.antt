-- Lines that stop a site that serves.
use Rattle.std.specs.Prelude.{Bool, true, false}
use Rattle.site.specs.declared.fault.SiteFault.TheVariants as sites
use Rattle.lines.specs.declared.line.Line.{Line}
use Rattle.lines.specs.declared.line.Line.TheVariants.{Refused}

-- a call was refused since the site's device failed, now or before
abbrev pub line_of_the_cell : Line → Bool
line_of_the_cell (Refused site sites.Device) = true
line_of_the_cell (Refused site sites.NeedsOpen) = true
line_of_the_cell line = false
