use Rattle.std.proofs.Common.{length}
use Rattle.json_lines.proofs.form.+fits.Given as goal

abbrev pub decreases-fits : goal.decreases-fits
decreases-fits l = length l.parts.now
