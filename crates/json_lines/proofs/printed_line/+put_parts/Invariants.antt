use Rattle.std.proofs.Common.{length}
use Rattle.json_lines.proofs.printed_line.+put_parts.Given as goal

abbrev pub decreases-put_parts : goal.decreases-put_parts
decreases-put_parts l = length l.parts.now
