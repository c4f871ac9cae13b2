use Rattle.std.proofs.Common.{◌≡◌, ◌++◌, take}
use Rattle.std.specs.String.{string_bytes}
use Rattle.std.specs.List.{flat_map}
use Rattle.standings.specs.Reports.{site_line}
use Rattle.standings.proofs.site_lines.push_sites.Given as goal

-- the lines of the sites so far
abbrev pub invariant-loop-polled : goal.invariant-loop-polled
invariant-loop-polled l =
    string_bytes l.text
    ≡ string_bytes l.fn.text ++ flat_map (site_line l.most) (take l.polled-index l.sites)
