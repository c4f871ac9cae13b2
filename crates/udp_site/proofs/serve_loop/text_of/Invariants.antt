use Rattle.std.proofs.Common.{◌≡◌, take, flat_map}
use Rattle.std.specs.String.{string_bytes}
use Rattle.lines.specs.Texts.{line_text}
use Rattle.udp_site.specs.Served.{by_identity}
use Rattle.udp_site.proofs.serve_loop.text_of.Given as goal

-- the text of the lines so far
abbrev pub invariant-loop-line : goal.invariant-loop-line
invariant-loop-line l =
    string_bytes l.text ≡ flat_map (line_text by_identity) (take l.line-index l.lines)
