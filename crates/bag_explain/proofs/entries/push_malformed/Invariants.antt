use Rattle.std.proofs.Common.{◌≡◌, ◌++◌, take, string_bytes}
use Rattle.std.specs.List.{flat_map}
use Rattle.bag_check.specs.declared.fault.BagFault.TheVariants.{MalformedLine}
use Rattle.bag_explain.specs.Places.{malformed_at}
use Rattle.bag_explain.specs.Findings.{printed_places}
use Rattle.bag_explain.proofs.entries.push_malformed.Given as goal

-- the lines so far are printed
abbrev pub invariant-loop-line : goal.invariant-loop-line
invariant-loop-line l =
    string_bytes l.text ≡ string_bytes l.fn.text
    ++ printed_places MalformedLine (flat_map (malformed_at l.listing)
    (take l.line-index l.listing.malformed))
