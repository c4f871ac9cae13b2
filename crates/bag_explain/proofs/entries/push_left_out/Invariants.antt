use Rattle.std.proofs.Common.{◌≡◌, ◌++◌, take, string_bytes}
use Rattle.std.specs.List.{flat_map}
use Rattle.bag_check.specs.declared.fault.BagFault.TheVariants.{UnlistedFile}
use Rattle.bag_explain.specs.Places.{unlisted_at}
use Rattle.bag_explain.specs.Findings.{printed_places}
use Rattle.bag_explain.proofs.entries.push_left_out.Given as goal

-- the lines so far are printed
abbrev pub invariant-loop-file : goal.invariant-loop-file
invariant-loop-file l =
    string_bytes l.text ≡ string_bytes l.fn.text
    ++ printed_places UnlistedFile (flat_map (unlisted_at l.listing) (take l.file-index l.files))
