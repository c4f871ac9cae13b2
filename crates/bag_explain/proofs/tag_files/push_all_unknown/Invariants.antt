use Rattle.std.proofs.Common.{◌≡◌, ◌++◌, take, string_bytes}
use Rattle.std.specs.List.{flat_map}
use Rattle.bag_check.specs.declared.fault.BagFault.TheVariants.{UnknownAlgorithm}
use Rattle.bag_explain.specs.Places.{unknown_at}
use Rattle.bag_explain.specs.Findings.{printed_places}
use Rattle.bag_explain.proofs.tag_files.push_all_unknown.Given as goal

-- the lines so far are printed
abbrev pub invariant-loop-file : goal.invariant-loop-file
invariant-loop-file l =
    string_bytes l.text ≡ string_bytes l.fn.text
    ++ printed_places UnknownAlgorithm (flat_map unknown_at (take l.file-index l.files))
