use Rattle.std.proofs.Common.{◌≡◌, ◌++◌, take, string_bytes}
use Rattle.std.specs.List.{flat_map}
use Rattle.bag_explain.specs.Findings.{printed_places}
use Rattle.bag_explain.specs.inner.Stages.{entry_fault_of, faulty_at}
use Rattle.bag_explain.proofs.entries.push_entries.Given as goal

-- the lines so far are printed
abbrev pub invariant-loop-entry : goal.invariant-loop-entry
invariant-loop-entry l =
    string_bytes l.text ≡ string_bytes l.fn.text
    ++ printed_places (entry_fault_of l.fault) (flat_map (faulty_at l.fault l.files l.listing)
    (take l.entry-index l.listing.files))
