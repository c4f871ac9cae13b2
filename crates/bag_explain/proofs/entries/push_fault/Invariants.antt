use Rattle.std.proofs.Common.{◌≡◌, ◌++◌, take, string_bytes}
use Rattle.bag_explain.specs.inner.Stages.{printed_in}
use Rattle.bag_explain.proofs.entries.push_fault.Given as goal

-- the lines of the manifests so far are printed
abbrev pub invariant-loop-listing : goal.invariant-loop-listing
invariant-loop-listing l =
    string_bytes l.text ≡ string_bytes l.fn.text
    ++ printed_in l.fault l.files (take l.listing-index l.listings)
