use Rattle.std.proofs.Common.{◌≡◌, ◌++◌, ℕ, List, [], take, string_bytes}
use Rattle.std.specs.List.{flat_map}
use Rattle.bag_check.specs.declared.fault.BagFault.TheVariants.{DuplicateEntry}
use Rattle.bag_check.specs.Manifests.{is_listed}
use Rattle.bag_check.proofs.Keyed.{has_text}
use Rattle.bag_explain.specs.Places.{files_in, repeated_at, repeated_after}
use Rattle.bag_explain.specs.Findings.{printed_places}
use Rattle.bag_explain.proofs.entries.push_all_repeated.Given as goal

-- the set has the paths that were listed so far, and the lines of those listed again are printed
abbrev pub invariant-loop-entry : goal.invariant-loop-entry
invariant-loop-entry l = record {
  seen : (q : List ℕ) → has_text q l.seen
      ≡ is_listed q (files_in (take l.entry-index l.listing.files));
  printed : string_bytes l.text ≡ string_bytes l.fn.text
      ++ printed_places DuplicateEntry (flat_map (repeated_at l.listing)
      (repeated_after [] (take l.entry-index l.listing.files)));
}
