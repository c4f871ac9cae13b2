-- All that is wrong with a tree of files, and its text: a line for each fault at each place.
use Rattle.std.specs.Prelude.{ℕ, Bool, true, false, List, [], ◌∷◌, ◌++◌, map, Option, Some, None}
use Rattle.std.specs.List.{flat_map}
use Rattle.std.specs.Fmt.{decimal}
use Rattle.bag_text.specs.Algorithms.{algorithm_name}
use Rattle.bag_tree.specs.Facts.{TreeFacts}
use Rattle.bag_check.specs.declared.fault.BagFault.{BagFault}
use Rattle.bag_check.specs.Check.{all_faults}
use Rattle.bag_check.specs.Complete.{gaps}
use Rattle.bag_check.specs.Fault.{number_of}
use Rattle.tokens.specs.Escapes.{escaped_text}
use Rattle.bag_explain.specs.Places.{Place, at_file, at_line, at_entry, at_digest, at_unlisted}
use Rattle.bag_explain.specs.Places.{places_of}

-- a fault, and a place where it holds
pub record Finding : Type 0 where
  pub fault : BagFault
  pub place : Place

-- the fault at each of its places
abbrev pub findings_by : TreeFacts → BagFault → List Finding
findings_by facts fault =
    map (λ place. record { fault = fault; place = place }) (places_of fault facts)

-- all that is wrong, in the order of the faults' numbers
unfoldable pub findings_of : TreeFacts → List Finding
findings_of facts = flat_map (findings_by facts) all_faults

-- what keeps the tree from being a complete bag: all of that but wrong digests
unfoldable pub gap_findings_of : TreeFacts → List Finding
gap_findings_of facts = flat_map (findings_by facts) gaps

-- the list has an element
abbrev pub has_some : {X : Type 0} → List X → Bool
has_some [] = false
has_some (x ∷ xs) = true

-- the fault of the first finding
abbrev pub first_of : List Finding → Option BagFault
first_of [] = None
first_of (finding ∷ findings) = Some finding.fault

-- ---- the text

-- the line of this number, as `manifest-md5.txt:3`
abbrev pub printed_line : List ℕ → ℕ → List ℕ
printed_line name line = name ++ 58 ∷ decimal line

-- a place as words, with paths escaped
abbrev pub printed_place : Place → List ℕ
printed_place (at_file path) = escaped_text path
printed_place (at_line name line) = printed_line name line
printed_place (at_entry path name line) = escaped_text path ++ 32 ∷ printed_line name line
printed_place (at_digest path algorithm name line) =
    escaped_text path ++ 32 ∷ (algorithm_name algorithm ++ 32 ∷ printed_line name line)
printed_place (at_unlisted path name) = escaped_text path ++ 32 ∷ name

-- the fault's number, a space, and the place
abbrev pub printed_fault : BagFault → Place → List ℕ
printed_fault fault place = decimal (number_of fault) ++ 32 ∷ (printed_place place ++ 10 ∷ [])

-- the lines of a fault at these places
abbrev pub printed_places : BagFault → List Place → List ℕ
printed_places fault places = flat_map (printed_fault fault) places

-- a line for each finding
unfoldable pub explanation_of : TreeFacts → List ℕ
explanation_of facts =
    flat_map (λ finding. printed_fault finding.fault finding.place) (findings_of facts)

-- the same for what keeps it from being complete
unfoldable pub gap_explanation_of : TreeFacts → List ℕ
gap_explanation_of facts =
    flat_map (λ finding. printed_fault finding.fault finding.place) (gap_findings_of facts)
