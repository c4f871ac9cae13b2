-- The findings are the faults, each at the places where it holds.
use Rattle.std.proofs.Common.{◌≡◌, ◌-◌, refl, sym, ap, subst, arith}
use Rattle.std.specs.Prelude.{◌↔◌, Contains}
use Rattle.bag_tree.specs.Facts.{TreeFacts}
use Rattle.bag_check.specs.declared.fault.BagFault.{BagFault}
use Rattle.bag_check.specs.declared.fault.BagFault.TheVariants.{Memory}
use Rattle.bag_check.specs.Check.{all_faults}
use Rattle.bag_check.specs.Fault.{number_of}
use Rattle.bag_explain.specs.Places.{Place, places_of}
use Rattle.bag_explain.specs.Wrong.{IsWrongAt}
use Rattle.bag_explain.specs.Findings.{Finding, findings_by, findings_of}
use Rattle.bag_explain.proofs.Members.{In, contained_in, in_contained, in_some, some_in}
use Rattle.bag_explain.proofs.Members.{in_map, map_in}
use Rattle.bag_explain.proofs.ExactPlaces.{places_exact}

module _ (facts : TreeFacts) where
  -- what is found of a fault has this fault, and one of its places
  pub of_fault : (fault : BagFault) (finding : Finding) → In finding (findings_by facts fault)
      → (finding.fault ≡ fault) × In finding.place (places_of fault facts)
  of_fault fault finding h =
      let at : Place → Finding = λ place. record { fault = fault; place = place } in
      let (place, there, is) = in_map at (places_of fault facts) finding h in (
        ap (λ (f : Finding). f.fault) (sym is),
        subst (λ (f : Finding). In f.place (places_of fault facts)) is there,
      )

  -- a fault that has a place is asked about: all are but `Memory`, which has none
  is_asked : (fault : BagFault) (place : Place) → In place (places_of fault facts)
      → In fault all_faults
  unfolding places_of
  is_asked Memory place h = absurd h
  is_asked fault place h =
      contained_in all_faults fault (number_of fault - 1, omega arith, refl)

  has_place : (finding : Finding) → In finding (findings_of facts)
      → In finding.place (places_of finding.fault facts)
  unfolding findings_of
  has_place finding h =
      let (fault, asked, here) = in_some (findings_by facts) all_faults finding h in
      let (is, there) = of_fault fault finding here in
      subst (λ (f : BagFault). In finding.place (places_of f facts)) (sym is) there

  is_found : (finding : Finding) → In finding.place (places_of finding.fault facts)
      → In finding (findings_of facts)
  unfolding findings_of
  is_found finding h =
      let at : Place → Finding = λ place. record { fault = finding.fault; place = place } in
      some_in (findings_by facts) all_faults finding.fault finding
      (is_asked finding.fault finding.place h)
      (map_in at (places_of finding.fault facts) finding.place h)

-- all that is wrong is found at each of its places, and nothing else
pub found_exact : (facts : TreeFacts) (finding : Finding)
    → Contains (findings_of facts) finding ↔ IsWrongAt finding.fault facts finding.place
found_exact facts finding =
    let places = places_of finding.fault facts in
    let (wrong, placed) = places_exact finding.fault facts finding.place in (
      λ c. wrong (in_contained places finding.place
          (has_place facts finding (contained_in (findings_of facts) finding c))),
      λ h. in_contained (findings_of facts) finding
          (is_found facts finding (contained_in places finding.place (placed h))),
    )
