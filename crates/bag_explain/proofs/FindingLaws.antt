-- The findings, and the faults that hold.
use Rattle.std.proofs.Common.{◌≡◌, true, cond, List, [], ◌∷◌, ◌++◌, map}
use Rattle.std.proofs.Common.{Option, Some, None, Ok, refl, sym, ap, ◌∙◌}
use Rattle.std.specs.List.{AllByRecursion, flat_map, find}
use Rattle.fed_types.specs.declared.bag_id.BagId.{BagId}
use Rattle.bag_tree.specs.Facts.{TreeFacts}
use Rattle.bag_check.specs.declared.fault.BagFault.{BagFault}
use Rattle.bag_check.specs.Check.{holds, all_faults, first_fault, answer, check_of, identity_of}
use Rattle.bag_check.specs.Valid.{IsValid}
use Rattle.bag_check.proofs.ValidLaws.{valid_checked, checked_valid}
use Rattle.bag_explain.specs.Places.{Place, places_of}
use Rattle.bag_explain.specs.Findings.{Finding, findings_by, findings_of, has_some, first_of}
use Rattle.bag_explain.proofs.FaultTests.{placed}
use Rattle.bag_explain.proofs.NumberLaws.{all_append}

module _ (facts : TreeFacts) where
  abbrev Holds : Finding → Type 0
  Holds finding = holds finding.fault facts ≡ true

  at_each : (fault : BagFault) → holds fault facts ≡ true → (places : List Place)
      → AllByRecursion Holds (map (λ place. record { fault = fault; place = place }) places)
  at_each fault h [] = tt
  at_each fault h (place ∷ places) = (h, at_each fault h places)

  of_fault : (fault : BagFault) (places : List Place) → holds fault facts ≡ has_some places
      → AllByRecursion Holds (map (λ place. record { fault = fault; place = place }) places)
  of_fault fault [] h = tt
  of_fault fault (place ∷ places) h = at_each fault h (place ∷ places)

  of_faults : (faults : List BagFault)
      → AllByRecursion Holds (flat_map (findings_by facts) faults)
  of_faults [] = tt
  of_faults (fault ∷ faults) =
      all_append Holds (findings_by facts fault) (flat_map (findings_by facts) faults)
      (of_fault fault (places_of fault facts) (placed facts fault)) (of_faults faults)

  -- each finding's fault holds
  pub sound : AllByRecursion Holds (findings_of facts)
  unfolding findings_of
  sound = of_faults all_faults

  first_in : (fault : BagFault) (places : List Place) (rest : List Finding)
      (found : Option BagFault) → holds fault facts ≡ has_some places → first_of rest ≡ found
      → first_of (map (λ place. record { fault = fault; place = place }) places ++ rest)
      ≡ cond (holds fault facts) (Some fault) found
  first_in fault [] rest found h same = rw h same
  first_in fault (place ∷ places) rest found h same = rw h refl

  first_among : (faults : List BagFault) → first_of (flat_map (findings_by facts) faults)
      ≡ find (λ fault. holds fault facts) faults
  first_among [] = refl
  first_among (fault ∷ faults) =
      first_in fault (places_of fault facts) (flat_map (findings_by facts) faults)
      (find (λ fault. holds fault facts) faults) (placed facts fault) (first_among faults)

  -- the first finding has the first fault that holds
  pub first : first_of (findings_of facts) ≡ first_fault facts
  unfolding findings_of
  first = first_among all_faults

  none_first : (findings : List Finding) → first_of findings ≡ None → findings ≡ []
  none_first [] h = refl
  none_first (finding ∷ findings) h = cc

  no_fault : (found : Option BagFault) (bag : BagId) → answer facts found ≡ Ok bag → found ≡ None
  no_fault None bag h = refl
  no_fault (Some fault) bag h = absurd (cc h)

  -- there is no finding exactly where the tree is a valid bag
  pub none_valid : findings_of facts ≡ [] → IsValid facts
  unfolding check_of
  none_valid h =
      checked_valid facts (identity_of facts) (ap (answer facts) (sym first ∙ ap first_of h))

  pub valid_none : IsValid facts → findings_of facts ≡ []
  unfolding check_of
  valid_none valid =
      none_first (findings_of facts)
      (first ∙ no_fault (first_fault facts) (identity_of facts) (valid_checked facts valid))
