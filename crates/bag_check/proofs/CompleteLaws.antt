-- A valid bag is a complete one without a wrong digest.
use Rattle.std.proofs.Common.{◌≡◌, Bool, true, false, cond, List, [], ◌∷◌, Option, Some, None}
use Rattle.std.proofs.Common.{Result, Ok, Err, refl, sym, ap, ◌∙◌, inl, inr}
use Rattle.std.specs.Prelude.{IfSome}
use Rattle.std.specs.List.{find, AllByRecursion}
use Rattle.std.specs.Option.{option_or}
use Rattle.std.proofs.lemmas.Bool.{cond_both}
use Rattle.std.proofs.lemmas.List.Elements.{recursion_from_All}
use Rattle.std.proofs.lemmas.List.Folds.{find-append}
use Rattle.std.proofs.lemmas.List.Sums.{AllPass-from_list_all}
use Rattle.bag_check.proofs.NamedManifests.{all_weaker}
use Rattle.bag_check.proofs.NamedLaws.{needs_no_digest}
use Rattle.fed_types.specs.declared.bag_id.BagId.{BagId}
use Rattle.fed_types.specs.Faults.{IsOrFault}
use Rattle.bag_tree.specs.Facts.{TreeFacts}
use Rattle.bag_check.specs.declared.fault.BagFault.{BagFault}
use Rattle.bag_check.specs.declared.fault.BagFault.TheVariants.{WrongDigest, Memory}
use Rattle.bag_check.specs.Check.{holds, first_fault, identity_of, answer, check_of}
use Rattle.bag_check.specs.Complete.{gaps, first_gap, complete_of}
use Rattle.bag_check.specs.Valid.{IsValid}
use Rattle.bag_check.specs.inner.Despite.{despite}
use Rattle.bag_check.proofs.ValidLaws.{valid_checked, checked_valid, valid_faultless}

-- ---- what is found in a list

find_one : (P : BagFault → Type 0) (p : BagFault → Bool) (faults : List BagFault)
    → AllByRecursion P faults → IfSome (find p faults) P
find_one P p [] all = tt
find_one P p (fault ∷ faults) (first, others) =
    cond_both (p fault) (Some fault) (find p faults) (λ found. IfSome found P) (λ _. first)
    (λ _. find_one P p faults others)

-- no gap needs a digest
pub gaps_need_none : AllByRecursion (λ fault. needs_no_digest fault ≡ true) gaps
gaps_need_none =
    recursion_from_All (λ fault. needs_no_digest fault ≡ true) gaps
    (AllPass-from_list_all needs_no_digest gaps refl)

-- answers of one fault
fault_is : (f g : BagFault) → ◌≡◌ {A = Result BagId BagFault} (Err f) (Err g) → f ≡ g
fault_is f g e = cc e

-- ---- the first fault, from the first gap and whether a digest is wrong

-- a gap, or a wrong digest where there is none
abbrev pub or_wrong : Option BagFault → Bool → Option BagFault
or_wrong gap wrong = option_or gap (cond wrong (Some WrongDigest) None)

module _ (facts : TreeFacts) where
  pub first_is : first_fault facts ≡ or_wrong (first_gap facts) (holds WrongDigest facts)
  first_is = find-append (λ fault. holds fault facts) gaps (WrongDigest ∷ [])

  check_is : check_of facts ≡ answer facts (or_wrong (first_gap facts) (holds WrongDigest facts))
  unfolding check_of
  check_is = ap (answer facts) first_is

  -- no gap is a wrong digest
  gap_stays : IfSome (first_gap facts) (λ fault. despite facts fault ≡ Err fault)
  gap_stays =
      find_one (λ fault. despite facts fault ≡ Err fault) (λ fault. holds fault facts) gaps
      (all_weaker (λ fault. needs_no_digest fault ≡ true) (λ fault. despite facts fault ≡ Err fault)
      stays gaps gaps_need_none)
    where
      stays : (fault : BagFault) → needs_no_digest fault ≡ true → despite facts fault ≡ Err fault
      stays WrongDigest other = absurd (cc other)
      stays fault other = refl

  -- ---- what a check of completeness answers, from what a check answers

  complete_too : (bag : BagId) → Ok bag ≡ check_of facts → Ok bag ≡ complete_of facts
  unfolding complete_of
  complete_too bag e = go (first_gap facts) (holds WrongDigest facts) (e ∙ check_is)
    where
      go : (gap : Option BagFault) (wrong : Bool) → Ok bag ≡ answer facts (or_wrong gap wrong)
          → Ok bag ≡ answer facts gap
      go None false e = e
      go _ _ e = absurd (cc e)

  pub complete_valid_too : (bag : BagId) → IsOrFault Memory (Ok bag) (check_of facts)
      → IsOrFault Memory (Ok bag) (complete_of facts)
  complete_valid_too bag (inr e) = absurd (cc e)
  complete_valid_too bag (inl e) = inl (complete_too bag e)

  pub complete_despite : (fault : BagFault) (result : Result BagId BagFault)
      → IsOrFault {X = BagId} Memory (Err fault) (check_of facts)
      → IsOrFault Memory result (despite facts fault)
      → IsOrFault Memory result (complete_of facts)
  unfolding complete_of
  complete_despite fault result checked (inr e) = inr e
  complete_despite fault result (inr m) (inl e) =
      inr (e ∙ ap (despite facts) (fault_is fault Memory m))
  complete_despite fault result (inl refused) (inl e) =
      go (first_gap facts) (holds WrongDigest facts) gap_stays (refused ∙ check_is)
    where
      go : (gap : Option BagFault) (wrong : Bool)
          → IfSome gap (λ f. despite facts f ≡ Err f)
          → Err fault ≡ answer facts (or_wrong gap wrong)
          → IsOrFault Memory result (answer facts gap)
      go None false stays is = absurd (cc is)
      go None true stays is = inl (e ∙ ap (despite facts) (fault_is fault WrongDigest is))
      go (Some f) wrong stays is = inl (e ∙ (ap (despite facts) (fault_is fault f is) ∙ stays))

  -- ---- valid bags

  pub valid_complete : IsValid facts
      → (complete_of facts ≡ Ok (identity_of facts)) × (holds WrongDigest facts ≡ false)
  valid_complete valid = (
    sym (complete_too (identity_of facts) (sym (valid_checked facts valid))),
    valid_faultless facts valid WrongDigest,
  )

  pub complete_valid : complete_of facts ≡ Ok (identity_of facts)
      → holds WrongDigest facts ≡ false → IsValid facts
  unfolding complete_of
  complete_valid complete right =
      checked_valid facts (identity_of facts)
      (check_is ∙ go (first_gap facts) (holds WrongDigest facts) complete right)
    where
      go : (gap : Option BagFault) (wrong : Bool) → answer facts gap ≡ Ok (identity_of facts)
          → wrong ≡ false → answer facts (or_wrong gap wrong) ≡ Ok (identity_of facts)
      go None false e right = refl
      go None true e right = absurd (cc right)
      go (Some fault) wrong e right = absurd (cc e)
