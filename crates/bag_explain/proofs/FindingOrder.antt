-- The findings are in the order of the faults' numbers, and none comes twice.
use Rattle.std.proofs.Common.{◌≡◌, ◌≢◌, ℕ, ◌<◌, ◌≤◌, List, [], ◌∷◌, ap, subst}
use Rattle.std.proofs.Common.{inl, inr, arith, rules}
use Rattle.std.specs.Prelude.{AllPairs}
use Rattle.bag_tree.specs.Facts.{FileFact, TreeFacts}
use Rattle.bag_check.specs.declared.fault.BagFault.{BagFault}
use Rattle.bag_check.specs.Check.{all_faults}
use Rattle.bag_check.specs.Fault.{number_of}
use Rattle.bag_explain.specs.Places.{Place, places_of}
use Rattle.bag_explain.specs.Findings.{Finding, findings_by, findings_of}
use Rattle.bag_explain.proofs.Members.{In}
use Rattle.bag_explain.proofs.Pairs.{Pairs, all_pairs, pairs_all, pairs_each, pairs_map, pairs_any}
use Rattle.bag_explain.proofs.OncePlaces.{places_once}
use Rattle.bag_explain.proofs.AllFindings.{of_fault}

-- ---- the faults

abbrev IsBelow : BagFault → BagFault → Type 0
IsBelow a b = number_of a < number_of b

-- each number is above the one before, and the first is above this one
abbrev Ascend : ℕ → List BagFault → Type 0
Ascend number [] = Unit {0}
Ascend number (fault ∷ faults) = (number < number_of fault) × Ascend (number_of fault) faults

all_above : (number : ℕ) (faults : List BagFault) (fault : BagFault) → Ascend number faults
    → In fault faults → number < number_of fault
all_above number [] fault all h = absurd h
all_above number (first ∷ faults) fault (least, others) (inl e) =
    subst (λ (f : BagFault). number < number_of f) e least
all_above number (first ∷ faults) fault (least, others) (inr h) =
    let above = all_above (number_of first) faults fault others h in
    omega (arith, least, above)

ascending_pairs : (number : ℕ) (faults : List BagFault) → Ascend number faults
    → Pairs IsBelow faults
ascending_pairs number [] h = tt
ascending_pairs number (fault ∷ faults) (least, others) = (
  λ other there. all_above (number_of fault) faults other others there,
  ascending_pairs (number_of fault) faults others,
)

faults_ascend : Pairs IsBelow all_faults
faults_ascend = ascending_pairs 0 all_faults (search rules)

-- ---- the findings

abbrev IsInOrder : Finding → Finding → Type 0
IsInOrder a b = number_of a.fault ≤ number_of b.fault

abbrev IsOther : Finding → Finding → Type 0
IsOther a b = a ≢ b

module _ (facts : TreeFacts) where
  -- the number of what is found of a fault
  number_is : (fault : BagFault) (finding : Finding) → In finding (findings_by facts fault)
      → number_of finding.fault ≡ number_of fault
  number_is fault finding h = ap number_of (of_fault facts fault finding h).0

  in_order : Pairs IsInOrder (findings_of facts)
  unfolding findings_of
  in_order =
      pairs_each IsBelow IsInOrder (findings_by facts)
      (λ fault. pairs_any IsInOrder (findings_by facts fault)
      (λ x y h k. omega (arith, number_is fault x h, number_is fault y k)))
      (λ a b below x y h k. omega (arith, below, number_is a x h, number_is b y k))
      all_faults faults_ascend

  once : AllPairs (λ (a b : FileFact). a.path ≢ b.path) facts.files
      → Pairs IsOther (findings_of facts)
  unfolding findings_of
  once apart =
      pairs_each IsBelow IsOther (findings_by facts)
      (λ fault. pairs_map (λ (a b : Place). a ≢ b) IsOther
      (λ (place : Place). record { fault = fault; place = place })
      (λ a b ne same. ne (ap (λ (f : Finding). f.place) same)) (places_of fault facts)
      (pairs_all (λ (a b : Place). a ≢ b) (places_of fault facts) (places_once fault facts apart)))
      (λ a b below x y h k same.
      let number = ap (λ (f : Finding). number_of f.fault) same in
      absurd (omega (arith, below, number, number_is a x h, number_is b y k)))
      all_faults faults_ascend

-- a finding's fault has the number of the one before it, or a greater one
pub findings_order : (facts : TreeFacts)
    → AllPairs (λ (a b : Finding). number_of a.fault ≤ number_of b.fault) (findings_of facts)
findings_order facts = all_pairs IsInOrder (findings_of facts) (in_order facts)

-- where each file of the tree has a path of its own, nothing is found twice
pub findings_once : (facts : TreeFacts)
    → AllPairs (λ (a b : FileFact). a.path ≢ b.path) facts.files
    → AllPairs (λ (a b : Finding). a ≢ b) (findings_of facts)
findings_once facts apart = all_pairs IsOther (findings_of facts) (once facts apart)
