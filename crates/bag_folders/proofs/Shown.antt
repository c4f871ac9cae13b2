-- What the texts that describe a bag and the list of its files show needs no digest.
use Rattle.std.proofs.Common.{◌≡◌, Bool, true, false, List, map, Option, Some, None, Result, Ok}
use Rattle.std.proofs.Common.{Err, IsTrue, refl, ap, ◌∙◌, subst, inl, inr, sym}
use Rattle.std.specs.Prelude.{◌≢◌, IfOk}
use Rattle.fed_types.specs.declared.bag_id.BagId.{BagId}
use Rattle.fed_types.specs.Faults.{IsOrFault}
use Rattle.bag_tree.specs.declared.algorithms.Algorithms.{Algorithms}
use Rattle.bag_tree.specs.Algorithms.{all_algorithms, no_algorithms}
use Rattle.bag_tree.specs.Tree.{File}
use Rattle.bag_tree.specs.Facts.{FileFact, TreeFacts, fact_by}
use Rattle.bag_check.specs.declared.fault.BagFault.{BagFault}
use Rattle.bag_check.specs.declared.fault.BagFault.TheVariants.{WrongDigest, Memory}
use Rattle.bag_check.specs.Check.{holds, first_fault, answer, check_of}
use Rattle.bag_check.specs.Complete.{gaps, first_gap, complete_of}
use Rattle.bag_check.specs.Named.{named_of, with_only}
use Rattle.std.proofs.lemmas.Simd.{map-map}
use Rattle.bag_check.proofs.CompleteLaws.{or_wrong, first_is, gaps_need_none}
use Rattle.bag_check.proofs.NamedManifests.{all_weaker}
use Rattle.bag_check.proofs.NamedLaws.{bare, find_same, needs_no_digest, holds_same, answer_same}
use Rattle.bag_check.proofs.NamedLaws.{check_kept}
use Rattle.bag_folders.specs.Disk.{shows, is_shown, facts_by}

-- a first fault that shows is a gap, so that it shows whether a digest is wrong or not
shown_gap : (gap : Option BagFault) (wrong other : Bool) → IsTrue (is_shown (or_wrong gap wrong))
    → or_wrong gap wrong ≡ or_wrong gap other
shown_gap (Some fault) wrong other is = refl
shown_gap None true other is = absurd (cc is)
shown_gap None false other is = absurd (cc is)

-- ---- facts with fewer digests

module _ (wanted : Algorithms) (facts : TreeFacts) where
  -- the first gap is no wrong digest
  gap_same : first_gap (bare wanted facts) ≡ first_gap facts
  gap_same =
      find_same (λ fault. holds fault (bare wanted facts)) (λ fault. holds fault facts) gaps
      (all_weaker (λ fault. needs_no_digest fault ≡ true)
      (λ fault. holds fault (bare wanted facts) ≡ holds fault facts) (holds_same wanted facts) gaps
      gaps_need_none)

  complete_same : complete_of (bare wanted facts) ≡ complete_of facts
  unfolding complete_of
  complete_same =
      answer_same wanted facts (first_gap (bare wanted facts)) ∙ ap (answer facts) gap_same

  first_same : IsTrue (is_shown (first_fault (bare wanted facts)))
      → first_fault (bare wanted facts) ≡ first_fault facts
  first_same is =
      let here = first_is (bare wanted facts) in
      here
      ∙ (shown_gap (first_gap (bare wanted facts)) (holds WrongDigest (bare wanted facts))
      (holds WrongDigest facts) (subst (λ found. IsTrue (is_shown found)) here is)
      ∙ (ap (λ gap. or_wrong gap (holds WrongDigest facts)) gap_same ∙ sym (first_is facts)))

  -- where the first fault shows, it is the answer
  check_same : IsTrue (is_shown (first_fault (bare wanted facts)))
      → check_of (bare wanted facts) ≡ check_of facts
  unfolding check_of
  check_same is =
      answer_same wanted facts (first_fault (bare wanted facts))
      ∙ ap (answer facts) (first_same is)

-- ---- files

are_bare : (wanted : Algorithms) (files : List File) (payload : Bool)
    → facts_by wanted files payload ≡ bare wanted (facts_by all_algorithms files payload)
are_bare wanted files payload =
    ap (λ fs. record { files = fs; payload = payload })
    (sym (map-map (with_only wanted) (fact_by all_algorithms) files))

pub check_shown : (files : List File) (payload : Bool)
    → IsTrue (is_shown (first_fault (facts_by no_algorithms files payload)))
    → check_of (facts_by no_algorithms files payload)
    ≡ check_of (facts_by all_algorithms files payload)
check_shown files payload is =
    let same = are_bare no_algorithms files payload in
    ap check_of same
    ∙ check_same no_algorithms (facts_by all_algorithms files payload)
    (subst (λ f. IsTrue (is_shown (first_fault f))) same is)

-- ---- digests that manifests name

pub complete_by : (wanted : Algorithms) (files : List File) (payload : Bool)
    → complete_of (facts_by wanted files payload)
    ≡ complete_of (facts_by all_algorithms files payload)
complete_by wanted files payload =
    ap complete_of (are_bare wanted files payload)
    ∙ complete_same wanted (facts_by all_algorithms files payload)

pub check_named : (files : List File) (payload : Bool)
    → check_of (facts_by (named_of (map (λ file. file.path) files)) files payload)
    ≡ check_of (facts_by all_algorithms files payload)
check_named files payload =
    let all = facts_by all_algorithms files payload in
    ap check_of (are_bare (named_of (map (λ file. file.path) files)) files payload)
    ∙ (ap (λ paths. check_of (bare (named_of paths) all))
    (sym (map-map (λ (fact : FileFact). fact.path) (fact_by all_algorithms) files))
    ∙ check_kept all)

-- ---- what a check says

-- there is an identity: no fault shows
pub valid_shows_none : (facts : TreeFacts) (bag : BagId)
    → IsOrFault Memory (Ok bag) (check_of facts) → false ≡ is_shown (first_fault facts)
unfolding check_of
valid_shows_none facts bag is = go (first_fault facts) is
  where
    go : (fault : Option BagFault) → IsOrFault Memory (Ok bag) (answer facts fault)
        → false ≡ is_shown fault
    go None is = refl
    go (Some fault) (inl e) = absurd (cc e)
    go (Some fault) (inr e) = absurd (cc e)

-- the first fault is this one, and not that memory ran out: it tells whether one shows
pub fault_shows : {E : Type 0} (facts : TreeFacts) (fault : BagFault) (result : Result Bool E)
    → IsOrFault {X = BagId} Memory (Err fault) (check_of facts)
    → IfOk result (λ found. found ≡ shows fault) → IfOk result (λ _. fault ≢ Memory)
    → IfOk result (λ found. found ≡ is_shown (first_fault facts))
unfolding check_of
fault_shows facts fault (Err e) is shown other = tt
fault_shows facts fault (Ok found) is shown other = shown ∙ go (first_fault facts) is
  where
    go : (first : Option BagFault) → IsOrFault Memory (Err fault) (answer facts first)
        → shows fault ≡ is_shown first
    go None (inl e) = absurd (cc e)
    go None (inr e) = absurd (other (cc e))
    go (Some first) (inl e) = ap shows (cc e)
    go (Some first) (inr e) = absurd (other (cc e))
