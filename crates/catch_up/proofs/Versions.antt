-- A round: versions one after another, of which those that aren't known are asked for.
use Rattle.std.proofs.Common.{◌≡◌, ℕ, ◌+◌, ◌≤◌, ◌<◌, Bool, true, false, not, List, [], ◌∷◌, ◌++◌}
use Rattle.std.proofs.Common.{length, take, drop, get_or, Option, Some, None, Result, Ok, Err, refl}
use Rattle.std.proofs.Common.{sym, ap, ◌∙◌, add-zero, arith, cond}
use Rattle.std.proofs.lemmas.List.{take_more, take_more_set, take-append-drop, take_all, drop-drop}
use Rattle.std.proofs.lemmas.List.{drop-set-lt, get_or-drop, length-take}
use Rattle.std.proofs.lemmas.List.Elements.{filter-append}
use Rattle.std.proofs.Math.ListN.{set}
use Rattle.known_bags.specs.declared.known_bag.KnownBag.{KnownBag}
use Rattle.udp_site.specs.Traffic.{Move}
use Rattle.catch_up.specs.declared.said_answers.AskFault.{AskFault}
use Rattle.catch_up.specs.declared.rounds.Target.{Target}
use Rattle.catch_up.specs.Rounds.{Answer, open_of, same_in, left_of}
use Rattle.catch_up.specs.inner.Progress.{GoesOn, StopsIn, IsAskedOnce, IsRound, version_after}
use Rattle.catch_up.proofs.Questions.{goes_on_none, goes_on, stops_then, stops_within, left_then}
use Rattle.catch_up.proofs.Questions.{same_then, same_bound, open_at_most}

-- ---- versions that aren't known

pub open_both : (xs ys : List KnownBag) → open_of (xs ++ ys) ≡ open_of xs ++ open_of ys
unfolding open_of
open_both xs ys = filter-append (λ v. not v.is_found) xs ys

one_open : (v : KnownBag) (found : Bool) → v.is_found ≡ found
    → open_of (v ∷ []) ≡ cond (not found) (v ∷ []) []
unfolding open_of
one_open v found is = rw is

open_after : (v : KnownBag) (answer : Answer) → v.is_found ≡ false
    → open_of (version_after v answer ∷ []) ≡ left_of (v ∷ []) (answer ∷ [])
open_after v None is = one_open v false is
open_after v (Some bag) is = one_open (record v { is_found = true }) true refl

-- ---- one version

module _ (asked : Target) (v : KnownBag) where
  -- it is known
  pub known_before : (a : Option (List Move)) (o : Option (List ℕ)) → v.is_found ≡ true
      → IsRound asked (v ∷ []) (v ∷ []) a a o o (Ok 0)
  known_before a o found =
      rw (one_open v true found) ([], goes_on_none asked a o, refl, refl)

  -- it isn't known, and it is asked for
  pub not_known : (next : KnownBag) (a b : Option (List Move)) (o n : Option (List ℕ))
      (result : Result ℕ AskFault) → v.is_found ≡ false
      → IsAskedOnce asked v next a b o n result
      → IsRound asked (v ∷ []) (next ∷ []) a b o n result
  not_known next a b o n (Ok same) found (answer, goes, next_is, same_is) =
      let left : open_of (next ∷ []) ≡ left_of (v ∷ []) (answer ∷ []) =
      rw next_is (open_after v answer found) in
      rw (one_open v false found) (answer ∷ [], goes, left, same_is ∙ sym (add-zero _))
  not_known next a b o n (Err fault) found stops = rw (one_open v false found) stops

-- ---- the first of a list

-- what was done for those before a place
abbrev pub SoFar : Target → (old now : List KnownBag) → (place : ℕ)
    → (before after : Option (List Move)) → (written next : Option (List ℕ)) → (same : ℕ) → Type 0
SoFar asked old now place before after written next same =
    (answers : List Answer)
    × GoesOn asked (open_of (take place old)) before after written next answers
    × (open_of (take place now) ≡ left_of (open_of (take place old)) answers)
    × (drop place now ≡ drop place old)
    × (same ≡ same_in (open_of (take place old)) answers)

pub drop_next : {X : Type 0} (xs ys : List X) (place : ℕ) → drop place xs ≡ drop place ys
    → drop (place + 1) xs ≡ drop (place + 1) ys
drop_next xs ys place are =
    sym (drop-drop 1 place xs) ∙ (ap (drop 1) are ∙ drop-drop 1 place ys)

pub same_at : {X : Type 0} (xs ys : List X) (place : ℕ) (d : X) → drop place xs ≡ drop place ys
    → get_or xs place d ≡ get_or ys place d
same_at xs ys place d are =
    let place_is : place + 0 ≡ place = omega arith in
    cc (get_or-drop place xs 0 d, get_or-drop place ys 0 d)

none_open : open_of [] ≡ []
unfolding open_of
none_open = refl

module _ (asked : Target) (old : List KnownBag) (a : Option (List Move)) (o : Option (List ℕ)) where
  pub at_first : SoFar asked old old 0 a a o o 0
  at_first = rw none_open ([], goes_on_none asked a o, refl, refl, refl)

  -- one version more: v, which is next from then on
  next_version : (now then : List KnownBag) (place : ℕ) (v next : KnownBag)
      (b c : Option (List Move)) (n p : Option (List ℕ)) (same one : ℕ)
      → take (place + 1) old ≡ take place old ++ v ∷ []
      → take (place + 1) then ≡ take place now ++ next ∷ []
      → drop (place + 1) then ≡ drop (place + 1) old
      → IsRound asked (v ∷ []) (next ∷ []) b c n p (Ok one)
      → SoFar asked old now place a b o n same
      → SoFar asked old then (place + 1) a c o p (same + one)
  next_version now then place v next b c n p same one is_old is_new dropped
      (more, goes, left, counted) (answers, gone, kept, drops, is) =
      let before = open_of (take place old) in
      let both = open_both (take place old) (v ∷ []) in
      rw (is_old, both) (
        answers ++ more,
        goes_on asked before (open_of (v ∷ [])) a b c o n p answers more gone goes,
        cc (
          open_both (take place now) (next ∷ []),
          left_then before (open_of (v ∷ [])) answers more gone.3,
        ),
        dropped,
        cc (same_then before (open_of (v ∷ [])) answers more gone.3),
      )

  -- the version at a place
  at_place : (now : List KnownBag) (place : ℕ) (d : KnownBag) → place < length old
      → drop place now ≡ drop place old
      → take (place + 1) old ≡ take place old ++ get_or now place d ∷ []
  at_place now place d within drops =
      cc (take_more old place d within, same_at now old place d drops)

  pub one_more : (now : List KnownBag) (place : ℕ) (d next : KnownBag) (b c : Option (List Move))
      (n p : Option (List ℕ)) (same one : ℕ) → place < length old → place < length now
      → IsRound asked (get_or now place d ∷ []) (next ∷ []) b c n p (Ok one)
      → SoFar asked old now place a b o n same
      → SoFar asked old (set now place next) (place + 1) a c o p (same + one)
  one_more now place d next b c n p same one within within_now round far =
      next_version now (set now place next) place (get_or now place d) next b c n p same one
      (at_place now place d within far.3)
      (take_more_set now place next within_now)
      (drop-set-lt (place + 1) now place next (omega arith) ∙ drop_next now old place far.3)
      round far

  -- nothing more can be asked or written
  pub stopped : (now : List KnownBag) (place : ℕ) (d next : KnownBag) (b c : Option (List Move))
      (n p : Option (List ℕ)) (same : ℕ) (fault : AskFault) → place < length old
      → IsRound asked (get_or now place d ∷ []) (next ∷ []) b c n p (Err fault)
      → SoFar asked old now place a b o n same → StopsIn asked (open_of old) a c o p fault
  stopped now place d next b c n p same fault within stops (answers, gone, kept, drops, is) =
      let this = get_or now place d ∷ [] in
      let first = take place old in
      let rest = drop (place + 1) old in
      let parts : open_of old ≡ (open_of first ++ open_of this) ++ open_of rest =
      cc (
        take-append-drop (place + 1) old,
        open_both (take (place + 1) old) rest,
        at_place now place d within drops,
        open_both first this,
      ) in
      rw parts
      (stops_within asked (open_of first ++ open_of this) (open_of rest) a c o p fault
      (stops_then asked (open_of first) (open_of this) a b c o n p answers fault gone stops))

  -- all are done
  pub at_end : (now : List KnownBag) (place : ℕ) (b : Option (List Move)) (n : Option (List ℕ))
      (same : ℕ) → length old ≤ place → length now ≤ place
      → SoFar asked old now place a b o n same → IsRound asked old now a b o n (Ok same)
  at_end now place b n same all all_now (answers, gone, kept, drops, is) =
      let is_old : take place old ≡ old = take_all place old all in
      let is_now : take place now ≡ now = take_all place now all_now in
      (answers, rw is_old at gone, cc, cc)

  -- no more are the same than there are
  pub same_so_far : (now : List KnownBag) (place : ℕ) (b : Option (List Move))
      (n : Option (List ℕ)) (same : ℕ) → SoFar asked old now place a b o n same → same ≤ place
  same_so_far now place b n same (answers, gone, kept, drops, is) =
      omega (
        arith,
        is,
        same_bound (open_of (take place old)) answers,
        open_at_most (take place old),
        length-take place old,
      )
