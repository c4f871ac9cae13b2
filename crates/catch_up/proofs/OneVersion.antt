-- One version that is asked for, and the line of its answer.
use Rattle.std.proofs.Common.{◌≡◌, ℕ, true, cond, List, [], ◌∷◌, ◌++◌, Option, Some, None, Ok, Err}
use Rattle.std.proofs.Common.{refl, sym, append-nil}
use Rattle.std.proofs.KnownBytes.{Appends-nil}
use Rattle.std.specs.Io.KnownBytes.{Appends}
use Rattle.std.specs.declared.alloc.AllocError.{AllocError}
use Rattle.fed_types.specs.declared.bag_id.BagId.{BagId}
use Rattle.fed_types.specs.Bags.{same_bag}
use Rattle.known_bags.specs.declared.known_bag.KnownBag.{KnownBag}
use Rattle.udp_site.specs.Traffic.{Move}
use Rattle.catch_up.specs.declared.said_answers.AskFault.{AskFault}
use Rattle.catch_up.specs.declared.said_answers.AskFault.TheVariants.{Memory, Output}
use Rattle.catch_up.specs.declared.rounds.Target.{Target}
use Rattle.catch_up.specs.Lines.{known_line}
use Rattle.catch_up.specs.Rounds.{Answer, answer_line}
use Rattle.catch_up.specs.inner.Progress.{AppendsPart, OnlyAsked, IsAskedFor, GoesOn, StopsIn}
use Rattle.catch_up.specs.inner.Progress.{IsAskedOnce}
use Rattle.catch_up.proofs.Parts.{no_part, part_of_both}

-- nothing was asked beyond the answers
pub only_answers : (asked : Target) (fault : AskFault) → OnlyAsked asked fault []
only_answers asked Memory = (record { object = []; version = 0 }, tt)
only_answers asked Output = refl

module _ (asked : Target) (v : KnownBag) (a b : Option (List Move)) where
  -- memory ran out before there was an answer
  pub no_answer : (o : Option (List ℕ)) (fault : AllocError)
      → IsAskedFor asked v.slot a b (Err fault) → StopsIn asked (v ∷ []) a b o o Memory
  no_answer o fault (moves, grows, asks) =
      ([], [], moves, grows, refl, (v.slot, asks), no_part o [])

  -- there was one
  answered : (o n : Option (List ℕ)) (answer : Answer) → IsAskedFor asked v.slot a b (Ok answer)
      → Appends o n (answer_line v answer ++ []) → GoesOn asked (v ∷ []) a b o n (answer ∷ [])
  answered o n answer (moves, grows, asks, is) lines =
      (moves, grows, (moves, [], sym (append-nil moves), (asks, is), refl), refl, lines)

  pub isnt_known : (o : Option (List ℕ)) → IsAskedFor asked v.slot a b (Ok None)
      → IsAskedOnce asked v v a b o o (Ok 0)
  isnt_known o is = (None, answered o o None is (Appends-nil o), refl, refl)

  module _ (bag : BagId) (is : IsAskedFor asked v.slot a b (Ok (Some bag))) where
    pub is_known : (o n : Option (List ℕ)) (same : ℕ) → Appends o n (known_line v.slot bag v.bag)
        → same ≡ cond (same_bag bag v.bag) 1 0
        → IsAskedOnce asked v (record v { is_found = true }) a b o n (Ok same)
    is_known o n same lines same_is =
        (Some bag, answered o n (Some bag) is (rw append-nil lines), refl, same_is)

    -- its line wasn't written to the end
    pub cut : (o n : Option (List ℕ)) (fault : AskFault)
        → AppendsPart o n (known_line v.slot bag v.bag) → StopsIn asked (v ∷ []) a b o n fault
    cut o n fault part = (
      Some bag ∷ [],
      is.0,
      [],
      rw append-nil is.1,
      (is.0, [], sym (append-nil is.0), (is.2, is.3), refl),
      only_answers asked fault,
      part_of_both o n _ [] part,
    )
