-- Traffic that grows, and datagrams that are handed out one after another.
use Rattle.std.proofs.Common.{◌≡◌, ℕ, ◌+◌, ◌<◌, min, List, [], ◌++◌, length, take, drop, get_or}
use Rattle.std.proofs.Common.{Option, Result, Ok, Err, ap, arith, IsErrAnd, flat_map}
use Rattle.std.proofs.lemmas.Grind.{flat_map-append}
use Rattle.std.proofs.lemmas.List.{map-append, take-append-le, take-append-drop, take_min}
use Rattle.std.proofs.lemmas.List.{take_more, flat_map_more}
use Rattle.udp_site.proofs.Growth.{Grows-trans, Grows-none}
use Rattle.std.proofs.Math.Seq.{take-append-add, take-length}
use Rattle.udp_site.specs.Traffic.{Post, Move, Handed, Grows, all_handed}

pub handed_both : (xs ys : List Post) → all_handed (xs ++ ys) ≡ all_handed xs ++ all_handed ys
unfolding all_handed
handed_both xs ys = map-append Handed xs ys

pub grows_by_no_posts : (a : Option (List Move)) → Grows a a (all_handed [])
unfolding all_handed
grows_by_no_posts a = Grows-none a

pub grows_by_posts : (a b c : Option (List Move)) (xs ys : List Post)
    → Grows a b (all_handed xs) → Grows b c (all_handed ys) → Grows a c (all_handed (xs ++ ys))
grows_by_posts a b c xs ys p q = rw (handed_both xs ys) (Grows-trans _ _ _ _ _ p q)

-- a part of the traffic, so many moves of it
abbrev pub Part : (a b : Option (List Move)) → List Move → Type 0
Part a b moves = (count : ℕ) × Grows a b (take count moves)

pub whole_part : (a b : Option (List Move)) (moves : List Move) → Grows a b moves → Part a b moves
whole_part a b moves p = (length moves, rw take-length p)

-- what is a part of the first is a part of both
pub part_of_posts : (a b : Option (List Move)) (xs ys : List Post) → Part a b (all_handed xs)
    → Part a b (all_handed (xs ++ ys))
part_of_posts a b xs ys (count, p) =
    let most = length (all_handed xs) in (
      min count most,
      rw (
        handed_both xs ys,
        take-append-le (min count most) (all_handed xs) (all_handed ys) (omega arith),
        take_min count (all_handed xs),
      ) p,
    )

-- the whole of the first, and a part of the second
pub then_part_of_posts : (a b c : Option (List Move)) (xs ys : List Post)
    → Grows a b (all_handed xs) → Part b c (all_handed ys) → Part a c (all_handed (xs ++ ys))
then_part_of_posts a b c xs ys p (count, q) = (
  length (all_handed xs) + count,
  rw (handed_both xs ys, take-append-add (all_handed xs) (all_handed ys) count)
      (Grows-trans _ _ _ _ _ p q),
)

-- one after another, by their places
module _ {X : Type 0} (f : X → List Post) (xs : List X) (place : ℕ) (x : X)
    (within : place < length xs) (is : x ≡ get_or xs place x) where
  one_more : flat_map f (take place xs) ++ f x ≡ flat_map f (take (place + 1) xs)
  one_more = rw (take_more xs place x within, ← is, ← flat_map_more f [] (take place xs) x)

  pub grows_by_next : (a b c : Option (List Move))
      → Grows a b (all_handed (flat_map f (take place xs))) → Grows b c (all_handed (f x))
      → Grows a c (all_handed (flat_map f (take (place + 1) xs)))
  grows_by_next a b c p q = rw (← one_more) (grows_by_posts _ _ _ _ _ p q)

  pub part_within : (a b c : Option (List Move))
      → Grows a b (all_handed (flat_map f (take place xs))) → Part b c (all_handed (f x))
      → Part a c (all_handed (flat_map f xs))
  part_within a b c p q =
      let rest = drop (place + 1) xs in
      let all : flat_map f (take (place + 1) xs) ++ flat_map f rest ≡ flat_map f xs =
      rw (← flat_map-append f (take (place + 1) xs) rest, take-append-drop (place + 1) xs) in
      rw (← all, ← one_more) (part_of_posts _ _ _ _ (then_part_of_posts _ _ _ _ _ p q))

-- the fault of a `?`
pub is_err : {T E : Type 0} (r : Result T E) (fault : E) → IsErrAnd r (λ e. e ≡ fault)
    → r ≡ Err fault
is_err (Ok x) fault is = absurd is
is_err (Err e) fault is = ap (λ x. Err x) is
