-- Lines of faults at places, one element on.
use Rattle.std.proofs.Common.{◌≡◌, ℕ, ◌+◌, ◌<◌, ◌≤◌, List, [], ◌∷◌, ◌++◌, length, take, get_or}
use Rattle.std.proofs.Common.{append_assoc, append-nil}
use Rattle.std.specs.List.{flat_map}
use Rattle.std.proofs.lemmas.Grind.{flat_map-append}
use Rattle.std.proofs.lemmas.List.{take_more, take_all}
use Rattle.bag_check.specs.declared.fault.BagFault.{BagFault}
use Rattle.bag_explain.specs.Places.{Place}
use Rattle.bag_explain.specs.Findings.{printed_fault, printed_places}

-- a flat_map of a list, one element on
pub flat_map-next : {X A : Type 0} (f : X → List A) (xs : List X) (i : ℕ) (x : X) → i < length xs
    → x ≡ get_or xs i x → flat_map f (take (i + 1) xs) ≡ flat_map f (take i xs) ++ f x
flat_map-next f xs i x within is =
    rw (
      take_more xs i x within,
      ← is,
      flat_map-append f (take i xs) (x ∷ []),
      append-nil (f x),
    )

pub printed-append : (fault : BagFault) (a b : List Place)
    → printed_places fault (a ++ b) ≡ printed_places fault a ++ printed_places fault b
printed-append fault a b = flat_map-append (printed_fault fault) a b

-- a text and what was put after it, once more
pub after_both : (start a b before after : List ℕ) → before ≡ start ++ a → after ≡ before ++ b
    → after ≡ start ++ (a ++ b)
after_both start a b before after e h = rw (h, e, append_assoc)

module _ {X : Type 0} (fault : BagFault) (f : X → List Place) (xs items : List X) (i : ℕ)
    (same : items ≡ xs) (start before : List ℕ)
    (so_far : before ≡ start ++ printed_places fault (flat_map f (take i xs))) where
  -- the lines of one element more
  pub one_more : (x : X) (after : List ℕ) → i < length items → x ≡ get_or items i x
      → after ≡ before ++ printed_places fault (f x)
      → after ≡ start ++ printed_places fault (flat_map f (take (i + 1) xs))
  one_more x after within is now =
      rw (
        flat_map-next f xs i x (rw same at within) (rw same at is),
        printed-append fault (flat_map f (take i xs)) (f x),
      )
      (after_both start (printed_places fault (flat_map f (take i xs)))
      (printed_places fault (f x)) before after so_far now)

  -- the lines of all elements
  pub all_done : length items ≤ i → before ≡ start ++ printed_places fault (flat_map f xs)
  all_done past = rw (take_all i xs (rw same at past)) at so_far

-- the same, of any list that is written
module _ {X : Type 0} (f : X → List ℕ) (xs : List X) (i : ℕ) (start before : List ℕ)
    (so_far : before ≡ start ++ flat_map f (take i xs)) where
  pub text_one_more : (x : X) (after : List ℕ) → i < length xs → x ≡ get_or xs i x
      → after ≡ before ++ f x → after ≡ start ++ flat_map f (take (i + 1) xs)
  text_one_more x after within is now =
      rw (flat_map-next f xs i x within is)
      (after_both start (flat_map f (take i xs)) (f x) before after so_far now)

  pub text_all_done : length xs ≤ i → before ≡ start ++ flat_map f xs
  text_all_done past = rw (take_all i xs past) at so_far
