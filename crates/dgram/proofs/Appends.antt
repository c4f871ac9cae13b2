-- Bytes are appended, and then more.
use Rattle.std.proofs.Common.{◌≡◌, ℕ, zero, suc, ◌+◌, ◌≤◌, ◌<◌, List, [], ◌∷◌, ◌++◌, length, take}
use Rattle.std.proofs.Common.{drop, Result, Ok, Err, refl, sym, ap, arith, append_assoc}
use Rattle.std.proofs.Common.{length-append}
use Rattle.std.specs.Prelude.{Vec, vec_len, vec_capacity, OnOk, OnErr, IsOk}
use Rattle.std.proofs.lemmas.List.{take_at, drop_at}
use Rattle.fields.specs.Puts.{Puts}

-- the first of the first
prefix : (m n : ℕ) (xs : List ℕ) → m ≤ n → take m (take n xs) ≡ take m xs
prefix zero n xs le = refl
prefix (suc m) zero xs le = absurd (omega arith)
prefix (suc m) (suc n) [] le = refl
prefix (suc m) (suc n) (x ∷ xs) le =
    rw (prefix m n xs (omega arith))

-- the items that were appended
pub appended_items : (items old a : List ℕ) (from : ℕ) → items ≡ old ++ a → from ≡ length old
    → drop from items ≡ a
appended_items items old a from first is = rw first (drop_at old a from (sym is))

module _ {X E Z : Type 0} (old mid new : Vec ℕ Z) (a : List ℕ)
    (first : mid.items ≡ old.items ++ a) (room : vec_capacity old ≤ vec_capacity mid)
    (lens : vec_len mid ≡ vec_len old + length a) where
  appended : (r : Result X E) (b : List ℕ) → OnOk r (new.items ≡ mid.items ++ b)
      → OnOk r (new.items ≡ old.items ++ (a ++ b))
  appended (Ok x) b is = rw (is, first, append_assoc)
  appended (Err e) b is = tt

  full : (r : Result X E) (b : List ℕ) → OnErr r (vec_capacity mid < vec_len mid + length b)
      → OnErr r (vec_capacity old < vec_len old + length (a ++ b))
  full (Ok x) b lt = tt
  full (Err e) b lt = omega (arith, lt, room, lens, length-append a b)

  pub puts_both : (r : Result X E) (b : List ℕ) → Puts r mid new b → Puts r old new (a ++ b)
  puts_both r b p = record {
    appended = appended r b p.appended;
    kept = rw (
      ← prefix (length old.items) (length mid.items) new.items
          (omega (arith, ap length first, length-append old.items a)),
      p.kept,
      first,
    )
        (take_at old.items a (length old.items) refl);
    room = omega (arith, room, p.room);
    full = full r b p.full;
  }

-- with room enough it didn't fail
pub has_room : {X E : Type 0} (r : Result X E) (capacity len most : ℕ) (bytes : List ℕ)
    → OnErr r (capacity < len + length bytes) → length bytes ≤ most → len + most ≤ capacity
    → IsOk r
has_room (Ok x) capacity len most bytes full le room = refl
has_room (Err e) capacity len most bytes full le room = absurd (omega arith)
