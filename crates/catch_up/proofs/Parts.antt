-- Bytes of which a prefix was written.
use Rattle.std.proofs.Common.{ℕ, ◌+◌, min, List, ◌++◌, length, take, Option, arith}
use Rattle.std.proofs.KnownBytes.{Appends-nil, Appends-trans}
use Rattle.std.proofs.lemmas.List.{take-append-le, take_min}
use Rattle.std.proofs.Math.Seq.{take-append-add, take-length}
use Rattle.std.specs.Io.KnownBytes.{Appends}
use Rattle.catch_up.specs.inner.Progress.{AppendsPart}

pub no_part : (a : Option (List ℕ)) (bytes : List ℕ) → AppendsPart a a bytes
no_part a bytes = (0, Appends-nil a)

pub whole_part : (a b : Option (List ℕ)) (bytes : List ℕ) → Appends a b bytes
    → AppendsPart a b bytes
whole_part a b bytes p = (length bytes, rw take-length p)

-- what is a prefix of the first is one of both
pub part_of_both : (a b : Option (List ℕ)) (xs ys : List ℕ) → AppendsPart a b xs
    → AppendsPart a b (xs ++ ys)
part_of_both a b xs ys (count, p) =
    let within = min count (length xs) in
    (within, rw (take-append-le within xs ys (omega arith), take_min count xs) p)

-- the whole of the first, and a prefix of the second
pub then_part : (a b c : Option (List ℕ)) (xs ys : List ℕ) → Appends a b xs
    → AppendsPart b c ys → AppendsPart a c (xs ++ ys)
then_part a b c xs ys p (count, q) =
    (length xs + count, rw take-append-add (Appends-trans a b c xs (take count ys) p q))
