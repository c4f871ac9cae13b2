-- What a write of no byte does to known bytes.
use Rattle.std.proofs.Common.{◌≡◌, ℕ, List, take, Option, Some, None}
use Rattle.std.specs.Io.KnownBytes.{Appends, Keeps}
use Rattle.std.proofs.lemmas.List.{append-nil}

pub keeps_by_none : (a b : Option (List ℕ)) (bs : List ℕ) (n : ℕ) → n ≡ 0 → Appends a b (take n bs)
    → Keeps a b
keeps_by_none None b bs n is p = tt
keeps_by_none (Some x) None bs n is p = absurd p
keeps_by_none (Some x) (Some y) bs n is p = rw (p, is) (append-nil x)
