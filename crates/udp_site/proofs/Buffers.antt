-- A buffer that is read into is as long as it was.
use Rattle.std.proofs.Common.{◌≡◌, ℕ, List, ◌++◌, length, take, drop, arith}
use Rattle.std.proofs.lemmas.Grind.{common_steps}

pub all_read : (n : ℕ) (buffer items : List ℕ) → length buffer ≡ n
    → take n (buffer ++ drop (length buffer) items) ≡ buffer
all_read n buffer items is = grind (arith, common_steps)
