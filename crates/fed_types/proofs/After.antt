-- The sites that are left, from the first one to none.
use Rattle.std.specs.Prelude.{◌≡◌, ℕ, zero, suc, ◌+◌, ◌-◌, ◌<◌, ◌≤◌, [], ◌∷◌, ◌++◌}
use Rattle.std.specs.List.{range_with_len}
use Rattle.std.proofs.Common.{arith, refl, ap, ◌∙◌}
use Rattle.std.proofs.Math.Nat.{add-zero}
use Rattle.std.proofs.Math.Numerals.{one-add}
use Rattle.fed_types.specs.Sites.{sites_to}
use Rattle.fed_types.specs.inner.After.{sites_after}

-- the next one, and those after it
pub next_site : (before last : ℕ) → before < last
    → sites_after before last ≡ (before + 1) ∷ sites_after (before + 1) last
next_site before last more =
    let one : last - before ≡ suc (last - (before + 1)) = omega arith in
    ap (range_with_len (before + 1)) one

-- none is left
pub no_site : (before last : ℕ) → last ≤ before → sites_after before last ≡ []
no_site before last end =
    let none : last - before ≡ 0 = omega arith in
    ap (range_with_len (before + 1)) none

-- the last one stands at the end
last_site : (first n : ℕ)
    → range_with_len first (suc n) ≡ range_with_len first n ++ (first + n) ∷ []
last_site first zero = rw add-zero
last_site first (suc n) =
    let same : first + 1 + n ≡ first + suc n = omega arith in
    rw (last_site (first + 1) n, same)

from_one : (n : ℕ) → range_with_len 1 n ≡ sites_to n
unfolding sites_to
from_one zero = refl
from_one (suc n) = rw (last_site 1 n, from_one n, one-add)

-- before the first all sites are left
pub all_sites : (last : ℕ) → sites_after 0 last ≡ sites_to last
all_sites last =
    let all : last - 0 ≡ last = omega arith in
    ap (range_with_len 1) all ∙ from_one last
