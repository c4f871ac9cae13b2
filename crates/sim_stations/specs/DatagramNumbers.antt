-- Datagrams by their numbers, which count from 1, and the numbers that were named.
use Rattle.std.specs.Prelude.{◌≡◌, ◌+◌, ◌<◌, ◌≤◌, ℕ, zero, suc, nat_eq, Bool, true, false, not}
use Rattle.std.specs.Prelude.{◌||◌, List, Option, None, slice_get, slice_index_or}
use Rattle.std.specs.List.{find, list_any}
use Rattle.fed_types.specs.Lists.{is_in}
use Rattle.world_law.specs.Worlds.{numbers_to}

-- What was sent; and which numbers were named: the first numbers, from 1 on, have a mark each, and
-- the others that were named are in a list.
pub record Sending (T : Type 0) : Type 0 where
  pub sent : List T
  pub marks : List Bool
  pub others : List ℕ

-- what has this number, counted from 1
abbrev pub numbered : {T : Type 0} → (number : ℕ) → List T → Option T
numbered zero sent = None
numbered (suc before) sent = slice_get sent before

-- whether the number has a mark that is set
unfoldable pub is_marked : List Bool → ℕ → Bool
is_marked marks zero = false
is_marked marks (suc before) = slice_index_or marks before false

-- whether the number was named
unfoldable pub is_named : List Bool → (others : List ℕ) → ℕ → Bool
is_named marks others k = list_any (nat_eq k) others || is_marked marks k

-- every number up to this one was named
abbrev pub AreNamed : List Bool → (others : List ℕ) → (last : ℕ) → Type 0
AreNamed marks others last = (k : ℕ) → 1 ≤ k → k ≤ last → is_named marks others k ≡ true

-- the numbers that were named are these
abbrev pub Represents : {T : Type 0} → Sending T → (named : List ℕ) → Type 0
Represents d named = (k : ℕ) → is_named d.marks d.others k ≡ is_in named k

-- whatever numbers the old ones represent, the new ones represent
abbrev pub RepresentsSame : {T : Type 0} → (old new : Sending T) → Type 0
RepresentsSame old new = (named : List ℕ) → Represents old named → Represents new named

-- the least number of a datagram, of `count` that were sent, that nothing has named
abbrev pub next_unnamed : (named : List ℕ) → (count : ℕ) → Option ℕ
next_unnamed named count = find (λ k. not (is_in named k)) (numbers_to count)

-- each number up to this one was named, and the next one, if it was sent, wasn't
abbrev pub IsLast : List Bool → (others : List ℕ) → (count last : ℕ) → Type 0
IsLast marks others count last =
    AreNamed marks others last × (last < count → is_named marks others (last + 1) ≡ false)
