-- The earlier bags stay.
use Rattle.std.proofs.Common.{◌≡◌, List, [], ◌++◌, ap, sym, ◌∙◌, append_assoc, append-nil}
use Rattle.known_bags.specs.declared.known_bag.KnownBag.{KnownBag}
use Rattle.known_bags.specs.Sources.{Keeps}

pub kept_by : (old more new : List KnownBag) → new ≡ old ++ more → Keeps old new
kept_by old more new is = record { more = more; new_is = is }

pub kept_same : (old : List KnownBag) → Keeps old old
kept_same old = record { more = []; new_is = sym (append-nil old) }

pub kept_more : (old mid new : List KnownBag) → Keeps old mid → Keeps mid new → Keeps old new
kept_more old mid new were are = record {
  more = were.more ++ are.more;
  new_is = are.new_is ∙ ap (λ l. l ++ are.more) were.new_is
      ∙ append_assoc old were.more are.more;
}

-- the laws of it
pub ruleset keeping = (kept_by, kept_same, kept_more)
