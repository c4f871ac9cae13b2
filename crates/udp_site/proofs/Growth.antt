-- Traffic that grows, and bytes that are appended, one part after another.
use Rattle.std.specs.Io.KnownBytes.{Appends}
use Rattle.std.proofs.Common.{append_assoc, append-nil, ℕ, List, [], ◌++◌, Option, Some, None}
use Rattle.udp_site.specs.Traffic.{Move, Grows}

pub Grows-trans : (a b c : Option (List Move)) (m n : List Move) → Grows a b m → Grows b c n
    → Grows a c (m ++ n)
Grows-trans None b c m n p q = tt
Grows-trans (Some x) b c m n p q = rw (← append_assoc x m n) (rw p at q)

pub Grows-none : (a : Option (List Move)) → Grows a a []
Grows-none None = tt
Grows-none (Some x) = rw append-nil

pub Appends-none : (a : Option (List ℕ)) → Appends a a []
Appends-none None = tt
Appends-none (Some x) = rw append-nil
