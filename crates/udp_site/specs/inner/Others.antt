-- The other members of some.
use Rattle.std.specs.Prelude.{ℕ, ◌==◌, not, List}
use Rattle.std.specs.List.{filter}
use Rattle.udp_site.specs.Turns.{Serving, number}

-- those of them that aren't the site itself
abbrev pub others_of : {C : Type 0} → Serving C → List ℕ → List ℕ
others_of s asked = filter (λ member. not (member == number s)) asked
