-- What a port said to itself.
use Rattle.std.specs.Prelude.{ℕ, List, [], ◌∷◌}
use Rattle.std.specs.List.{flat_map}
use Rattle.udp_site.specs.declared.own_datagrams.OwnDatagrams.{OwnDatagrams}

-- the datagrams that wait to be taken in, in order
abbrev pub waiting_of : OwnDatagrams → List (List ℕ)
waiting_of own = flat_map (λ bytes. bytes.items ∷ []) own.waiting.items
