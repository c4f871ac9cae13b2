-- A message as datagrams, site by site.
use Rattle.std.specs.Prelude.{◌≡◌, ℕ, List, [], ◌∷◌, ◌++◌, map}
use Rattle.std.proofs.Common.{ap, ◌∙◌, append_assoc, append-nil}
use Rattle.std.proofs.lemmas.List.{map-append}
use Rattle.dgram.specs.declared.message.Message.{Message}
use Rattle.dgram.specs.Encoding.{datagram_of}
use Rattle.site.specs.declared.answer.Outgoing.{Outgoing}
use Rattle.site.specs.Datagrams.{handed_out, datagram}
use Rattle.site.specs.Effects.{to_each}

-- the datagrams of a message for these sites
abbrev pub sent : ℕ → Message → List ℕ → List (ℕ × List ℕ)
sent federation m sites = map (datagram federation) (to_each m.slot m.body sites)

-- those that were made, and those for the sites that are left, are all
module _ (federation : ℕ) (m : Message) (made : List Outgoing) (left : List ℕ)
    (all : List (ℕ × List ℕ)) (before : map handed_out made ++ sent federation m left ≡ all) where
  pub next_sent : (to : ℕ) (rest : List ℕ) (one : Outgoing) → left ≡ to ∷ rest
      → handed_out one ≡ (to, datagram_of federation m)
      → map handed_out (made ++ one ∷ []) ++ sent federation m rest ≡ all
  unfolding to_each
  next_sent to rest one next is =
      rw (map-append handed_out made (one ∷ []), append_assoc)
      (ap (λ (d : ℕ × List ℕ). map handed_out made ++ d ∷ sent federation m rest) is
      ∙ rw next at before)

  pub all_sent : left ≡ [] → map handed_out made ≡ all
  unfolding to_each
  all_sent none = rw (none, append-nil) at before
