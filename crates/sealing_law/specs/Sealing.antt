-- What comes to sites with keys.
use Rattle.std.specs.Prelude.{◌≡◌, ⊤, ℕ, List, Some}
use Rattle.fed_types.specs.Lists.{Has}
use Rattle.fed_types.specs.Sites.{Membership}
use Rattle.tags.specs.Rings.{Ring}
use Rattle.tags.specs.Tags.{sealed}
use Rattle.dgram.specs.declared.message.Message.{Message}
use Rattle.udp_site.specs.Requests.{Says, request_of}
use Rattle.udp_site.specs.Seals.{handed_on}
use Rattle.udp_site.specs.Traffic.{Post, Taken, Nothing, From}
use Rattle.serving_law.specs.Rules.{AreBytes, IsOfMember, WereHanded}

module _ (members : Membership) where
  -- Only sites seal. If these bytes are a datagram with its tag behind it, by a key of the sites,
  -- and the datagram says something to a site in the name of a member, then a member handed it out
  -- before. This is what is left to believe: that nobody else has such a key, and that nobody makes
  -- a tag without one. Nothing is believed of a client's datagram, or of another federation's.
  abbrev pub OnlySitesSeal :
      Ring → (handed : List Post) → (address : ℕ) → (bytes : List ℕ) → Type 0
  OnlySitesSeal ring handed address bytes =
      (key datagram : List ℕ) (message : Message)
      → Has key ring.sites → bytes ≡ sealed key datagram
      → request_of members.federation (From address datagram) ≡ Says message
      → IsOfMember members message → WereHanded handed datagram

  -- What a port hands on to its site: nothing; or what it makes of bytes that came, whoever sent
  -- them. Its keys are one of these rings: there are several where the sites change their keys.
  abbrev pub IsHandedOn : (rings : List Ring) → (handed : List Post) → Taken → Type 0
  IsHandedOn rings handed Nothing = ⊤
  IsHandedOn rings handed (From address datagram) =
      (ring : Ring) × Has ring rings
      × (bytes : List ℕ) × AreBytes bytes × OnlySitesSeal ring handed address bytes
      × (datagram ≡ handed_on (Some ring) bytes)
