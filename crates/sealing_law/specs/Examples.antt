-- Histories of three sites with keys, over disks of which all is known. They agree by sealed
-- messages; a sealed vote counts, and once where it comes again; and a forged message, by which a
-- site without keys is fooled, is dropped.
use Rattle.std.specs.Prelude.{◌≡◌, ℕ, List, [], ◌∷◌, ◌++◌, length, Some}
use Rattle.fed_types.specs.declared.bag_id.BagId.{BagId}
use Rattle.fed_types.specs.Lists.{Has}
use Rattle.dgram.specs.declared.body.Body.TheVariants.{Known}
use Rattle.dgram.specs.Encoding.{datagram_of}
use Rattle.tags.specs.Hmac.{tag_len, tag_by}
use Rattle.tags.specs.Tags.{sealed}
use Rattle.tags.specs.Rings.{Ring}
use Rattle.udp_site.specs.Seals.{handed_on}
use Rattle.udp_site.specs.Traffic.{From}
use Rattle.serving_law.specs.Disks.{Disk, device}
use Rattle.serving_law.specs.Examples.{Request}
use Rattle.serving_law.specs.ExamplesAgreed.{three, a, PrintsKnown, says_vote, CountsOnce}
use Rattle.serving_law.specs.ExamplesShown.{drops}
use Rattle.serving_law.specs.Federations.{Step, Happening, Turns, new_federation, after}
use Rattle.serving_law.specs.Rules.{AreBytes}
use Rattle.sealing_law.specs.Histories.{IsHistoryWithKeys}
use Rattle.sealing_law.specs.Sealing.{OnlySitesSeal}

-- ---- an agreement

-- each of the three prints that the bag is known
pub record AgreeWithKeys (ring : Ring) (bag : BagId) : Type 0 where
  pub history : List (Happening Disk)
  pub happens : IsHistoryWithKeys device three (ring ∷ []) history
  pub one : PrintsKnown history 1 bag
  pub two : PrintsKnown history 2 bag
  pub three : PrintsKnown history 3 bag

-- with any keys, one of sites and one of clients
abbrev pub ThreeSitesAgreeWithKeys : Type 0
ThreeSitesAgreeWithKeys =
    (ring : Ring) (site client : List ℕ) (bag : BagId)
    → Has site ring.sites → Has client ring.clients → Request three.federation a bag
    → AgreeWithKeys ring bag

-- ---- sealed votes

-- one key of sites and one of clients
abbrev pub two_keys : (site client : List ℕ) → Ring
two_keys site client = record { sites = site ∷ []; clients = client ∷ [] }

-- what a port with these keys hands on of a site's vote for site 3, with its tag behind it
abbrev pub opened_vote : (site client : List ℕ) → (from : ℕ) → BagId → List ℕ
opened_vote site client from bag =
    handed_on (Some (two_keys site client)) (sealed site (says_vote 3 from bag).1)

-- To site 3 the sealed vote of site 1 comes, and comes again; then that of site 2, and the bag is
-- known. Each counts as in the history without keys.
pub record SealedVotesCount (site client : List ℕ) (bag : BagId) : Type 0 where
  pub votes : CountsOnce bag
  pub happens : IsHistoryWithKeys device three (two_keys site client ∷ [])
      (votes.before ++ Turns 3 votes.first 0 0 ∷ Turns 3 votes.again 0 0
      ∷ Turns 3 votes.other 0 1 ∷ Turns 3 votes.late 0 0 ∷ [])
  pub one : votes.first.turn.took ≡ From 0 (opened_vote site client 1 bag)
  pub two : votes.other.turn.took ≡ From 0 (opened_vote site client 2 bag)

abbrev pub ASealedVoteCounts : Type 0
ASealedVoteCounts =
    (site client : List ℕ) (bag : BagId) → Request three.federation a bag
    → SealedVotesCount site client bag

-- ---- a forged message

-- site 2 knows the bag
abbrev pub says_known : BagId → List ℕ
says_known bag = datagram_of three.federation (record { slot = a; body = Known 2 bag })

-- as long as a tag, and no tag of the datagram by a key of the sites
pub record IsNoTag (ring : Ring) (datagram tag : List ℕ) : Type 0 where
  pub bytes : AreBytes tag
  pub long : length tag ≡ tag_len
  pub other : (key : List ℕ) → Has key ring.sites → tag ≡ tag_by key datagram → ⊥

-- Site 1 begins to serve, and nobody has handed out anything. The message comes with what is no tag
-- of it. The premise is met, nothing of the message is handed on, and the site says that it has
-- dropped what came.
pub record DropsAForgery (ring : Ring) (bag : BagId) (tag : List ℕ) : Type 0 where
  pub start : Happening Disk
  pub step : Step Disk
  pub unsent : (after new_federation start).handed ≡ []
  pub believed : OnlySitesSeal three ring [] 0 (says_known bag ++ tag)
  pub nothing : handed_on (Some ring) (says_known bag ++ tag) ≡ []
  pub dropped : step.turn ≡ drops []
  pub happens : IsHistoryWithKeys device three (ring ∷ []) (start ∷ Turns 1 step 0 0 ∷ [])

abbrev pub AForgedKnownIsDropped : Type 0
AForgedKnownIsDropped =
    (ring : Ring) (bag : BagId) (tag : List ℕ)
    → Request three.federation a bag → IsNoTag ring (says_known bag) tag
    → DropsAForgery ring bag tag
