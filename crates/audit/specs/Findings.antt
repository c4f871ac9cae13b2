-- What the cells say together of a version, as one answer.
use Rattle.std.specs.Prelude.{◌≡◌, ◌≢◌, ℕ, Bool, List, filter, filter_map}
use Rattle.std.specs.List.{list_any}
use Rattle.fed_types.specs.declared.bag_id.BagId.{BagId}
use Rattle.fed_types.specs.declared.vote.Vote.{Vote}
use Rattle.fed_types.specs.Quorums.{QuorumSystem}
use Rattle.fed_types.specs.Slots.{SlotName}
use Rattle.records.specs.declared.record.Record.{Record}
use Rattle.records.specs.SlotStates.{entries, vote_in}
use Rattle.dgram.specs.Heard.{same_vote}
use Rattle.world_law.specs.Laws.{IsChosenBy}
use Rattle.audit.specs.declared.finding.Finding.{Finding}
use Rattle.audit.specs.declared.finding.Finding.TheVariants.{Chosen, Known, Open, Conflict}
use Rattle.audit.specs.Evidence.{SiteRecord, records_at, network_of}
use Rattle.audit.specs.Laws.{ShowChosen, SayKnown, IsNamed}

-- no other bag is named
abbrev pub NameNoOther : QuorumSystem → List SiteRecord → SlotName → BagId → Type 0
NameNoOther q given slot bag = (other : BagId) → IsNamed q given slot other → other ≡ bag

-- The members of a quorum have the vote on record, and no other bag is named; or a bag is known, no
-- quorum is shown, and no other is named; or none is named; or two are.
abbrev pub IsFinding : QuorumSystem → List SiteRecord → SlotName → Finding → Type 0
IsFinding q given slot (Chosen vote) =
    IsChosenBy q (network_of given) slot vote × NameNoOther q given slot vote.bag
IsFinding q given slot (Known bag) =
    SayKnown given slot bag × ((other : BagId) → ¬ ShowChosen q given slot other)
    × NameNoOther q given slot bag
IsFinding q given slot Open = (bag : BagId) → ¬ IsNamed q given slot bag
IsFinding q given slot (Conflict u v) =
    IsNamed q given slot u × IsNamed q given slot v × (u ≢ v)

-- ---- counting by hand

-- the votes of a version on record
abbrev pub votes_in : SlotName → List Record → List Vote
votes_in slot records = filter_map vote_in (entries slot records)

-- whether a site has the vote on record
abbrev pub has_vote : List SiteRecord → SlotName → Vote → ℕ → Bool
has_vote given slot vote site = list_any (same_vote vote) (votes_in slot (records_at given site))

-- the members that have it
abbrev pub members_with : QuorumSystem → List SiteRecord → SlotName → Vote → List ℕ
members_with q given slot vote = filter (has_vote given slot vote) q.members
