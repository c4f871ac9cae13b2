-- When a slot, a ballot, a round or an identity is well-formed; all that the code makes are.
use Rattle.std.specs.Prelude.{ℕ, ◌≡◌, ◌≤◌, ◌<◌, ◌^◌, length}
use Rattle.std.specs.Str.{IsUtf8}
use Rattle.fed_types.specs.declared.bag_id.BagId.{BagId}
use Rattle.fed_types.specs.declared.vote.Vote.{Vote}
use Rattle.fed_types.specs.Ballots.{BallotNumber}
use Rattle.fed_types.specs.Limits.{bag_len, federation_bits, round_bits, version_bits}
use Rattle.fed_types.specs.Sites.{AreWeights, IsSiteNumber, Membership}
use Rattle.fed_types.specs.Slots.{SlotName, IsSlotName}

-- a slot's object is a text, and its version fits its field
abbrev pub IsSlot : SlotName → Type 0
IsSlot s = IsSlotName s × IsUtf8 s.object × (s.version < 2 ^ version_bits)

-- a round is at least 1 and fits its field
abbrev pub IsRound : ℕ → Type 0
IsRound n = (1 ≤ n) × (n < 2 ^ round_bits)

-- a ballot has a round and the number of a site
abbrev pub IsBallot : BallotNumber → Type 0
IsBallot b = (1 ≤ b.round) × (b.round < 2 ^ round_bits) × IsSiteNumber b.site

-- an identity has all its bytes
abbrev pub IsBag : BagId → Type 0
IsBag b = length b.0 ≡ bag_len

-- a vote has a ballot and a bag
abbrev pub IsVote : Vote → Type 0
IsVote v = IsBallot v.ballot × IsBag v.bag

-- a federation's number fits its field, and it has weights for 1 to the most members
abbrev pub IsMembership : Membership → Type 0
IsMembership m = (m.federation < 2 ^ federation_bits) × AreWeights m.weights
