-- The members of a federation that run, and what they can begin with.
use Rattle.std.specs.Prelude.{ℕ, ◌≡◌, ◌≤◌, ◌<◌, ◌+◌, ◌⊎◌, List, [], ◌∷◌, Some, IsSome}
use Rattle.std.specs.Prelude.{if◌then◌else◌}
use Rattle.fed_types.specs.Ballots.{BallotNumber}
use Rattle.fed_types.specs.Limits.{greatest_round}
use Rattle.fed_types.specs.Lists.{Has}
use Rattle.fed_types.specs.Quorums.{QuorumSystem}
use Rattle.fed_types.specs.Slots.{SlotName, same_slot}
use Rattle.records.specs.declared.record.Record.{Record}
use Rattle.records.specs.SlotStates.{promised_of, vote_of, deposit_of, known_of}
use Rattle.proposer.specs.Proposals.{last_round}
use Rattle.proposer.specs.VolatileStates.{VolatileState}
use Rattle.world_law.specs.Networks.{Network, volatile_in, Event, Propose, Recover}

-- what site n has on record, and what it has heard
abbrev pub records_at : Network → (n : ℕ) → List Record
records_at w n = (w.sites n).records

abbrev pub volatile_at : Network → (n : ℕ) → VolatileState
volatile_at w n = volatile_in (w.sites n).mode

-- those that run are members
abbrev pub AreMembers : QuorumSystem → (running : List ℕ) → Type 0
AreMembers q running = (n : ℕ) → Has n running → Has n q.members

-- Rounds are left to the site: two above those that it has used or that were named in refusals, and
-- one above the round of each ballot that a running member has promised.
pub record RoundsAreLeft (w : Network) (running : List ℕ) (slot : SlotName) (site : ℕ) : Type 0
  where
    pub own : 2 + last_round slot (records_at w site) (volatile_at w site).heard ≤ greatest_round
    pub promised : (n : ℕ) (b : BallotNumber) → Has n running
        → promised_of slot (records_at w n) ≡ Some b → b.round < greatest_round

-- a site has voted for a bag of the slot, or has a deposit for it: so it may recover the slot
abbrev pub HasVoteOrDeposit : SlotName → List Record → Type 0
HasVoteOrDeposit slot records = IsSome (vote_of slot records) ⊎ IsSome (deposit_of slot records)

-- One of those that run knows the slot's bag; or it has voted for one or has a deposit, and has
-- rounds left.
pub record CanDecide (w : Network) (running : List ℕ) (slot : SlotName) : Type 0 where
  pub site : ℕ
  pub runs : Has site running
  pub can : IsSome (known_of slot (records_at w site))
      ⊎ (HasVoteOrDeposit slot (records_at w site) × RoundsAreLeft w running slot site)

-- how many of these events are proposals for the slot, or recoveries of it
abbrev pub proposals_in : SlotName → Event → ℕ
proposals_in slot (Propose n s fate) = if same_slot s slot then 1 else 0
proposals_in slot (Recover n s fate) = if same_slot s slot then 1 else 0
proposals_in slot _ = 0

unfoldable pub proposals_for : SlotName → List Event → ℕ
proposals_for slot [] = 0
proposals_for slot (e ∷ events) = proposals_in slot e + proposals_for slot events
