-- Ballots and their order.
use Rattle.std.specs.Prelude.{◌≡◌, ℕ, ◌<◌, ◌⊎◌, Bool, ◌==◌, ◌&&◌}
use Rattle.std.specs.declared.cmp.Ordering.{Ordering}
use Rattle.std.specs.Ordering.{nat_cmp, then_cmp, on, is_lt}

-- a ballot's number: its round, and the site that proposes in it
pub record BallotNumber : Type 0 where
  pub round : ℕ
  pub site : ℕ

-- whether two ballots are one
abbrev pub same_ballot : BallotNumber → BallotNumber → Bool
same_ballot a b = (a.round == b.round) && (a.site == b.site)

-- the order of ballots: by round, and within a round by site, so that the ballots of two sites
-- differ (Lamport, Paxos Made Simple, section 2.2)
unfoldable pub ballot_cmp : BallotNumber → BallotNumber → Ordering
ballot_cmp = then_cmp (on (λ b. b.round) nat_cmp) (on (λ b. b.site) nat_cmp)

-- whether the first ballot is below the second
abbrev pub below : BallotNumber → BallotNumber → Bool
below a b = is_lt (ballot_cmp a b)

-- the first ballot is below the second: of a lower round, or of the same round and a lower site
abbrev pub Below : BallotNumber → BallotNumber → Type 0
Below a b = (a.round < b.round) ⊎ ((a.round ≡ b.round) × (a.site < b.site))
