-- Which deposit a site that serves proposes, in those of its idle turns in which it proposes.
use Rattle.std.specs.Prelude.{ℕ, suc, ◌≡◌, ◌<◌, ◌+◌, ◌⊎◌, List, true, Some}
use Rattle.records.specs.declared.record.Record.{Record}
use Rattle.udp_site.specs.Rounds.{waits, next_waiting}

-- Such turns of one site, one after another: what is on record at each, and the place after the
-- deposit that was tried last, as the rules of turns have it.
abbrev pub AreProposingTurns : (records : ℕ → List Record) → (tried : ℕ → ℕ) → Type 0
AreProposingTurns records tried =
    (turn place : ℕ) → next_waiting (records turn) (tried turn) ≡ Some place
    → tried (suc turn) ≡ place + 1

-- At each of them the deposit at this place waits, and each that waits is among the first `most`.
pub record Waits (records : ℕ → List Record) (place most : ℕ) : Type 0 where
  pub waits_on : (turn : ℕ) → waits (records turn) place ≡ true
  pub within : (turn other : ℕ) → waits (records turn) other ≡ true → other < most

-- one of the first `most` turns proposes it
abbrev pub IsProposedInTurn :
    (records : ℕ → List Record) → (tried : ℕ → ℕ) → (place most : ℕ) → Type 0
IsProposedInTurn records tried place most =
    (turn : ℕ) × (turn < most) × (next_waiting (records turn) (tried turn) ≡ Some place)

-- the first of these turns proposes it, or the second
abbrev pub IsNextOrAfter : (records : ℕ → List Record) → (tried : ℕ → ℕ) → (place : ℕ) → Type 0
IsNextOrAfter records tried place =
    (next_waiting (records 0) (tried 0) ≡ Some place)
    ⊎ (next_waiting (records 1) (tried 1) ≡ Some place)
