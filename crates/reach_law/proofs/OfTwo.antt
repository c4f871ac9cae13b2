-- Of two deposits each has one of the first two turns.
use Rattle.std.proofs.Common.{ℕ, zero, suc, ◌≡◌, ◌<◌, inl, inr, List, Some, arith}
use Rattle.records.specs.declared.record.Record.{Record}
use Rattle.udp_site.specs.Rounds.{next_waiting}
use Rattle.reach_law.specs.InTurn.{AreProposingTurns, Waits, IsNextOrAfter}
use Rattle.reach_law.proofs.InTurn.{proposed_in_turn}

module _ (records : ℕ → List Record) (tried : ℕ → ℕ) (place : ℕ) where
  in_turn : (turn : ℕ) → turn < 2 → next_waiting (records turn) (tried turn) ≡ Some place
      → IsNextOrAfter records tried place
  in_turn zero less is = inl is
  in_turn (suc zero) less is = inr is
  in_turn (suc (suc turn)) less is = absurd (omega (arith, less))

pub each_of_two : (records : ℕ → List Record) (tried : ℕ → ℕ) (place : ℕ)
    → AreProposingTurns records tried → Waits records place 2 → IsNextOrAfter records tried place
each_of_two records tried place turns waits =
    let r = proposed_in_turn records tried place 2 turns waits in
    in_turn records tried place r.0 r.1 r.2
