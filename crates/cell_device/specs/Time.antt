-- What a crash at some moment since an earlier one may have left.
use Rattle.std.specs.Prelude.{◌⊎◌, ◌≤◌, ℕ, List}
use Rattle.cell_device.specs.Devices.{Device}

-- Time goes on: a crash since t might have left what it might have left before, or what it may
-- leave now.
pub record Elapses (before now : ℕ) (past since : ℕ → List ℕ → Type 0)
    (may_leave : List ℕ → Type 0) : Type 0 where
  pub later : before ≤ now
  pub nothing_else : (t : ℕ) (c : List ℕ) → t ≤ before → since t c → past t c ⊎ may_leave c
  pub nothing_less : (t : ℕ) (c : List ℕ) → t ≤ before → past t c → since t c

-- A crash at any moment since the device was as the old one leaves bytes that have P.
pub record LeavesOnly (old new : Device) (P : List ℕ → Type 0) : Type 0 where
  pub later : old.moment ≤ new.moment
  pub each : (c : List ℕ) → new.left_since old.moment c → P c
  -- for a run that began earlier
  pub before : (t : ℕ) (c : List ℕ) → t ≤ old.moment
      → new.left_since t c → old.left_since t c ⊎ P c
