-- What crashes may have left of a buffer whose changes can be undone.
use Rattle.std.specs.Prelude.{◌≡◌, ◌⊎◌, ℕ, ◌+◌, ◌-◌, List, [], ◌∷◌, ◌++◌, length, take, reverse}
use Rattle.std.proofs.Common.{zero, suc}
use Rattle.cell_device.specs.declared.change.Change.{Change}

-- a buffer; a crash leaves its first bytes, from `least` to `most` of them
pub record State : Type 0 where
  pub buffer : List ℕ
  pub least : ℕ
  pub most : ℕ

-- as it was before a change
abbrev pub before : Change → State → State
before e s = record { buffer = take e.at s.buffer ++ e.lost.items; least = e.least; most = e.most }

-- a crash in this state leaves these bytes
abbrev pub Left : State → List ℕ → Type 0
Left s c = (k : ℕ) × (c ≡ take (s.least + k) (take s.most s.buffer))

-- a crash in this state, or in one of the n before it, leaves these bytes; the newest change
-- comes first
abbrev pub LeftWithin : State → List Change → ℕ → List ℕ → Type 0
LeftWithin s [] n c = Left s c
LeftWithin s (e ∷ changes) zero c = Left s c
LeftWithin s (e ∷ changes) (suc n) c = Left s c ⊎ LeftWithin (before e s) changes n c

-- a crash since that moment leaves these bytes; the moment is the number of the changes before it
abbrev pub LeftSince : State → List Change → ℕ → List ℕ → Type 0
LeftSince s changes t c = LeftWithin s (reverse changes) (length changes - t) c
