-- What a medium holds, and what crashes of it may have left.
use Rattle.std.specs.Prelude.{◌≡◌, ℕ, List, length, take, if◌then◌else◌, Some}
use Rattle.cell_device.specs.declared.medium.Medium.{Medium}
use Rattle.cell_device.specs.Images.{Image, MayLeave}
use Rattle.cell_device.specs.Time.{Elapses}
use Rattle.cell_device.specs.inner.Undone.{State, LeftSince}

-- the buffer, and how much of it a crash leaves
abbrev pub state : Medium → State
state m = record { buffer = m.buffer.items; least = m.least; most = m.most }

-- what it holds; after a cut the longer bytes are the synced ones
abbrev pub medium_image : Medium → Image
medium_image m = record {
  synced = take (if m.is_cut then m.most else m.least) m.buffer.items;
  newest = take (if m.is_cut then m.least else m.most) m.buffer.items;
  seen = take m.seen m.buffer.items;
}

-- the moment, as the number of the changes before it
abbrev pub moment : Medium → ℕ
moment m = length m.changes.items

-- what a crash since that moment may have left
abbrev pub left_since : Medium → ℕ → List ℕ → Type 0
left_since m t c = LeftSince (state m) m.changes.items t c

-- the same state, and the same changes before it
pub record IsSameTime (old new : Medium) : Type 0 where
  pub state : state new ≡ state old
  pub changes : new.changes.items ≡ old.changes.items

-- time goes on
abbrev pub GoesOn : Medium → Medium → Type 0
GoesOn old new =
    Elapses (moment old) (moment new) (left_since old) (left_since new)
    (MayLeave (Some (medium_image new)))
