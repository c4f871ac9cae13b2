-- A device that keeps all that was ever on it. No call of it fails, and it tells its bytes: over
-- such devices calls that may answer are answered.
use Rattle.std.specs.Prelude.{◌≡◌, ◌⊎◌, ◌≤◌, ℕ, suc, List, [], ◌∷◌, length, Some, None}
use Rattle.fed_types.specs.Sites.{Membership}
use Rattle.fed_types.specs.Slots.{SlotName}
use Rattle.cell_device.specs.Devices.{Device}
use Rattle.cell_device.specs.Images.{Image, Leaves, MayLeave, at_rest}
use Rattle.serving_law.specs.Rules.{IsHistory}
use Rattle.reach_law.specs.Running.{CanDecide}
use Rattle.serving_law.specs.Federations.{Happening, new_federation, after_all}
use Rattle.serving_reach_law.specs.Answering.{AreAnswered, ComesAbout}
use Rattle.serving_reach_law.specs.Laws.{AreRunning}
use Rattle.serving_reach_law.specs.Reach.{network_of}

-- the bytes that were on it, the latest first; at first there were none
abbrev pub Tape : Type 0
Tape = List (List ℕ)

abbrev pub bytes_on : Tape → List ℕ
bytes_on [] = []
bytes_on (bytes ∷ earlier) = bytes

-- what a crash since a moment may have left: what was there then, or later
abbrev pub left_on : Tape → (since : ℕ) → List ℕ → Type 0
left_on [] since bytes = (since ≤ 0) × (bytes ≡ [])
left_on (latest ∷ earlier) since bytes =
    ((since ≤ suc (length earlier)) × (bytes ≡ latest)) ⊎ left_on earlier since bytes

abbrev pub device : Tape → Device
device tape = record {
  image = Some (at_rest (bytes_on tape));
  fuse = None;
  moment = length tape;
  left_since = left_on tape;
  failures = 0;
}

-- Each is a cell as others are: a read gives what a crash now may leave; this moment is one of
-- those since an earlier one; and since now there is no other.
pub record AreLikeCells : Type 0 where
  pub seen_now : (tape : Tape) (i : Image) → (device tape).image ≡ Some i → Leaves i i.seen
  pub counts_now : (tape : Tape) (t : ℕ) (bytes : List ℕ) → t ≤ length tape
      → MayLeave (device tape).image bytes → (device tape).left_since t bytes
  pub only_now : (tape : Tape) (bytes : List ℕ)
      → (device tape).left_since (device tape).moment bytes
      → MayLeave (device tape).image bytes

-- calls that may answer are answered
abbrev pub TapesAnswer : Type 0
TapesAnswer =
    (members : Membership) (addresses running : List ℕ) (slot : SlotName)
    → AreRunning members addresses running → AreAnswered device members addresses running slot

-- so over them a decision comes about, whatever has happened
abbrev pub ADecisionComesAbout : Type 0
ADecisionComesAbout =
    (members : Membership) (addresses running : List ℕ) (history : List (Happening Tape))
    (slot : SlotName)
    → AreRunning members addresses running → IsHistory device members history
    → CanDecide (network_of (after_all new_federation history)) running slot
    → ComesAbout device members addresses running slot history
