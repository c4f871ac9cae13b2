-- What a call answers, and what it does. Two things are distinct: what it tries, and may have done
-- in part if it fails; and what it has done if it answers Ok. An append tries to append, and has
-- appended; a sync tries no change of the bytes, and has kept what a read gives.
use Rattle.std.specs.Prelude.{◌≡◌, ◌≢◌, ◌⊎◌, ◌≤◌, ◌+◌, ◌-◌, ◌^◌, min, ℕ, List, true, false}
use Rattle.std.specs.Prelude.{Option, Some, None, Result, Ok, Err, IsErrOf}
use Rattle.cell_device.specs.declared.fault.CellFault.{CellFault}
use Rattle.cell_device.specs.declared.fault.CellFault.TheVariants.{Device, Memory}
use Rattle.cell_device.specs.declared.fuse.FuseState.{FuseState}
use Rattle.cell_device.specs.declared.fuse.FuseState.TheVariants.{Stopped}
use Rattle.cell_device.specs.Images.{Image, IfKnown, MayLeave, after_failure}
use Rattle.cell_device.specs.Time.{Elapses}
use Rattle.cell_device.specs.Devices as devices
use Rattle.cell_device.specs.Fuses.{fires, next_fuse, next_image}

-- Ok: it is done. Memory: the image is as it was. Device: the image is as it was, or it is what a
-- failure leaves of what was tried
abbrev pub CallOutcome : {T : Type 0} → Result T CellFault
    → (tried done : Image → Image) → Image → Option Image → Type 0
CallOutcome (Ok x) tried done i new = new ≡ Some (done i)
CallOutcome (Err Memory) tried done i new = new ≡ Some i
CallOutcome (Err Device) tried done i new =
    (new ≡ Some i) ⊎ ((k : ℕ) × (new ≡ Some (after_failure k (tried i))))

-- the same, if the bytes are known; if they aren't, they remain unknown
abbrev pub Turns : {T : Type 0} → Result T CellFault
    → (tried done : Image → Image) → (old new : Option Image) → Type 0
Turns result tried done None new = new ≡ None
Turns result tried done (Some i) new = CallOutcome result tried done i new

-- the image after a call, by the fuse, where it is known
abbrev pub FollowsFuse : FuseState
    → (tried done : Image → Image) → (old new : Option Image) → Type 0
FollowsFuse f tried done None new = Unit {0}
FollowsFuse f tried done (Some i) new = new ≡ Some (next_image f tried done i)

-- a call that isn't refused for memory answers Device exactly if the fuse fires, and burns it; a
-- stopped cell refuses none for memory
abbrev pub Burns : {T : Type 0} → Result T CellFault → (tried done : Image → Image)
    → FuseState → Option FuseState → (old new : Option Image) → Type 0
Burns (Ok x) tried done f fuse old new =
    (fires f ≡ false) × (fuse ≡ Some (next_fuse f)) × FollowsFuse f tried done old new
Burns (Err Device) tried done f fuse old new =
    (fires f ≡ true) × (fuse ≡ Some (next_fuse f)) × FollowsFuse f tried done old new
Burns (Err Memory) tried done f fuse old new = (f ≢ Stopped) × (fuse ≡ Some f)

-- the same, where the fuse is known
abbrev pub Follows : {T : Type 0} → Result T CellFault → (tried done : Image → Image)
    → (before after : Option FuseState) → (old new : Option Image) → Type 0
Follows result tried done None fuse old new = Unit {0}
Follows result tried done (Some f) fuse old new = Burns result tried done f fuse old new

-- the most failures that are counted: a count has 64 bits
abbrev pub most_failures : ℕ
most_failures = 2 ^ 64 - 1

-- the count with one failure more, at most the greatest
abbrev pub one_more : ℕ → ℕ
one_more before = min (before + 1) most_failures

-- The fault for a failure of the device is answered exactly if the device failed, by the count of
-- its failures, and then it failed once; no failure is answered as anything else.
pub record HasCause {T E : Type 0} (device : E) (before now : ℕ) (result : Result T E) : Type 0
  where
    pub later : before ≤ now
    pub failed : IsErrOf result device → now ≡ one_more before
    pub same : ¬ IsErrOf result device → now ≡ before

-- what a read gives, where the bytes are known
abbrev pub IsRead : Option Image → List ℕ → Type 0
IsRead image bytes = IfKnown image (λ i. bytes ≡ i.seen)

-- The effect of a call that tries one thing and does another: on the bytes, on the fuse, on what
-- crashes may have left, and on the count of failures.
pub record Calls {T : Type 0} (tried done : Image → Image) (old new : devices.Device)
    (result : Result T CellFault) : Type 0 where
  pub bytes : Turns result tried done old.image new.image
  pub fuse : Follows result tried done old.fuse new.fuse old.image new.image
  pub time : Elapses old.moment new.moment old.left_since new.left_since (MayLeave new.image)
  pub cause : HasCause Device old.failures new.failures result
