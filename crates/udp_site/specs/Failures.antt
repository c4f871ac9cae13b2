-- When a call of many calls answers that a device failed.
use Rattle.std.specs.Prelude.{◌≡◌, ◌≤◌, ℕ, Result, IsErrOf}
use Rattle.cell_device.specs.Calls.{one_more}

-- The fault for a failure of the device is answered only where the device failed in this call: the
-- count of its failures is one more than one that was no less than that before the call. Failures
-- that don't stop the call are counted too.
pub record OnlyByFailing {T E : Type 0} (device : E) (before now : ℕ) (result : Result T E) : Type 0
  where
    pub later : before ≤ now
    pub failed : IsErrOf result device
        → (count : ℕ) × (before ≤ count) × (now ≡ one_more count)
