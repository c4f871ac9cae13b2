-- What a crash may leave of a cell at rest, whose bytes are appended to or cut, and synced.
use Rattle.std.proofs.Common.{◌≡◌, ◌+◌, ◌++◌, ◌≤◌, ℕ, List, length, take, Result, Ok, refl, sym}
use Rattle.std.proofs.Common.{arith}
use Rattle.std.proofs.lemmas.List.{append-nil, take_all}
use Rattle.cell_device.specs.declared.fault.CellFault.{CellFault}
use Rattle.cell_device.specs.Images.{IfKnown, MayLeave, with_bytes, cut_to, all_synced, same_image}
use Rattle.cell_device.specs.Calls.{Calls}
use Rattle.cell_device.specs.Devices.{Device}
use Rattle.cell_device.specs.Time.{LeavesOnly}
use Rattle.book.specs.inner.Sound.{RestsAt}
use Rattle.book.proofs.AtRest.{at_start, append_leaves, append_sync_leaves, cut_leaves}
use Rattle.book.proofs.AtRest.{cut_sync_leaves}
use Rattle.book.proofs.Moments.{started, goes_on}

module _ {C : Type 0} (device : C → Device) (only_now : (cell : C) (c : List ℕ)
    → (device cell).left_since (device cell).moment c → MayLeave (device cell).image c)
    (old : C) (bytes : List ℕ) (rest : RestsAt bytes (device old).image) where
  -- one of these, where it is known what the cell holds
  abbrev pub OneOf : (ℕ → List ℕ) → List ℕ → Type 0
  OneOf each left = IfKnown (device old).image (λ i. (k : ℕ) × (left ≡ each k))

  -- ---- bytes are appended

  module _ (more : List ℕ) where
    abbrev longer : ℕ → List ℕ
    longer k = bytes ++ take k more

    pub appended : {T : Type 0} (result : Result T CellFault) (new : C)
        → Calls (with_bytes more) (with_bytes more) (device old) (device new) result
        → LeavesOnly (device old) (device new) (OneOf longer)
    appended result new call =
        goes_on device only_now old old new (OneOf longer)
        (started device only_now old (OneOf longer)
        (at_start bytes (device old).image (λ l. (k : ℕ) × (l ≡ longer k)) rest
        (0, sym (append-nil bytes)))) call.time
        (append_leaves result bytes more (device old).image (device new).image
        (λ l. (k : ℕ) × (l ≡ longer k)) rest call.bytes (λ k. (k, refl)))

    pub appended_synced : {T U : Type 0} (x : T) (result : Result U CellFault) (mid new : C)
        → Calls (with_bytes more) (with_bytes more) (device old) (device mid) (Ok x)
        → Calls same_image all_synced (device mid) (device new) result
        → LeavesOnly (device old) (device new) (OneOf longer)
    appended_synced x result mid new first second =
        goes_on device only_now old mid new (OneOf longer) (appended (Ok x) mid first) second.time
        (append_sync_leaves x result bytes more (device old).image (device mid).image
        (device new).image (λ l. (k : ℕ) × (l ≡ longer k)) rest first.bytes second.bytes
        (λ k. (k, refl)))

  -- ---- the cell is cut

  module _ (len : ℕ) (within : len ≤ length bytes) where
    abbrev shorter : ℕ → List ℕ
    shorter k = take (len + k) bytes

    pub untouched : LeavesOnly (device old) (device old) (OneOf shorter)
    untouched =
        started device only_now old (OneOf shorter)
        (at_start bytes (device old).image (λ l. (k : ℕ) × (l ≡ shorter k)) rest
        (length bytes, sym (take_all (len + length bytes) bytes (omega arith))))

    pub cut : {T : Type 0} (result : Result T CellFault) (new : C)
        → Calls (cut_to len) (cut_to len) (device old) (device new) result
        → LeavesOnly (device old) (device new) (OneOf shorter)
    cut result new call =
        goes_on device only_now old old new (OneOf shorter) untouched call.time
        (cut_leaves result bytes len (device old).image (device new).image
        (λ l. (k : ℕ) × (l ≡ shorter k)) within rest call.bytes (λ k. (k, refl)))

    pub cut_synced : {T U : Type 0} (x : T) (result : Result U CellFault) (mid new : C)
        → Calls (cut_to len) (cut_to len) (device old) (device mid) (Ok x)
        → Calls same_image all_synced (device mid) (device new) result
        → LeavesOnly (device old) (device new) (OneOf shorter)
    cut_synced x result mid new first second =
        goes_on device only_now old mid new (OneOf shorter) (cut (Ok x) mid first) second.time
        (cut_sync_leaves x result bytes len (device old).image (device mid).image
        (device new).image (λ l. (k : ℕ) × (l ≡ shorter k)) within rest first.bytes second.bytes
        (λ k. (k, refl)))
