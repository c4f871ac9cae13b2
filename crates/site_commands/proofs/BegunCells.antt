-- What crashes may leave of a cell of no bytes that gets a header.
use Rattle.std.proofs.Common.{◌≡◌, inl, inr, ⊎_elim, ℕ, List, [], take, Option, Some, None}
use Rattle.std.proofs.Common.{Result, Ok, ap, subst}
use Rattle.cell_device.specs.declared.fault.CellFault.{CellFault}
use Rattle.cell_device.specs.Images.{Image, IfKnown, MayLeave, with_bytes, at_rest}
use Rattle.cell_device.specs.Images.{all_synced, same_image}
use Rattle.cell_device.specs.Calls.{Calls, Turns}
use Rattle.cell_device.specs.Devices.{Device}
use Rattle.cell_device.specs.Time.{LeavesOnly}
use Rattle.book.proofs.AtRest.{rest_leaves, sync_leaves}
use Rattle.book.proofs.LeftBehind as left_behind
use Rattle.book.proofs.Moments.{started, goes_on, joined, weaker}
use Rattle.site_commands.specs.inner.Begun.{HasNone, RestsAtNone, LeavesHeader}

module _ (header : List ℕ) where
  -- before the first call
  not_begun : (old : Option Image) (c : List ℕ) → MayLeave old c → LeavesHeader header old c
  not_begun None c left = tt
  not_begun (Some i) c left = inl left

  -- the first bytes of the header
  first_bytes : (old : Option Image) (c : List ℕ)
      → IfKnown old (λ i. (k : ℕ) × (c ≡ take k header)) → LeavesHeader header old c
  first_bytes None c left = tt
  first_bytes (Some i) c left = inr left

  -- a sync leaves none of it
  sync_only : {T : Type 0} (result : Result T CellFault) (old new : Option Image) → HasNone old
      → Turns result same_image all_synced old new → (c : List ℕ) → MayLeave new c
      → LeavesHeader header old c
  sync_only result None new none turns c left = tt
  sync_only result (Some i) new none turns c left =
      sync_leaves result (Some i) new (LeavesHeader header (Some i)) turns
      (not_begun (Some i)) (inr (0, none)) c left

  -- what is left of it after the sync is what is left of it at all
  after_sync : {T : Type 0} (x : T) (old new : Option Image) → HasNone old
      → Turns (Ok x) same_image all_synced old new → (c : List ℕ)
      → LeavesHeader header new c → LeavesHeader header old c
  after_sync x None new none turns c left = tt
  after_sync x (Some i) new none turns c left = ⊎_elim
      (λ past. inr (0, rest_leaves [] (all_synced i) c (ap at_rest none) past)) (λ first. inr first)
      (subst (λ (o : Option Image). LeavesHeader header o c) turns left)

  module _ {C : Type 0} (device : C → Device) (only_now : (cell : C) (c : List ℕ)
      → (device cell).left_since (device cell).moment c → MayLeave (device cell).image c)
      (old : C) where
    abbrev Left : C → List ℕ → Type 0
    Left cell = LeavesHeader header (device cell).image

    -- the header is appended
    pub appended : {T : Type 0} (result : Result T CellFault) (new : C)
        → RestsAtNone (device old).image
        → Calls (with_bytes header) (with_bytes header) (device old) (device new) result
        → LeavesOnly (device old) (device new) (Left old)
    appended result new none call =
        weaker device only_now old new (left_behind.OneOf device only_now old [] none
        (λ k. take k header)) (Left old)
        (left_behind.appended device only_now old [] none header result new call)
        (first_bytes (device old).image)

    -- and synced
    pub appended_synced : {T U : Type 0} (x : T) (result : Result U CellFault) (mid new : C)
        → RestsAtNone (device old).image
        → Calls (with_bytes header) (with_bytes header) (device old) (device mid) (Ok x)
        → Calls same_image all_synced (device mid) (device new) result
        → LeavesOnly (device old) (device new) (Left old)
    appended_synced x result mid new none first second =
        weaker device only_now old new (left_behind.OneOf device only_now old [] none
        (λ k. take k header)) (Left old)
        (left_behind.appended_synced device only_now old [] none header x result mid new first
        second) (first_bytes (device old).image)

    -- after a sync
    pub synced_before : {T : Type 0} (x : T) (mid new : C) → HasNone (device old).image
        → Calls same_image all_synced (device old) (device mid) (Ok x)
        → LeavesOnly (device mid) (device new) (Left mid)
        → LeavesOnly (device old) (device new) (Left old)
    synced_before {T = T} x mid new none first second =
        let ok : Result T CellFault = Ok x in
        joined device only_now old mid new (Left old) (Left mid)
        (goes_on device only_now old old mid (Left old)
        (started device only_now old (Left old) (not_begun (device old).image)) first.time
        (sync_only ok (device old).image (device mid).image none first.bytes)) second
        (after_sync x (device old).image (device mid).image none first.bytes)
