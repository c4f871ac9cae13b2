-- A disk that fails: a site that is to record a deposit is answered that its device failed, says
-- so, and ends. Its record may be lost or kept all the same, and the next process goes on from
-- either.
use Rattle.std.specs.Prelude.{◌≡◌, ◌≤◌, ℕ, List, [], ◌∷◌, None, Some}
use Rattle.cell_device.specs.Devices.{Device}
use Rattle.cell_device.specs.Images.{Image, Leaves, MayLeave}
use Rattle.fed_types.specs.declared.bag_id.BagId.{BagId}
use Rattle.fed_types.specs.Sites.{Membership}
use Rattle.fed_types.specs.Slots.{SlotName}
use Rattle.fed_types.specs.Values.{IsMembership}
use Rattle.records.specs.declared.record.Record.{Record}
use Rattle.dgram.specs.declared.answers.DepositAnswer.TheVariants as deposit
use Rattle.dgram.specs.declared.body.Body.TheVariants.{DepositReply}
use Rattle.dgram.specs.Encoding.{datagram_of}
use Rattle.site.specs.Sites.{OpenSite}
use Rattle.serving_law.specs.Disks.{Disk, device}
use Rattle.serving_law.specs.Examples.{Request, recorded}
use Rattle.serving_law.specs.Federations.{Step, Happening, Fails, Renews, Starts, new_federation}
use Rattle.serving_law.specs.Federations.{after_all}
use Rattle.serving_law.specs.Rules.{IsHistory}

-- A disk of which all is known, and how often it has failed. A call that fails may have done its
-- work: what a crash since a moment may have left is what it may have left of the disk.
pub record WornDisk : Type 0 where
  pub disk : Disk
  pub failures : ℕ

abbrev pub worn_device : WornDisk → Device
worn_device worn = record {
  image = (device worn.disk).image;
  fuse = None;
  moment = (device worn.disk).moment;
  left_since = (device worn.disk).left_since;
  failures = worn.failures;
}

-- what every cell keeps, it does (`AreLikeCells`)
pub record WornAreLikeCells : Type 0 where
  pub seen_now : (worn : WornDisk) (i : Image) → (worn_device worn).image ≡ Some i
      → Leaves i i.seen
  pub counts_now : (worn : WornDisk) (t : ℕ) (bytes : List ℕ) → t ≤ (worn_device worn).moment
      → MayLeave (worn_device worn).image bytes → (worn_device worn).left_since t bytes
  pub only_now : (worn : WornDisk) (bytes : List ℕ)
      → (worn_device worn).left_since (worn_device worn).moment bytes
      → MayLeave (worn_device worn).image bytes

-- Site 1 is started, and may be called again; its device fails as it records the deposit, and it
-- has handed out that reply, which may still come; its cell recovers to these records; and it is
-- started again, with just these.
pub record HasFailed (members : Membership) (slot : SlotName) (bag : BagId) (address : ℕ)
    (records : List Record) : Type 0 where
  pub start : Happening WornDisk
  pub step : Step WornDisk
  pub cell : WornDisk
  pub site : OpenSite WornDisk
  pub happens : IsHistory worn_device members
      (start ∷ Fails 1 step 1 0 records ∷ Starts 1 cell site ∷ [])
  pub renews : IsHistory worn_device members (start ∷ Renews 1 ∷ [])
  pub may_come : (after_all new_federation (start ∷ Fails 1 step 1 0 records ∷ [])).handed
      ≡ step.turn.done.posts
  pub replies : step.turn.done.posts
      ≡ (
        address,
        datagram_of members.federation
            (record { slot = slot; body = DepositReply 1 deposit.Device }),
      )
      ∷ []
  pub has : site.book.records ≡ records

pub record FailsInADeposit : Type 0 where
  pub like_cells : WornAreLikeCells
  pub fails : (members : Membership) (slot : SlotName) (bag : BagId)
      (request : Request members.federation slot bag) → IsMembership members
      → HasFailed members slot bag request.address []
      × HasFailed members slot bag request.address (recorded slot bag ∷ [])
