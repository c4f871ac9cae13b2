-- What may happen to a federation of sites that serve.
use Rattle.std.specs.Prelude.{◌≡◌, ⊤, ◌<◌, true, false, ℕ, List, [], ◌∷◌, get_or}
use Rattle.std.specs.Prelude.{Some, IsSome, Ok}
use Rattle.fed_types.specs.Lists.{Has}
use Rattle.fed_types.specs.Sites.{Membership, members_of}
use Rattle.cell_device.specs.Devices.{Device}
use Rattle.cell_device.specs.Images.{Image}
use Rattle.records.specs.declared.owner.Owner.{Owner}
use Rattle.records.specs.declared.record.Record.{Record}
use Rattle.records.specs.Journals.{DecodesTo}
use Rattle.dgram.specs.declared.message.Message.{Message}
use Rattle.dgram.specs.Encoding.{body_from}
use Rattle.book.specs.Opened.{Opens}
use Rattle.udp_site.specs.Traffic.{Post, Taken, Nothing, From}
use Rattle.udp_site.specs.Requests.{Says, request_of}
use Rattle.udp_site.specs.Turns.{Serving, turn_of}
use Rattle.serving_law.specs.Federations.{Serves, Down, Federation, new_federation, Step, Happening}
use Rattle.serving_law.specs.Federations.{Turns, Fails, Dies, Ends, Renews, Starts, after}

-- ---- the network

-- each is a byte
abbrev pub AreBytes : List ℕ → Type 0
AreBytes bytes = (place : ℕ) → get_or bytes place 0 < 256

-- these very bytes were handed out, for some address
abbrev pub WereHanded : List Post → List ℕ → Type 0
WereHanded handed bytes = (address : ℕ) × Has (address, bytes) handed

-- the message is in the name of a member
abbrev pub IsOfMember : Membership → Message → Type 0
IsOfMember members message =
    (n : ℕ) × (body_from message.body ≡ Some n) × Has n (members_of members)

-- What may come, to any member and from any address: nothing; or any bytes, but that what one site
-- says to another, in the name of a member, was handed out before by a member. So no such message
-- is forged or altered. One in the name of a site that is no member may come at any time.
abbrev pub MayCome : Membership → (handed : List Post) → Taken → Type 0
MayCome members handed Nothing = ⊤
MayCome members handed (From address bytes) =
    AreBytes bytes
    × ((message : Message) → request_of members.federation (From address bytes) ≡ Says message
    → IsOfMember members message → WereHanded handed bytes)

-- ---- cells

-- A crash at a moment since the device was as the old one may have left bytes that say these
-- records, so its cell may recover to them. What a read gives where the machine goes on, and only
-- the process ends, is among these bytes. That the old one tells its bytes is the premise, as for
-- all that is said of cells.
pub record MayRecoverTo (owner : Owner) (old now : Device) (records : List Record) : Type 0 where
  pub told : IsSome old.image
  pub bytes : List ℕ
  pub left : now.left_since old.moment bytes
  pub says : DecodesTo owner bytes (Ok records)

-- it is known what a read gives: bytes that say these records
pub record ReadGives (owner : Owner) (device : Device) (records : List Record) : Type 0 where
  pub image : Image
  pub told : device.image ≡ Some image
  pub says : DecodesTo owner image.seen (Ok records)

-- ---- what may happen

module _ {C : Type 0} (device : C → Device) (members : Membership) where
  -- this member's site
  abbrev pub owner_of : ℕ → Owner
  owner_of n = record { members = members; site = n }

  -- a member's process serves, and this is between its turns
  abbrev pub IsServing : Federation C → (member : ℕ) → Serving C → Type 0
  IsServing f n s = Has n (members_of members) × (f.members n ≡ Serves s)

  -- the device of its cell
  abbrev pub device_of : Serving C → Device
  device_of s = device s.site.book.cell

  -- it takes this turn, by the rules of a site that serves, of something that may come
  pub record Takes (f : Federation C) (old : Serving C) (step : Step C) : Type 0 where
    pub may_come : MayCome members f.handed step.turn.took
    pub comes :
        turn_of device step.addresses (Some step.folders) old step.turn.took step.turn.done
        step.next

  -- After a turn that isn't the last its site needs no opening. A process that ends within a turn,
  -- or after one in which its cell failed it, leaves what a crash may have left at a moment since
  -- the turn began; one that ends between turns leaves what a crash may leave now. A started one
  -- opens a cell that a read finds as the member was left. An opening that is refused, or broken
  -- off, is nothing here: it leaves the same records, or what a crash might have left before
  -- (`Opens`).
  abbrev pub May : Federation C → Happening C → Type 0
  May f (Turns n step handed written) =
      (old : Serving C) × IsServing f n old × Takes f old step
      × (step.next.site.book.needs_opening ≡ false)
  May f (Fails n step handed written records) =
      (old : Serving C) × IsServing f n old × Takes f old step
      × (step.next.site.book.needs_opening ≡ true)
      × MayRecoverTo (owner_of n) (device_of old) (device_of step.next) records
  May f (Dies n step records) =
      (old : Serving C) × IsServing f n old × Takes f old step
      × MayRecoverTo (owner_of n) (device_of old) (device_of step.next) records
  May f (Ends n records) =
      (old : Serving C) × IsServing f n old
      × MayRecoverTo (owner_of n) (device_of old) (device_of old) records
  May f (Renews n) = (old : Serving C) × IsServing f n old
  May f (Starts n cell site) =
      Has n (members_of members)
      × ((records : List Record) × (f.members n ≡ Down records)
      × ReadGives (owner_of n) (device cell) records)
      × Opens device (owner_of n) cell (Ok site.book)

  -- all of these happen, one after another
  unfoldable pub MayAll : Federation C → List (Happening C) → Type 0
  MayAll f [] = ⊤
  MayAll f (h ∷ history) = May f h × MayAll (after f h) history

  -- they happen to a federation of new cells
  abbrev pub IsHistory : List (Happening C) → Type 0
  IsHistory history = MayAll new_federation history
