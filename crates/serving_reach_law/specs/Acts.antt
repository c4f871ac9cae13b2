-- What members do in which nothing fails: they are started, and take in what was handed out for
-- them, and what clients ask.
use Rattle.std.specs.Prelude.{◌≡◌, ℕ, ◌-◌, false, List, length, drop, Some, slice_get}
use Rattle.fed_types.specs.Lists.{Has}
use Rattle.fed_types.specs.Sites.{Membership}
use Rattle.fed_types.specs.Slots.{SlotName}
use Rattle.records.specs.declared.record.Record.{Record}
use Rattle.site.specs.declared.fault.SiteFault.TheVariants as faults
use Rattle.lines.specs.declared.notice.Notice.TheVariants.{Refused}
use Rattle.udp_site.specs.Traffic.{Post, Taken, Nothing, From}
use Rattle.udp_site.specs.Requests.{Request, Waits, Says, Deposits, Queries, Recovers, Noise}
use Rattle.udp_site.specs.Requests.{request_of}
use Rattle.udp_site.specs.Served.{Turned, text_of, is_the_last}
use Rattle.udp_site.specs.Turns.{Serving}
use Rattle.serving_law.specs.Federations.{Serves, Down, Federation, Happening, Turns, Starts}
use Rattle.serving_law.specs.Rules.{MayCome}

-- A member is started; or it takes this in.
pub data Act : Type 0 where
  Start : (member : ℕ) → Act
  Take : (member : ℕ) → Taken → Act

-- ---- when it may be done

-- the addresses of the sites: that of site 1 is first
module _ (members : Membership) (addresses : List ℕ) where
  -- these bytes are among these datagrams, for the address of member n
  abbrev pub IsFor : List Post → (n : ℕ) → (bytes : List ℕ) → Type 0
  IsFor posts n bytes =
      (address : ℕ) × (slice_get addresses (n - 1) ≡ Some address) × Has (address, bytes) posts

  -- a site says something, which is among these datagrams, for member n; or a client asks for the
  -- slot's bag, or has the slot recovered
  abbrev pub IsOf : List Post → (n : ℕ) → SlotName → (bytes : List ℕ) → Request → Type 0
  IsOf posts n slot bytes (Says message) = IsFor posts n bytes
  IsOf posts n slot bytes (Queries address asked) = asked ≡ slot
  IsOf posts n slot bytes (Recovers asked) = asked ≡ slot
  IsOf posts n slot bytes (Deposits address asked path) = ⊥
  IsOf posts n slot bytes Waits = ⊥
  IsOf posts n slot bytes Noise = ⊥

  abbrev pub Comes : List Post → (n : ℕ) → SlotName → Taken → Type 0
  Comes posts n slot Nothing = ⊥
  Comes posts n slot (From address bytes) =
      IsOf posts n slot bytes (request_of members.federation (From address bytes))

  -- One of those that run is down; or it serves, and this may come to it: what a client asks of the
  -- slot, or a datagram that wasn't among the first so many, and was for it.
  abbrev pub MayDo :
      {C : Type 0} → (running : List ℕ) → SlotName → (before : ℕ) → Federation C → Act → Type 0
  MayDo running slot before f (Start n) =
      Has n running × ((records : List Record) × (f.members n ≡ Down records))
  MayDo {C} running slot before f (Take n took) =
      Has n running × ((old : Serving C) × (f.members n ≡ Serves old))
      × MayCome members f.handed took × Comes (drop before f.handed) n slot took

-- ---- when it is done

-- no line of the turn says that its cell failed the site, or that memory ran out
pub record GoesWell (turn : Turned) : Type 0 where
  pub not_the_last : is_the_last turn ≡ false
  pub has_memory : (n : ℕ) → Has (Refused n faults.Memory) turn.done.notices → ⊥

-- a happening does it: the member's start; or a turn of it that goes well, of which all is handed
-- out and written
abbrev pub Does : {C : Type 0} → (addresses : List ℕ) → Act → Happening C → Type 0
Does addresses (Start n) (Starts member cell site) = member ≡ n
Does addresses (Take n took) (Turns member step handed written) =
    (member ≡ n) × (step.turn.took ≡ took) × (step.addresses ≡ addresses) × GoesWell step.turn
    × (handed ≡ length step.turn.done.posts) × (written ≡ length (text_of step.turn))
Does addresses act h = ⊥
