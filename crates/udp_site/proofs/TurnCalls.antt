-- A turn calls the site, or leaves it as it was.
use Rattle.std.proofs.Common.{◌⊎◌, inl, inr, refl, ◌≡◌, ℕ, List, [], ◌∷◌, Bool, true, false}
use Rattle.std.proofs.Common.{if◌then◌else◌, Option, Some, Result, Ok, Err}
use Rattle.fed_types.specs.declared.bag_id.BagId.{BagId}
use Rattle.fed_types.specs.Slots.{SlotName}
use Rattle.cell_device.specs.Devices.{Device}
use Rattle.bag_tree.specs.declared.fault.TreeFault.{TreeFault}
use Rattle.bag_tree.specs.Facts.{TreeFacts}
use Rattle.bag_check.specs.Check.{check_of}
use Rattle.site.specs.declared.answer.Answer.{Answer}
use Rattle.site.specs.declared.answer.Reply.{Reply}
use Rattle.site.specs.declared.fault.SiteFault.{SiteFault}
use Rattle.site.specs.declared.fault.SiteFault.TheVariants as faults
use Rattle.site.specs.Calls as calls
use Rattle.site.specs.Calls.{Input, reply_of}
use Rattle.site.specs.Sites.{OpenSite}
use Rattle.lines.specs.declared.notice.Notice.{Notice}
use Rattle.lines.specs.Notices.{reply_notice}
use Rattle.udp_site.specs.Requests.{Request, Waits, Says, Deposits, Queries, Recovers, Noise}
use Rattle.udp_site.specs.Served.{or_one}
use Rattle.udp_site.specs.Turns.{Serving, Done, IsCalled, Asks, notices_of, proposal_notices}
use Rattle.udp_site.specs.Turns.{recovery_notices, number, takes_tree, proposes, idles_if, comes_of}
use Rattle.udp_site.specs.Turns.{tries, one_more_idle, slot_of}
use Rattle.udp_site.specs.Rounds.{next_waiting}

proposal_says : (site : ℕ) (input : Input) (result : Result Answer SiteFault)
    → or_one (proposal_notices site input result) ≡ true
    → or_one (notices_of site input result) ≡ true
proposal_says site input (Err faults.RoundsSpent) stops = absurd (cc stops)
proposal_says site input result stops = stops

recovery_says : (site : ℕ) (input : Input) (result : Result Answer SiteFault)
    → or_one (recovery_notices site input result) ≡ true
    → or_one (notices_of site input result) ≡ true
recovery_says site input (Err faults.AlreadyKnown) stops = absurd (cc stops)
recovery_says site input (Err faults.NothingToRecover) stops = absurd (cc stops)
recovery_says site input (Err faults.RoundsSpent) stops = absurd (cc stops)
recovery_says site input result stops = stops

-- what a query says is of the cell only where the site needs opening
replied : (site : ℕ) (slot : SlotName) (needs_opening : Bool) (reply : Reply BagId)
    (notices : List Notice) → or_one notices ≡ false
    → or_one
    (reply_notice site slot (if needs_opening then Err faults.NeedsOpen else Ok reply) ∷ notices)
    ≡ true
    → needs_opening ≡ true
replied site slot true reply notices none stops = refl
replied site slot false reply notices none stops = absurd (cc (none, stops))

module _ {C : Type 0} (addresses : List ℕ) (s : Serving C) (slot : SlotName) where
  asks_say_no : (others : List ℕ) (done : Done) → Asks addresses s slot others done
      → or_one done.notices ≡ false
  asks_say_no [] done is = rw is
  asks_say_no (member ∷ others) done (rest, asks, inl is) = rw is (asks_say_no others rest asks)
  asks_say_no (member ∷ others) done (rest, asks, inr is) = rw is (asks_say_no others rest asks)

module _ {C : Type 0} (device : C → Device) (addresses : List ℕ) (new : Serving C) (done : Done)
  where
    -- the site is called, and what is said of the cell is said of that call
    pub record Called (site : OpenSite C) : Type 0 where
      pub at : Serving C
      pub there : at.site ≡ site
      pub input : Input
      pub result : Result Answer SiteFault
      pub called : IsCalled device at input result new
      pub says : or_one done.notices ≡ true
          → or_one (notices_of (number at) input result) ≡ true

    -- or it is as it was, and needs opening if that is said
    abbrev pub Came : OpenSite C → Type 0
    Came site =
        Called site
        ⊎ ((new.site ≡ site) × (or_one done.notices ≡ true → site.book.needs_opening ≡ true))

    calls_so : (at : Serving C) (input : Input) (result : Result Answer SiteFault)
        → IsCalled device at input result new
        → (or_one done.notices ≡ true → or_one (notices_of (number at) input result) ≡ true)
        → Came at.site
    calls_so at input result called says = inl (record {
      at = at;
      there = refl;
      input = input;
      result = result;
      called = called;
      says = says;
    })

    -- nothing is said of the cell
    unchanged : (old : Serving C) → new ≡ old → or_one done.notices ≡ false → Came old.site
    unchanged old same none = inr (rw same, λ stops. absurd (cc (none, stops)))

    proposed : (old : Serving C) (place : Option ℕ) (slot : Option SlotName)
        → proposes device addresses old place slot done new → Came old.site
    proposed old (Some place) (Some slot) (result, called, refuses, is) =
        calls_so (tries old place) (calls.Proposes slot) result called
        (λ stops. proposal_says (number old) (calls.Proposes slot) result (rw is at stops))
    proposed old place slot comes = unchanged old comes.1 (rw comes.0)

    idled : (turn : Bool) (s : Serving C) → idles_if turn device addresses s done new
        → Came s.site
    idled true s comes =
        proposed s (next_waiting s.site.book.records s.tried)
        (slot_of s.site.book.records (next_waiting s.site.book.records s.tried)) comes
    idled false s (is, same) = unchanged s same (rw is)

    deposited : (old : Serving C) (client : ℕ) (slot : SlotName)
        (read : Result TreeFacts TreeFault) → takes_tree device old client slot read done new
        → Came old.site
    deposited old client slot (Err fault) (is, same) = unchanged old same (rw is)
    deposited old client slot (Ok facts) (result, called, is) =
        calls_so old (calls.Deposits slot (check_of facts)) result called (λ stops. rw is at stops)

    pub came : (gives : Option (List ℕ → Result TreeFacts TreeFault)) (old : Serving C)
        (request : Request) → comes_of device addresses gives old request done new
        → Came old.site
    came gives old Waits comes = idled _ (one_more_idle old) comes
    came gives old (Says m) (result, called, is) =
        calls_so old (calls.Arrives (Some m)) result called (λ stops. rw is at stops)
    came gives old (Deposits client slot path) (read, given, comes) =
        deposited old client slot read comes
    came gives old (Queries client slot) (asks, asked_so, is, same) = inr (
      rw same,
      λ stops.
          replied (number old) slot old.site.book.needs_opening
          (reply_of slot old.site.book.records) asks.notices
          (asks_say_no addresses old slot _ asks asked_so) (rw is at stops),
    )
    came gives old (Recovers slot) (result, called, refuses, is) =
        calls_so old (calls.Recovers slot) result called
        (λ stops. recovery_says (number old) (calls.Recovers slot) result (rw is at stops))
    came gives old Noise (is, same) = unchanged old same (rw is)
