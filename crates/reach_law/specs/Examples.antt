-- Three sites, and a ballot that is undisturbed: of three that run, or of two.
use Rattle.std.specs.Prelude.{ℕ, zero, suc, List, [], ◌∷◌, ◌++◌, map, replicate, Ok}
use Rattle.fed_types.specs.declared.bag_id.BagId.{BagId}
use Rattle.fed_types.specs.Quorums.{QuorumSystem, quorums_of}
use Rattle.fed_types.specs.Slots.{SlotName}
use Rattle.schedule.specs.declared.fate.Fate.{Fate}
use Rattle.schedule.specs.declared.fate.Fate.TheVariants.{Whole, StopsAfter}
use Rattle.world_law.specs.Networks.{Event, Deposit, Propose, Recover, Ask, Query, Deliver, Raw}
use Rattle.world_law.specs.Networks.{Stop, Start, Network, new_network, run}
use Rattle.reach_law.specs.Undisturbed.{CanOutbid, AllArrive}

-- three members of weight 1
abbrev pub three : QuorumSystem
three = quorums_of (record { federation = 7; weights = 1 ∷ 1 ∷ 1 ∷ [] })

-- the object `a`, version 1
abbrev pub a : SlotName
a = record { object = 97 ∷ []; version = 1 }

abbrev pub some_bag : BagId
some_bag = record { 0 = replicate 64 1 }

-- the first of three has deposited it
abbrev pub deposited : Network
deposited = run three new_network (Deposit 1 a (Ok some_bag) Whole ∷ [])

-- the first `count` datagrams that were sent after number `before` arrive, in the order of their
-- numbers
abbrev pub arrivals : (before count : ℕ) → List Event
arrivals before zero = []
arrivals before (suc count) = Deliver (suc before) Whole ∷ arrivals (suc before) count

-- its next ballot is above all that was promised, and the 18 datagrams of it may all arrive
pub record CanBeUndisturbed : Type 0 where
  pub can : CanOutbid deposited (1 ∷ 2 ∷ 3 ∷ []) a 1
  pub all : AllArrive three deposited (1 ∷ 2 ∷ 3 ∷ []) a 1 (arrivals 0 18)

-- the datagrams of these numbers arrive, one after another
abbrev pub arrive : (numbers : List ℕ) → List Event
arrive numbers = map (λ number. Deliver number Whole) numbers

-- The same where the third is down: of 14 datagrams the four to it (3, 8, 11, 14) are lost.
pub record CanBeUndisturbedByTwo : Type 0 where
  pub can : CanOutbid deposited (1 ∷ 2 ∷ []) a 1
  pub all : AllArrive three deposited (1 ∷ 2 ∷ []) a 1
      (arrive (1 ∷ 2 ∷ 4 ∷ 5 ∷ 6 ∷ 7 ∷ 9 ∷ 10 ∷ 12 ∷ 13 ∷ []))

-- ---- and other events meanwhile

-- version 2 of the same object
abbrev pub next_version : SlotName
next_version = record { object = 97 ∷ []; version = 2 }

-- The members that run are called for that version, and one of its datagrams arrives. They reply to
-- queries, of this version too. Bytes arrive that are no message.
abbrev pub at_two : List Event
at_two =
    Deposit 2 next_version (Ok some_bag) Whole ∷ Propose 2 next_version Whole
    ∷ Recover 2 next_version Whole ∷ Ask 2 1 next_version Whole ∷ Deliver 4 Whole
    ∷ Query 2 next_version ∷ Query 1 a ∷ Raw 1 ∷ []

-- a site that is called stops before it sends anything
abbrev pub stops : Fate
stops = StopsAfter 0

-- The third stops, and is opened. It is called for that version too, and one of its datagrams
-- arrives. It stops in the first of these calls, and nothing comes of the others.
abbrev pub at_third : List Event
at_third =
    Stop 3 ∷ Start 3 ∷ Deposit 3 next_version (Ok some_bag) stops ∷ Propose 3 next_version stops
    ∷ Recover 3 next_version stops ∷ Ask 3 1 next_version stops ∷ Deliver 6 stops ∷ []

-- The same ballot of two is undisturbed where all this happens before the first of its datagrams
-- arrives.
abbrev pub IsUndisturbedByOthers : Type 0
IsUndisturbedByOthers =
    AllArrive three deposited (1 ∷ 2 ∷ []) a 1
    (at_two ++ at_third ++ arrive (1 ∷ 2 ∷ 12 ∷ 13 ∷ 14 ∷ 15 ∷ 17 ∷ 18 ∷ 20 ∷ 21 ∷ []))
