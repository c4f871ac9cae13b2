-- Turns of processes overlap: while one hands out its datagrams others take them in, and turns of
-- their own. Each member has an account of what happens to it, in order; and there is one time for
-- all, in which a message comes after it was handed out.
use Rattle.std.specs.Prelude.{◌≡◌, ⊤, ℕ, ◌==◌, List, [], ◌∷◌, ◌++◌, take}
use Rattle.std.specs.Prelude.{Option, Some, None, IfSome, if◌then◌else◌}
use Rattle.std.specs.Option.{option_map}
use Rattle.fed_types.specs.Lists.{Has}
use Rattle.fed_types.specs.Sites.{Membership}
use Rattle.cell_device.specs.Devices.{Device}
use Rattle.proposer.specs.VolatileStates.{new_volatile}
use Rattle.udp_site.specs.Traffic.{Post, Taken}
use Rattle.udp_site.specs.Turns.{begins}
use Rattle.serving_law.specs.Federations.{Member, Serves, Down, Federation, Happening, renewed}
use Rattle.serving_law.specs.Federations.{Turns, Fails, Dies, Ends, Renews, Starts}
use Rattle.serving_law.specs.Reports.{Showing, showing_of, step_of}
use Rattle.serving_law.specs.Rules.{MayCome, May, MayAll}

-- ---- of one happening

-- at which member it happens
abbrev pub member_at : {C : Type 0} → Happening C → ℕ
member_at (Turns n step handed written) = n
member_at (Fails n step handed written records) = n
member_at (Dies n step records) = n
member_at (Ends n records) = n
member_at (Renews n) = n
member_at (Starts n cell site) = n

-- what is taken in, where it is a turn
abbrev pub taken_in : {C : Type 0} → Happening C → Option Taken
taken_in h = option_map (λ s. s.1.turn.took) (step_of h)

-- what is handed out
abbrev pub posts_shown : Option Showing → List Post
posts_shown None = []
posts_shown (Some s) = take s.handed s.turn.done.posts

abbrev pub handed_out : {C : Type 0} → Happening C → List Post
handed_out h = posts_shown (showing_of h)

-- what a member that was this is after it
abbrev pub own_after : {C : Type 0} → Member C → Happening C → Member C
own_after m (Turns n step handed written) = Serves step.next
own_after m (Fails n step handed written records) = Down records
own_after m (Dies n step records) = Down records
own_after m (Ends n records) = Down records
own_after m (Renews n) = renewed m
own_after m (Starts n cell site) = Serves (begins site new_volatile)

-- ---- a member's own account

-- those that happen at this member
unfoldable pub at_member : {C : Type 0} → ℕ → List (Happening C) → List (Happening C)
at_member n [] = []
at_member n (h ∷ history) =
    if n == member_at h then h ∷ at_member n history else at_member n history

module _ {C : Type 0} (device : C → Device) (members : Membership) where
  -- It may happen to a member that is this, whatever the others are: in every federation where what
  -- it takes in may come.
  abbrev pub MayHappenTo : Member C → Happening C → Type 0
  MayHappenTo m h =
      (f : Federation C) → f.members (member_at h) ≡ m
      → IfSome (taken_in h) (MayCome members f.handed) → May device members f h

  -- all of these may happen to it, one after another
  unfoldable pub IsAccount : Member C → List (Happening C) → Type 0
  IsAccount m [] = ⊤
  IsAccount m (h ∷ account) = MayHappenTo m h × IsAccount (own_after m h) account

-- ---- one time for all

-- a happening begins, in which something is taken in, or nothing; or a datagram is handed out
pub data Moment (C : Type 0) : Type 0 where
  Begins : Happening C → Moment C
  HandsOut : Post → Moment C

-- the happenings, in the order in which they begin
unfoldable pub begun : {C : Type 0} → List (Moment C) → List (Happening C)
begun [] = []
begun (Begins h ∷ moments) = h ∷ begun moments
begun (HandsOut post ∷ moments) = begun moments

-- What is taken in may come, after what was handed out at earlier moments; and what is handed out
-- is a datagram of a happening that began earlier, and perhaps goes on while others begin.
unfoldable pub AreInTime : {C : Type 0} → Membership → (handed : List Post)
    → (earlier : List (Happening C)) → List (Moment C) → Type 0
AreInTime members handed earlier [] = ⊤
AreInTime members handed earlier (Begins h ∷ moments) =
    IfSome (taken_in h) (MayCome members handed)
    × AreInTime members handed (h ∷ earlier) moments
AreInTime members handed earlier (HandsOut post ∷ moments) =
    ((h : Happening _) × Has h earlier × Has post (handed_out h))
    × AreInTime members (handed ++ post ∷ []) earlier moments

module _ {C : Type 0} (device : C → Device) (members : Membership) where
  -- Where each member has an account of its own, the happenings make a history, in the order in
  -- which they begin, however they overlap. It begins with new cells, those of a run or any others.
  abbrev pub OverlapsAreHistories : Type 0
  OverlapsAreHistories =
      (f : Federation C) (moments : List (Moment C))
      → ((n : ℕ) → IsAccount device members (f.members n) (at_member n (begun moments)))
      → AreInTime members f.handed [] moments
      → MayAll device members f (begun moments)
