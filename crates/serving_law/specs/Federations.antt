-- The members of a federation, each a process that serves or none; what may happen to them; and
-- what that makes of them. When it may happen stands in `Rules`.
use Rattle.std.specs.Prelude.{ℕ, ◌==◌, List, [], ◌∷◌, ◌++◌, take, Result, if◌then◌else◌}
use Rattle.bag_tree.specs.declared.fault.TreeFault.{TreeFault}
use Rattle.bag_tree.specs.Facts.{TreeFacts}
use Rattle.records.specs.declared.record.Record.{Record}
use Rattle.proposer.specs.VolatileStates.{new_volatile}
use Rattle.site.specs.Sites.{OpenSite}
use Rattle.udp_site.specs.Traffic.{Post}
use Rattle.udp_site.specs.Turns.{Serving, begins}
use Rattle.udp_site.specs.Served.{Turned}

-- ---- members

-- A process serves, and this is between two of its turns; or there is none, and these are the
-- records that the next one will find in the member's cell.
pub data Member (C : Type 0) : Type 0 where
  Serves : Serving C → Member C
  Down : List Record → Member C

-- Each member by its number: numbers that are no member's are there too, and stay down. And every
-- datagram that any of them ever handed out, with the address that it was for. None is taken away:
-- it may come once, often or never, at any time and to anyone.
pub record Federation (C : Type 0) : Type 0 where
  pub members : ℕ → Member C
  pub handed : List Post

-- all are down, with no records, and nothing was handed out
unfoldable pub new_federation : {C : Type 0} → Federation C
new_federation = record { members = λ n. Down []; handed = [] }

-- ---- what happens

-- A turn: the addresses of the sites, as the member was told them; what a read of each folder gives
-- then; what came, and what comes of it; and what is between turns then.
pub record Step (C : Type 0) : Type 0 where
  pub addresses : List ℕ
  pub folders : List ℕ → Result TreeFacts TreeFault
  pub turn : Turned
  pub next : Serving C

-- A turn, of which so many datagrams were handed out and so many bytes of its lines written: all;
-- or fewer, where memory ran out, a write failed or the process is killed then. A turn in which the
-- member's cell fails it, and which is its process's last. A turn in whose call the process is
-- killed: the step says what would have come of it, and nothing was handed out or written. A
-- process ends, or is killed, between turns, or after a part of one. It begins to serve anew. A
-- process is started: it opens this cell, as this site.
pub data Happening (C : Type 0) : Type 0 where
  Turns : (member : ℕ) → Step C → (handed written : ℕ) → Happening C
  Fails : (member : ℕ) → Step C → (handed written : ℕ) → List Record → Happening C
  Dies : (member : ℕ) → Step C → List Record → Happening C
  Ends : (member : ℕ) → List Record → Happening C
  Renews : (member : ℕ) → Happening C
  Starts : (member : ℕ) → (cell : C) → OpenSite C → Happening C

-- ---- what it makes of them

-- one member is this now, and these datagrams were handed out; the others are as they were
abbrev pub becomes :
    {C : Type 0} → Federation C → (member : ℕ) → Member C → List Post → Federation C
becomes f member now posts = record {
  members = λ n. if n == member then now else f.members n;
  handed = f.handed ++ posts;
}

-- its idle turns are counted anew, and its deposits gone through anew
abbrev pub renewed : {C : Type 0} → Member C → Member C
renewed (Serves s) = Serves (begins s.site s.volatile)
renewed (Down records) = Down records

-- a process that was killed or failed leaves the records that its cell recovers to, and has
-- forgotten all else; one that is started has heard nothing
abbrev pub after : {C : Type 0} → Federation C → Happening C → Federation C
after f (Turns n step handed written) =
    becomes f n (Serves step.next) (take handed step.turn.done.posts)
after f (Fails n step handed written records) =
    becomes f n (Down records) (take handed step.turn.done.posts)
after f (Dies n step records) = becomes f n (Down records) []
after f (Ends n records) = becomes f n (Down records) []
after f (Renews n) = becomes f n (renewed (f.members n)) []
after f (Starts n cell site) = becomes f n (Serves (begins site new_volatile)) []

-- after all of these, in order
unfoldable pub after_all : {C : Type 0} → Federation C → List (Happening C) → Federation C
after_all f [] = f
after_all f (h ∷ history) = after_all (after f h) history
