-- What a part of a turn comes to, for a site that serves by what is lent to it.
use Rattle.std.specs.Prelude.{◌≡◌, ◌+◌, ◌≤◌, ℕ, List, Option, Result}
use Rattle.std.specs.declared.alloc.AllocError.{AllocError}
use Rattle.bag_tree.specs.declared.fault.TreeFault.{TreeFault}
use Rattle.bag_tree.specs.Facts.{TreeFacts}
use Rattle.site.specs.Sites.{OpenSite}
use Rattle.udp_site.specs.declared.idle_turns.IdleProgress.{IdleProgress}
use Rattle.udp_site.specs.declared.server.Server.{Server}
use Rattle.udp_site.specs.Traffic.{Move}
use Rattle.udp_site.specs.Turns.{Serving, Coming, IsServing}
use Rattle.udp_site.specs.inner.Outcomes.{ComesTo, at}
use Rattle.udp_site.specs.inner.SlotRecords.{AreSettled}

module _ {C P F : Type 0} (failures : P → ℕ)
    (gives : F → Option (List ℕ → Result TreeFacts TreeFault)) (old new : Server C P F) where
  -- the same is lent to it, the port has failed no less often, and the folders give what they gave
  pub record Keeps : Type 0 where
    pub site : new.site.ghost_name ≡ old.site.ghost_name
    pub port : new.port.ghost_name ≡ old.port.ghost_name
    pub folders : new.folders.ghost_name ≡ old.folders.ghost_name
    pub addresses : new.addresses.now ≡ old.addresses.now
    pub later : failures old.port.now ≤ failures new.port.now
    pub kept : gives new.folders.now ≡ gives old.folders.now

  -- it keeps these, and notes no idle turn
  pub record Stays : Type 0 where
    pub keeps : Keeps
    pub progress : new.progress ≡ old.progress

-- a site that is so between turns, where its idle turns have come so far
pub record Stands {C : Type 0} (s : Serving C) (site : OpenSite C) (progress : IdleProgress)
    : Type 0 where
  pub there : s.site ≡ site
  pub serves : IsServing s
  pub idle : s.idle ≡ progress.idle
  pub tried : s.tried ≡ progress.tried
  pub settled : AreSettled site.book.records progress.settled

module _ {C P F : Type 0} (traffic : P → Option (List Move)) (coming : Serving C → Coming C)
    (old new : Server C P F) (result : Result (Unit {0}) AllocError) where
  -- so it comes of a part of a turn
  abbrev pub Comes : Type 0
  Comes =
      (s : Serving C) → s.site ≡ old.site.now → IsServing s
      → ComesTo (coming s) (traffic old.port.now) (traffic new.port.now) old.lines.now.items
      new.lines.now.items new.site.now result

  -- so it comes of a turn, which is noted if it is idle
  pub record ComesOfTurn : Type 0 where
    pub comes : (s : Serving C) → Stands s old.site.now old.progress
        → ComesTo (at new.progress.idle new.progress.tried (coming s)) (traffic old.port.now)
        (traffic new.port.now) old.lines.now.items new.lines.now.items new.site.now result
    pub count : new.progress.idle ≤ old.progress.idle + 1
    pub settled : AreSettled old.site.now.book.records old.progress.settled
        → AreSettled old.site.now.book.records new.progress.settled
