-- What a station of a simulator represents, and the outcome of each of its calls, in the words of
-- `Networks`.
use Rattle.std.specs.Prelude.{◌≡◌, true, false, List, map, Option, Some, None, Result, Ok}
use Rattle.std.specs.Prelude.{Err}
use Rattle.fed_types.specs.declared.bag_id.BagId.{BagId}
use Rattle.fed_types.specs.Quorums.{quorums_of}
use Rattle.fed_types.specs.Slots.{SlotName}
use Rattle.cell_device.specs.declared.fuse.FuseState.TheVariants.{Clear}
use Rattle.cell_device.specs.declared.memory_cell.MemoryCell.{MemoryCell}
use Rattle.cell_device.specs.Memory.{image_of, fuse_of}
use Rattle.records.specs.declared.owner.Owner.{Owner}
use Rattle.records.specs.declared.record.Record.{Record}
use Rattle.records.specs.Journals.{DecodesTo}
use Rattle.proposer.specs.VolatileStates.{VolatileState, new_volatile}
use Rattle.schedule.specs.declared.fate.Fate.{Fate}
use Rattle.site.specs.declared.answer.Reply.{Reply}
use Rattle.site.specs.declared.fault.SiteFault.{SiteFault}
use Rattle.site.specs.declared.fault.SiteFault.TheVariants as faults
use Rattle.site.specs.Calls.{Input, reply_of}
use Rattle.site.specs.Datagrams.{handed_out, datagram}
use Rattle.site.specs.Sites as sites
use Rattle.site.specs.Sites.{OpenSite}
use Rattle.world_law.specs.Networks.{Mode, Up, Down, NeedsOpening, SiteState, SiteOutcome}
use Rattle.world_law.specs.Networks.{step}
use Rattle.sim_stations.specs.declared.run_state.RunState.{RunState}
use Rattle.sim_stations.specs.declared.run_state.RunState.TheVariants.{Running, AtRest}
use Rattle.sim_stations.specs.declared.told.Told.{Told}

-- ---- what it represents

-- a read of the cell says these records
abbrev pub Keeps : Owner → MemoryCell → List Record → Type 0
Keeps owner cell records = DecodesTo owner (image_of cell).seen (Ok records)

-- a site that is up: it has these records, and represents this volatile state; no fuse is set
pub record IsUp (site : OpenSite MemoryCell) (kept : List Record) (state : VolatileState)
    : Type 0 where
  pub opened : site.book.needs_opening ≡ false
  pub records : site.book.records ≡ kept
  pub volatile : sites.Represents site state
  pub clear : fuse_of site.book.cell ≡ Clear

-- the owner's site was opened, has these records, and heard nothing
pub record IsOpened (owner : Owner) (records : List Record) (site : OpenSite MemoryCell)
    : Type 0 where
  pub whose : site.book.owner ≡ owner
  pub up : IsUp site records new_volatile

-- a site whose device has failed: its cell keeps these records
pub record NeedsToOpen (site : OpenSite MemoryCell) (kept : List Record) : Type 0 where
  pub failed : site.book.needs_opening ≡ true
  pub records : Keeps site.book.owner site.book.cell kept

-- a running site is up, or needs opening
abbrev pub RunsAs : OpenSite MemoryCell → List Record → Mode → Type 0
RunsAs site records (Up volatile) = IsUp site records volatile
RunsAs site records NeedsOpening = NeedsToOpen site records
RunsAs site records Down = ⊥

-- the cell of a site that is down keeps these records
abbrev pub RestsAs : Owner → MemoryCell → List Record → Mode → Type 0
RestsAs owner cell records Down = Keeps owner cell records
RestsAs owner cell records (Up volatile) = ⊥
RestsAs owner cell records NeedsOpening = ⊥

-- the owner's site represents a state of the network
abbrev pub Represents : Owner → RunState → SiteState → Type 0
Represents owner (Running site) s = (site.book.owner ≡ owner) × RunsAs site s.records s.mode
Represents owner (AtRest cell) s = RestsAs owner cell s.records s.mode

-- ---- what comes of a call

-- the site and what is told are those of an outcome
pub record ComesTo (owner : Owner) (new : RunState) (told : Told) (o : SiteOutcome) : Type 0 where
  pub stands : Represents owner new o.site
  pub sends : map handed_out told.sends.items
      ≡ map (datagram owner.members.federation) o.sends
  pub notice : told.notice ≡ o.notice

-- what an input brings about at a site that represents a state, under a fate
abbrev pub Undergoes : Owner → Input → Fate → (old new : RunState) → Told → Type 0
Undergoes owner input fate old new told = (s : SiteState) → Represents owner old s
    → ComesTo owner new told (step (quorums_of owner.members) owner.site s s.mode input fate)

-- ---- queries

-- the reply to a query, if the site isn't down
abbrev pub reply_in : SlotName → SiteState → Mode → Option (Result (Reply BagId) SiteFault)
reply_in slot s (Up volatile) = Some (Ok (reply_of slot s.records))
reply_in slot s NeedsOpening = Some (Err faults.NeedsOpen)
reply_in slot s Down = None
