-- A site that stops keeps its records, and is opened with them.
use Rattle.std.specs.Prelude.{◌≡◌, false, List, [], Some, None, Ok}
use Rattle.std.proofs.Common.{append-nil, inl, inr, sym, subst}
use Rattle.cell_device.specs.declared.fuse.FuseState.TheVariants.{Clear}
use Rattle.cell_device.specs.declared.memory_cell.MemoryCell.{MemoryCell}
use Rattle.cell_device.specs.Images.{Image, all_synced, at_rest}
use Rattle.cell_device.specs.Memory.{image_of, fuse_of, device_of}
use Rattle.records.specs.declared.owner.Owner.{Owner}
use Rattle.records.specs.declared.record.Record.{Record}
use Rattle.records.specs.Journals.{DecodesTo}
use Rattle.records.proofs.Texts.{nothing_says}
use Rattle.book.specs.Faults.{IsOrDeviceOrMemory}
use Rattle.book.specs.OpenBooks.{RecoversTo}
use Rattle.proposer.specs.VolatileStates.{new_volatile}
use Rattle.book.specs.Opened.{Opens}
use Rattle.site.specs.Sites as sites
use Rattle.site.specs.Sites.{OpenSite}
use Rattle.world_law.specs.Networks.{Mode, Up, Down, NeedsOpening, goes_down}
use Rattle.sim_stations.specs.declared.run_state.RunState.TheVariants.{Running, AtRest}
use Rattle.sim_stations.specs.Stations.{Keeps, IsOpened, Represents}
use Rattle.sim_stations.proofs.Returns.{state}

found : (rs ss : List Record) → IsOrDeviceOrMemory (Ok rs) (Ok ss) → rs ≡ ss
found rs ss (inl e) = cc
found rs ss (inr (inl e)) = cc
found rs ss (inr (inr e)) = cc

-- a cell that was restarted is opened with the records that it keeps
pub opened : (owner : Owner) (cell after : MemoryCell) (site : OpenSite MemoryCell)
    → image_of after ≡ all_synced (image_of cell) → fuse_of after ≡ Clear
    → Opens device_of owner after (Ok site.book) → sites.Represents site new_volatile
    → (records : List Record) → Keeps owner cell records → IsOpened owner records site
opened owner cell after site image fuse opens stands records keeps = record {
  whose = opens.whose.0;
  up = record {
    opened = opens.whose.1;
    records = found site.book.records records (opens.only (Ok records)
        (subst (λ (i : Image). DecodesTo owner i.seen (Ok records)) (sym image) keeps));
    volatile = stands;
    clear = cc (opens.clear (rw fuse)).0;
  };
}

-- a site that stops keeps its records
pub stopped : (owner : Owner) (site : OpenSite MemoryCell) (cell : MemoryCell)
    → cell ≡ site.book.cell
    → (site.book.needs_opening ≡ false
    → RecoversTo site.book.owner site.book.records (Some (image_of cell)))
    → (records : List Record) (mode : Mode)
    → Represents owner (Running site) (state records mode)
    → Represents owner (AtRest cell) (goes_down owner.site (state records mode) None []).site
stopped owner site cell same recovers records (Up volatile) (whose, up) =
    rw (append-nil records) (rw (whose, up.records) at (recovers up.opened).0)
stopped owner site cell same recovers records NeedsOpening (whose, needs) =
    rw (append-nil records, same) (rw whose at needs.records)
stopped owner site cell same recovers records Down (whose, down) = absurd down

-- a cell without bytes keeps no records
pub empty_keeps_none : (owner : Owner) (cell : MemoryCell) → image_of cell ≡ at_rest []
    → Keeps owner cell []
empty_keeps_none owner cell empty =
    subst (λ (i : Image). DecodesTo owner i.seen (Ok [])) (sym empty) (nothing_says owner)
