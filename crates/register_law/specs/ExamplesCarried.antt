-- A history that goes on from the cells of a run in which a register was decided: for a bag that
-- was deposited in the run, and of which site 1 said there that it is known. In the history the bag
-- is reported. And records of these cells show that it is chosen.
use Rattle.std.specs.Prelude.{List}
use Rattle.fed_types.specs.declared.bag_id.BagId.{BagId}
use Rattle.fed_types.specs.Lists.{Has}
use Rattle.fed_types.specs.Quorums.{quorums_of}
use Rattle.lines.specs.declared.notice.Notice.TheVariants.{Learned}
use Rattle.world_law.specs.Networks.{Event}
use Rattle.audit.specs.Evidence.{SiteRecord}
use Rattle.audit.specs.Laws.{ShowChosen}
use Rattle.serving_law.specs.Disks.{Disk, device}
use Rattle.serving_law.specs.Examples.{Request}
use Rattle.serving_law.specs.ExamplesAgreed.{three, a}
use Rattle.serving_law.specs.Federations.{Happening}
use Rattle.serving_law.specs.Reports.{Reports, KnownOnRecord}
use Rattle.register_law.specs.Carried.{IsHistoryAfter, left_by, said_in, WasDepositedIn}
use Rattle.register_law.specs.Laws.{AreOfCells}
use Rattle.register_law.specs.Registers.{Decided, Keeps}

pub record GoesOn (bag : BagId) : Type 0 where
  -- the run, what was said in it, and what it has left
  pub events : List Event
  pub said : Has (Learned 1 a bag) (said_in three events)
  pub deposited : WasDepositedIn (quorums_of three) events a bag
  pub known : KnownOnRecord {C = Disk} (left_by three events) 1 a bag
  pub decided : Keeps {C = Disk} three (left_by three events) a (Decided bag)
  -- the history that goes on from there, and a report in it
  pub history : List (Happening Disk)
  pub happens : IsHistoryAfter device three events history
  pub h : Happening Disk
  pub among : Has h history
  pub reports : Reports three.federation h a bag
  -- what is read of the cells
  pub given : List SiteRecord
  pub are : AreOfCells three events history given
  pub shown : ShowChosen (quorums_of three) given a bag

abbrev pub CarriedSitesReport : Type 0
CarriedSitesReport = (bag : BagId) → Request three.federation a bag → GoesOn bag
