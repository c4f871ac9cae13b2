-- A process that makes the premises of the laws true: over a new disk it opens its site, and serves
-- one turn. A client asks for a deposit; its record is synced; the client is told that it is
-- registered; a line says so; and the disk holds the record.
use Rattle.std.specs.Prelude.{ℕ, List, [], ◌∷◌, Some, Result, Ok}
use Rattle.bag_tree.specs.declared.fault.TreeFault.{TreeFault}
use Rattle.bag_tree.specs.Facts.{TreeFacts}
use Rattle.fed_types.specs.declared.bag_id.BagId.{BagId}
use Rattle.fed_types.specs.Sites.{Membership}
use Rattle.fed_types.specs.Slots.{SlotName}
use Rattle.fed_types.specs.Values.{IsMembership}
use Rattle.lines.specs.declared.notice.Notice.TheVariants.{Registered}
use Rattle.site.specs.Batches.{no_cell}
use Rattle.udp_site.specs.Served.{Outside, outside, notice_text}
use Rattle.udp_site.specs.Traffic.{Took, Handed, From}
use Rattle.udp_site.specs.Turns.{turn_of}
use Rattle.site_commands.specs.declared.site_arguments.Turns.TheVariants.{Count}
use Rattle.site_commands.specs.Services.{HasServed}
use Rattle.serving_law.specs.Disks.{Disk, Blank, device}
use Rattle.serving_law.specs.Examples.{Request, recorded, reply_to}
use Rattle.serving_law.specs.Rules.{ReadGives, owner_of}
use Rattle.register_law.specs.FileCells.{TellTheirBytes}
use Rattle.process_law.specs.Processes.{MayHaveLeft}

-- nothing was received, handed out or written before
abbrev pub nothing_yet : Outside
nothing_yet = outside (Some []) (Some [])

module _ (members : Membership) (slot : SlotName) (bag : BagId)
    (request : Request members.federation slot bag) where
  -- the request came, the reply was handed out, and the line was written
  abbrev pub all_done : Outside
  all_done =
      outside
      (Some (Took (From request.address request.bytes)
      ∷ Handed (reply_to members.federation request.address slot bag) ∷ []))
      (Some (notice_text (Registered 1 slot bag)))

  -- The process has served, and its disk recovers to the record of the deposit.
  pub record TakesADeposit : Type 0 where
    pub folders : List ℕ → Result TreeFacts TreeFault
    pub told : TellTheirBytes device
    pub reads : ReadGives (owner_of device members 1) (device Blank) []
    pub process : HasServed device (turn_of no_cell [] (Some folders)) (owner_of device members 1)
        (Count 1) Blank nothing_yet all_done (Ok 0)
    pub recovers : MayHaveLeft device (turn_of no_cell [] (Some folders))
        (owner_of device members 1) process.served.end.held process.served.end.held
        (recorded slot bag ∷ [])

abbrev pub AProcessTakesADeposit : Type 0
AProcessTakesADeposit =
    (members : Membership) (slot : SlotName) (bag : BagId)
    (request : Request members.federation slot bag) → IsMembership members
    → TakesADeposit members slot bag request
