-- A history of three sites in which one is stopped twice, and started again. Site 1 tells a client
-- that its deposit is registered. It is killed in the call in which it proposes it, so nothing of
-- that is on its disk. A new process opens the disk, and prints later that the bag is known. It
-- ends, and one more process opens what it has left.
use Rattle.std.specs.Prelude.{List, [], ◌∷◌, ◌++◌}
use Rattle.fed_types.specs.declared.bag_id.BagId.{BagId}
use Rattle.fed_types.specs.Lists.{Has}
use Rattle.records.specs.declared.record.Record.{Record}
use Rattle.dgram.specs.declared.body.Body.TheVariants.{Prepare}
use Rattle.dgram.specs.Encoding.{datagram_of}
use Rattle.site.specs.Sites.{OpenSite}
use Rattle.serving_law.specs.Disks.{Disk, device}
use Rattle.serving_law.specs.Examples.{Request, recorded}
use Rattle.serving_law.specs.ExamplesAgreed.{three, a, ballot}
use Rattle.serving_law.specs.Federations.{Step, Happening, Turns, Dies, Ends, Starts}
use Rattle.serving_law.specs.Reports.{Reports, Registers, SaysKnown}
use Rattle.serving_law.specs.Rules.{IsHistory}

-- What happens to site 1, and between that to others: it takes a deposit, and hands out its reply;
-- it dies, with its deposit alone on record, though it would have asked site 2 to promise; it is
-- started; it prints a line; it ends; it is started.
pub record Restarts (bag : BagId) : Type 0 where
  pub before : List (Happening Disk)
  pub asked : Step Disk
  pub proposing : Step Disk
  pub cell : Disk
  pub site : OpenSite Disk
  pub meanwhile : List (Happening Disk)
  pub learning : Step Disk
  pub left : List Record
  pub last_cell : Disk
  pub last_site : OpenSite Disk
  pub happens : IsHistory device three
      (before ++ Turns 1 asked 1 0 ∷ Dies 1 proposing (recorded a bag ∷ []) ∷ Starts 1 cell site
      ∷ meanwhile ++ Turns 1 learning 0 1 ∷ Ends 1 left ∷ Starts 1 last_cell last_site ∷ [])
  pub registers : Registers three.federation (Turns 1 asked 1 0) 1 a bag
  pub would_ask :
      Has (2, datagram_of three.federation (record { slot = a; body = Prepare ballot }))
      proposing.turn.done.posts
  pub reports : Reports three.federation (Turns 1 learning 0 1) a bag
  pub says_known : SaysKnown three.federation (Turns 1 learning 0 1) 1 a bag

abbrev pub RestartedSitesReport : Type 0
RestartedSitesReport = (bag : BagId) → Request three.federation a bag → Restarts bag
