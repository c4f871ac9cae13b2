-- A site whose records wait, as one that has a disk of which all is known, and on it each record as
-- soon as it is made. So a turn within a batch is a turn of the laws, which commits its record.
use Rattle.std.specs.Prelude.{ℕ, List, [], ◌∷◌, length, Some, Result}
use Rattle.bag_tree.specs.declared.fault.TreeFault.{TreeFault}
use Rattle.bag_tree.specs.Facts.{TreeFacts}
use Rattle.book.specs.declared.waiting.Waiting.{Waiting}
use Rattle.site.specs.Batches.{no_cell}
use Rattle.udp_site.specs.Turns.{Serving, turn_of}
use Rattle.udp_site.specs.Served.{Turned, text_of}
use Rattle.udp_site.specs.BatchTurns.{Follow}
use Rattle.serving_law.specs.Disks.{Disk, Holds}
use Rattle.serving_law.specs.Federations.{Step, Happening, Turns}

abbrev pub on_disk : Serving Waiting → Serving Disk
on_disk s = record {
  site = record {
    book = record {
      cell = Holds s.site.book.owner s.site.book.records;
      records = s.site.book.records;
      needs_opening = s.site.book.needs_opening;
      owner = s.site.book.owner;
    };
    tables = s.site.tables;
  };
  volatile = s.volatile;
  idle = s.idle;
  tried = s.tried;
}

-- a whole turn of this member: all was handed out and written
abbrev pub whole : (member : ℕ) → Step Disk → Happening Disk
whole member step =
    Turns member step (length step.turn.done.posts) (length (text_of step.turn))

-- a turn of which nothing was handed out or written
abbrev pub unseen : (member : ℕ) → Step Disk → Happening Disk
unseen member step = Turns member step 0 0

module _ (addresses : List ℕ) (folders : List ℕ → Result TreeFacts TreeFault) where
  -- the turns of a batch that led from the one to the other, each a step
  abbrev pub steps_of : (start end : Serving Waiting) → (turns : List Turned)
      → Follow (turn_of no_cell addresses (Some folders)) start turns end → List (Step Disk)
  steps_of start end [] follow = []
  steps_of start end (turn ∷ turns) (next, comes, follow) =
      record {
        addresses = addresses;
        folders = folders;
        turn = turn;
        next = on_disk next;
      } ∷ steps_of next end turns follow
