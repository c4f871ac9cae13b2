-- What is promised of every schedule: the sites' reports agree, and each bag that is reported was
-- deposited before.
use Rattle.std.specs.Prelude.{ℕ, ◌≡◌, ◌≢◌, ◌≤◌, ◌<◌, ◌+◌, true, List, ◌∷◌, ◌++◌, length, drop}
use Rattle.std.specs.Prelude.{Option, Some, None}
use Rattle.fed_types.specs.declared.bag_id.BagId.{BagId}
use Rattle.fed_types.specs.declared.vote.Vote.{Vote}
use Rattle.fed_types.specs.Lists.{Has}
use Rattle.fed_types.specs.Slots.{SlotName}
use Rattle.bag_tree.specs.Facts.{facts_of_tree}
use Rattle.bag_tree.specs.Tree.{Files}
use Rattle.bag_check.specs.Check.{identity_of}
use Rattle.bag_check.specs.Valid.{IsValid}
use Rattle.records.specs.declared.entry.Entry.TheVariants as entry
use Rattle.dgram.specs.declared.body.Body.TheVariants.{Accept, Known}
use Rattle.schedule.specs.declared.call.Call.TheVariants as calls
use Rattle.schedule.specs.declared.command.Command.{Command}
use Rattle.schedule.specs.declared.command.Command.TheVariants as commands
use Rattle.schedule.specs.declared.fate.Fate.{Fate}
use Rattle.schedule.specs.Plans.{Plan}
use Rattle.lines.specs.declared.line.Line.{Line}
use Rattle.lines.specs.declared.line.Line.TheVariants as lines
use Rattle.site.specs.declared.answer.Reply.TheVariants as replies
use Rattle.world_law.specs.Laws.{OnRecord, WasSent, Report}
use Rattle.world_law.specs.Networks.{Down}
use Rattle.world_law.specs.Trees.{tree_at}
use Rattle.world_law.specs.Worlds.{World, new_world, mode_of, is_member, after_line, run_from}
use Rattle.world_law.specs.Worlds.{first_number, run_of}

-- ---- agreement

-- what a line reports: a bag that a site has learned, or that it replies as known
abbrev pub reported : Line → Option Report
reported (lines.Known site slot bag) = Some (record { slot = slot; bag = bag.bag })
reported (lines.Replied site slot (replies.Known bag)) =
    Some (record { slot = slot; bag = bag.bag })
reported _ = None

-- no two lines report different bags for one slot
abbrev pub LinesAgree : List Line → Type 0
LinesAgree all =
    (k l : Line) (slot : SlotName) (u v : BagId) → Has k all → Has l all
    → reported k ≡ Some (record { slot = slot; bag = u })
    → reported l ≡ Some (record { slot = slot; bag = v })
    → u ≡ v

-- ---- deposits

-- A line of a schedule is a `deposit` at this site for the slot, and isn't skipped; its tree, as it
-- is then, is a valid bag of this identity.
pub record IsValidDeposit
    (w : World) (line : Option Command) (site : ℕ) (slot : SlotName) (bag : BagId)
    : Type 0 where
  pub tree : ℕ
  pub fate : Fate
  pub files : Files
  pub is : line ≡ Some (commands.Call (calls.Deposit site tree slot) fate)
  pub member : is_member w site ≡ true
  pub not_down : mode_of w site ≢ Down
  pub declared : tree_at tree w.trees ≡ Some files
  pub valid : IsValid (facts_of_tree files)
  pub identity : bag ≡ identity_of (facts_of_tree files)

-- The line, which has this number, deposits the bag for the slot: it hands the site a valid tree of
-- that bag, and after it the site has that deposit on record, by this line or an earlier one,
-- whatever the site answered, and even if it was stopped or its device failed.
pub record DepositedBy
    (w : World) (number : ℕ) (line : Option Command) (slot : SlotName) (bag : BagId)
    : Type 0 where
  pub site : ℕ
  pub hands : IsValidDeposit w line site slot bag
  pub on_record : OnRecord (after_line w number line).network site slot (entry.Deposit bag)

-- ---- the lines of a schedule

-- the world after these first lines of a schedule
abbrev pub world_after : Plan → List (Option Command) → World
world_after plan before = run_from (first_number plan) (new_world plan.members) before

-- the world after these and the next line
abbrev pub world_with : Plan → List (Option Command) → Option Command → World
world_with plan before line =
    after_line (world_after plan before) (first_number plan + length before) line

-- one of the first lines of a schedule deposits the bag for the slot
pub record DepositedBefore
    (plan : Plan) (before : List (Option Command)) (slot : SlotName) (bag : BagId)
    : Type 0 where
  pub earlier : List (Option Command)
  pub line : Option Command
  pub later : List (Option Command)
  pub split : before ≡ earlier ++ line ∷ later
  pub deposits :
      DepositedBy (world_after plan earlier) (first_number plan + length earlier) line slot bag

-- what a line of the schedule prints
abbrev pub printed : World → (number : ℕ) → Option Command → List Line
printed w number line = drop (length w.lines) (after_line w number line).lines

-- what is printed comes at the end, and what was printed stays
abbrev pub LinesStay : Type 0
LinesStay =
    (w : World) (number : ℕ) (line : Option Command)
    → (after_line w number line).lines ≡ w.lines ++ printed w number line

-- This line of the schedule, with these before it, prints the output line of this place, counted
-- from 0: before the schedule's line at most `place` lines were printed, and after it more.
pub record IsPrintedBy
    (plan : Plan) (place : ℕ) (before : List (Option Command)) (line : Option Command)
    : Type 0 where
  pub later : List (Option Command)
  pub split : plan.lines ≡ before ++ line ∷ later
  pub not_yet : length (world_after plan before).lines ≤ place
  pub by_it : place < length (world_with plan before line).lines

-- validity: what a line of the run reports was deposited by an earlier line of the schedule than
-- the one that prints it
abbrev pub ReportsWereDeposited : Plan → List Line → Type 0
ReportsWereDeposited plan trace =
    (earlier later : List Line) (l : Line) (slot : SlotName) (bag : BagId)
    → trace ≡ earlier ++ l ∷ later
    → reported l ≡ Some (record { slot = slot; bag = bag })
    → (before : List (Option Command)) × (line : Option Command)
    × IsPrintedBy plan (length earlier) before line × DepositedBefore plan before slot bag

-- origin: each bag that a site was asked to vote for, voted for, knows, or says that it knows, was
-- deposited for the slot
pub record BagsWereDeposited (plan : Plan) : Type 0 where
  pub asked : (slot : SlotName) (vote : Vote) → WasSent (run_of plan).network slot (Accept vote)
      → DepositedBefore plan plan.lines slot vote.bag
  pub voted : (n : ℕ) (slot : SlotName) (vote : Vote)
      → OnRecord (run_of plan).network n slot (entry.Vote vote)
      → DepositedBefore plan plan.lines slot vote.bag
  pub known : (n : ℕ) (slot : SlotName) (bag : BagId)
      → OnRecord (run_of plan).network n slot (entry.Known bag)
      → DepositedBefore plan plan.lines slot bag
  pub said : (n : ℕ) (slot : SlotName) (bag : BagId)
      → WasSent (run_of plan).network slot (Known n bag)
      → DepositedBefore plan plan.lines slot bag
