-- The reference run: a federation as a schedule makes it, and the effect of each command on it.
use Rattle.std.specs.Prelude.{ℕ, zero, suc, ◌+◌, Bool, not, List, [], ◌∷◌, ◌++◌, length}
use Rattle.std.specs.Prelude.{Option, Some, None, Result, Ok, Err, if◌then◌else◌}
use Rattle.std.specs.List.{find}
use Rattle.fed_types.specs.declared.bag_id.BagId.{BagId}
use Rattle.fed_types.specs.Lists.{is_in}
use Rattle.fed_types.specs.Quorums.{QuorumSystem, quorums_of}
use Rattle.fed_types.specs.Sites.{Membership}
use Rattle.fed_types.specs.Slots.{SlotName}
use Rattle.bag_tree.specs.declared.fault.TreeFault.{TreeFault}
use Rattle.bag_tree.specs.Facts.{facts_of_tree}
use Rattle.bag_tree.specs.Tree.{Files, no_files, fault_of_added, with_file, with_folder}
use Rattle.bag_check.specs.declared.fault.BagFault.{BagFault}
use Rattle.bag_check.specs.Check.{check_of}
use Rattle.dgram.specs.declared.message.Message.{Message}
use Rattle.dgram.specs.Decoded.{message_of}
use Rattle.dgram.specs.Encoding.{datagram_of, body_from, from_byte}
use Rattle.site.specs.Effects.{Send}
use Rattle.schedule.specs.declared.call.Call.{Call}
use Rattle.schedule.specs.declared.call.Call.TheVariants as calls
use Rattle.schedule.specs.declared.command.Command.{Command}
use Rattle.schedule.specs.declared.command.Command.TheVariants as commands
use Rattle.schedule.specs.declared.fate.Fate.{Fate}
use Rattle.schedule.specs.declared.fate.Fate.TheVariants.{Whole}
use Rattle.schedule.specs.Plans.{Plan}
use Rattle.lines.specs.declared.line.Line.{Line}
use Rattle.lines.specs.declared.line.Line.TheVariants as lines
use Rattle.lines.specs.declared.line.Reason.{Reason}
use Rattle.lines.specs.declared.line.Reason.TheVariants as reasons
use Rattle.world_law.specs.Networks.{Mode, Up, Down, NeedsOpening, Network, new_network}
use Rattle.world_law.specs.Networks.{Event, Deposit, Propose, Recover, Ask, Query, Deliver, Raw}
use Rattle.lines.specs.declared.notice.Notice.{Notice}
use Rattle.world_law.specs.Networks.{Stop, Start, datagram_at, happens}
use Rattle.lines.specs.Named.{SeenBag, line_of}
use Rattle.world_law.specs.Trees.{NumberedTree, tree_at, put_tree}

-- The members and their network; the numbers of datagrams that a `deliver` or a turn of a `pump`
-- has named; the trees, in the order of their declarations; the bags, in the order of their
-- deposits; and the lines so far.
pub record World : Type 0 where
  pub members : Membership
  pub network : Network
  pub named : List ℕ
  pub trees : List NumberedTree
  pub seen : List SeenBag
  pub lines : List Line

-- every site is up with no records, and nothing has happened
unfoldable pub new_world : Membership → World
new_world members = record {
  members = members;
  network = new_network;
  named = [];
  trees = [];
  seen = [];
  lines = [];
}

-- ---- what is printed

-- the event's own line, if there is one
abbrev pub own_lines : List SeenBag → Option Notice → List Line
own_lines seen None = []
own_lines seen (Some notice) = line_of seen notice ∷ []

-- a line for each datagram; the first has this number among all that were sent
unfoldable pub sent_lines : (federation : ℕ) → (number : ℕ) → List Send → List Line
sent_lines federation number [] = []
sent_lines federation number (d ∷ sends) =
    lines.Sent number (from_byte (body_from d.message.body)) d.to
    (datagram_of federation d.message)
    ∷ sent_lines federation (number + 1) sends

-- ---- changes of a world

abbrev pub with_line : World → Line → World
with_line w line = record w { lines = w.lines ++ line ∷ [] }

-- a command that can't apply changes nothing, and prints its line; a `deliver` has named its number
-- then
abbrev pub skips : World → (number : ℕ) → Reason → World
skips w number reason = with_line w (lines.Skip number reason)

abbrev pub with_trees : World → List NumberedTree → World
with_trees w trees = record w { trees = trees }

-- a `deliver` or a turn of a `pump` names a datagram's number
abbrev pub with_named : World → ℕ → World
with_named w k = record w { named = w.named ++ k ∷ [] }

-- a deposit's tree was checked: a valid bag was seen in it
abbrev pub with_seen : World → (tree : ℕ) → Result BagId BagFault → World
with_seen w tree (Ok bag) = record w { seen = w.seen ++ record { bag = bag; tree = tree } ∷ [] }
with_seen w tree (Err fault) = w

abbrev pub quorums : World → QuorumSystem
quorums w = quorums_of w.members

-- an event of the network: its own line, and then a line for each datagram that it sent
unfoldable pub after_event : World → Event → World
after_event w e =
    let h = happens (quorums w) w.network e in
    record w {
      network = h.network;
      lines =
          w.lines
          ++ (own_lines w.seen h.notice
          ++ sent_lines w.members.federation (length w.network.sent + 1) h.sends);
    }

-- ---- why a command can't apply

abbrev pub is_member : World → ℕ → Bool
is_member w site = is_in (quorums w).members site

abbrev pub mode_of : World → ℕ → Mode
mode_of w site = (w.network.sites site).mode

-- a site has to be a member, which is asked first
abbrev pub at_member : World → (number : ℕ) → (site : ℕ) → (next : World) → World
at_member w number site next = if is_member w site then next else skips w number reasons.Site

-- a site mustn't be down, which is asked last
abbrev pub unless_down : World → (number : ℕ) → Mode → (next : World) → World
unless_down w number (Up volatile) next = next
unless_down w number NeedsOpening next = next
unless_down w number Down next = skips w number reasons.Down

-- an event at a site, unless the site is down
abbrev pub event_at : World → (number : ℕ) → (site : ℕ) → Event → World
event_at w number site e = unless_down w number (mode_of w site) (after_event w e)

-- ---- trees

-- `tree T` declares an empty tree, once
unfoldable pub on_tree : World → (number tree : ℕ) → Option Files → World
on_tree w number tree None =
    with_trees w (w.trees ++ record { number = tree; files = no_files } ∷ [])
on_tree w number tree (Some files) = skips w number reasons.Tree

-- `folder T` adds the tree's payload folder
unfoldable pub on_folder : World → (number tree : ℕ) → Option Files → World
on_folder w number tree None = skips w number reasons.Tree
on_folder w number tree (Some files) = with_trees w (put_tree tree (with_folder files) w.trees)

-- a file is added to the tree where nothing speaks against it
unfoldable pub on_added :
    World → (number tree : ℕ) → Files → (path bytes : List ℕ) → Option TreeFault → World
on_added w number tree files path bytes None =
    with_trees w (put_tree tree (with_file files path bytes) w.trees)
on_added w number tree files path bytes (Some fault) = skips w number reasons.Path

-- `file T PATH HEX` adds a file
unfoldable pub on_file : World → (number tree : ℕ) → (path bytes : List ℕ) → Option Files → World
on_file w number tree path bytes None = skips w number reasons.Tree
on_file w number tree path bytes (Some files) =
    on_added w number tree files path bytes (fault_of_added files path bytes)

-- ---- calls and arrivals

-- what the check says of a tree
abbrev pub checked : Files → Result BagId BagFault
checked files = check_of (facts_of_tree files)

-- `deposit S T OBJ V` hands a member the tree, as it is now, for which the check says this
abbrev pub on_checked :
    World → (number site tree : ℕ) → SlotName → Fate → Result BagId BagFault → World
on_checked w number site tree slot fate found =
    unless_down w number (mode_of w site)
    (after_event (with_seen w tree found) (Deposit site slot found fate))

unfoldable pub on_deposit : World → (number site tree : ℕ) → SlotName → Fate → Option Files → World
on_deposit w number site tree slot fate None = skips w number reasons.Tree
on_deposit w number site tree slot fate (Some files) =
    on_checked w number site tree slot fate (checked files)

-- the datagram of a number that is named arrives
unfoldable pub on_datagram : World → (number k : ℕ) → Fate → Option Send → World
on_datagram w number k fate None = skips w number reasons.Datagram
on_datagram w number k fate (Some d) = event_at w number d.to (Deliver k fate)

-- `deliver K` names the number, and then the datagram of this number arrives
unfoldable pub on_deliver : World → (number k : ℕ) → Fate → World
on_deliver w number k fate =
    on_datagram (with_named w k) number k fate (datagram_at k w.network.sent)

-- what a call makes of the world, under its fate
unfoldable pub on_call : World → (number : ℕ) → Call → Fate → World
on_call w number (calls.Deposit site tree slot) fate =
    at_member w number site
    (on_deposit w number site tree slot fate (tree_at tree w.trees))
on_call w number (calls.Propose site slot) fate =
    at_member w number site (event_at w number site (Propose site slot fate))
on_call w number (calls.Recover site slot) fate =
    at_member w number site (event_at w number site (Recover site slot fate))
on_call w number (calls.Deliver k) fate = on_deliver w number k fate
on_call w number (calls.Ask site member slot) fate =
    at_member w number site (at_member w number member
    (event_at w number site (Ask site member slot fate)))

-- `raw S HEX`: bytes that no site sent reach a site, unless they are a message
unfoldable pub on_raw : World → (number site : ℕ) → Option Message → World
on_raw w number site None = event_at w number site (Raw site)
on_raw w number site (Some m) = skips w number reasons.Formed

-- ---- a pump

-- the numbers 1 to n, ascending
unfoldable pub numbers_to : ℕ → List ℕ
numbers_to zero = []
numbers_to (suc n) = numbers_to n ++ suc n ∷ []

-- the least number of a datagram that was sent and whose number nothing has named
abbrev pub next_unnamed : World → Option ℕ
next_unnamed w = find (λ k. not (is_in w.named k)) (numbers_to (length w.network.sent))

-- a turn delivers the datagram of the next number, if there is one
unfoldable pub on_turn : World → (number : ℕ) → Option ℕ → World
on_turn w number None = w
on_turn w number (Some k) = on_deliver w number k Whole

-- `pump N`: N turns, each with its own lines
unfoldable pub pumped : World → (number : ℕ) → (turns : ℕ) → World
pumped w number zero = w
pumped w number (suc turns) = pumped (on_turn w number (next_unnamed w)) number turns

-- ---- stops and starts

-- `start S` opens a site that isn't up
unfoldable pub on_start : World → (number site : ℕ) → Mode → World
on_start w number site (Up volatile) = skips w number reasons.Up
on_start w number site Down = after_event w (Start site)
on_start w number site NeedsOpening = after_event w (Start site)

-- ---- commands, and the run

-- what the command on the line of this number makes of the world
unfoldable pub after_command : World → (number : ℕ) → Command → World
after_command w number (commands.Tree tree) = on_tree w number tree (tree_at tree w.trees)
after_command w number (commands.Folder tree) = on_folder w number tree (tree_at tree w.trees)
after_command w number (commands.File tree path content) =
    on_file w number tree path content (tree_at tree w.trees)
after_command w number (commands.Call call fate) = on_call w number call fate
after_command w number (commands.Query site slot) =
    at_member w number site (event_at w number site (Query site slot))
after_command w number (commands.Raw site bytes) =
    at_member w number site (on_raw w number site (message_of w.members.federation bytes))
after_command w number (commands.Pump turns) = pumped w number turns
after_command w number (commands.Stop site) =
    at_member w number site (event_at w number site (Stop site))
after_command w number (commands.Start site) =
    at_member w number site (on_start w number site (mode_of w site))

-- what a line makes of the world: a skipped one nothing
abbrev pub after_line : World → (number : ℕ) → Option Command → World
after_line w number None = w
after_line w number (Some command) = after_command w number command

-- the world after these lines; the first has this number
unfoldable pub run_from : (number : ℕ) → World → List (Option Command) → World
run_from number w [] = w
run_from number w (line ∷ others) = run_from (number + 1) (after_line w number line) others

-- the number of the line after the one that names the federation
abbrev pub first_number : Plan → ℕ
first_number plan = plan.skipped + 2

-- the world after a schedule
unfoldable pub run_of : Plan → World
run_of plan = run_from (first_number plan) (new_world plan.members) plan.lines
