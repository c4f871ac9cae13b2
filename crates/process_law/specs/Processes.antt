-- What a process does that serves a site is an account of its member: from the contract of the call
-- that the program makes, `site_commands::open_and_serve`, to the laws of every history.
--
-- A process serves in batches: it takes in what has come, syncs its records together, and then
-- hands out and writes what its turns say. An account has these turns one by one, over a disk of
-- which all is known (`Disks` of serving_law): there each record is on the disk as soon as it is
-- made. So nothing is said of an account before the process has synced it; and that a turn hands
-- out its datagrams while others have begun, `Overlaps` of register_law takes in.
use Rattle.std.specs.Prelude.{◌≡◌, ⊤, ℕ, true, List, [], ◌∷◌, ◌++◌, length, take, Option, Some}
use Rattle.std.specs.Prelude.{None, Result, Ok, Err, IfSome}
use Rattle.std.specs.List.{flat_map}
use Rattle.std.specs.Io.KnownBytes.{Appends}
use Rattle.bag_tree.specs.declared.fault.TreeFault.{TreeFault}
use Rattle.bag_tree.specs.Facts.{TreeFacts}
use Rattle.fed_types.specs.Lists.{Has, is_in}
use Rattle.fed_types.specs.Sites.{Membership, members_of}
use Rattle.fed_types.specs.Values.{IsMembership}
use Rattle.cell_device.specs.Devices.{Device}
use Rattle.records.specs.declared.owner.Owner.{Owner}
use Rattle.records.specs.declared.record.Record.{Record}
use Rattle.outcomes.specs.declared.fault.ProgramFault.{ProgramFault}
use Rattle.book.specs.declared.fault.CommitFault.{CommitFault}
use Rattle.book.specs.declared.waiting.Waiting.{Waiting}
use Rattle.book.specs.Batches.{BatchCell}
use Rattle.book.specs.Opened.{Opens}
use Rattle.proposer.specs.VolatileStates.{new_volatile}
use Rattle.site.specs.Batches.{no_cell}
use Rattle.site.specs.Sites.{OpenSite}
use Rattle.udp_site.specs.Traffic.{Post, Taken, Move, Took, Failed, Handed, Grows, all_handed}
use Rattle.udp_site.specs.Turns.{turn_of}
use Rattle.udp_site.specs.Served.{Rule, Outside, Turned, text_of}
use Rattle.udp_site.specs.BatchTurns.{Batch, Batching, Batches, Lead, begins_with, moves_in}
use Rattle.udp_site.specs.BatchTurns.{moves_of}
use Rattle.udp_site.specs.BatchTurns.{took_by, posts_of, text_of_all, refusal_of, refusals}
use Rattle.udp_site.specs.BatchTurns.{refusal_text, turns_of as turns_of_batches}
use Rattle.site_commands.specs.declared.site_arguments.Turns.{Turns}
use Rattle.site_commands.specs.Services.{HasServed, IsParted, goes_on_from}
use Rattle.serving_law.specs.Disks as disks
use Rattle.serving_law.specs.Disks.{Disk}
use Rattle.serving_law.specs.Federations.{Member, Down, Step, Happening, Starts}
use Rattle.serving_law.specs.Reports.{Showing, showing_of, step_of}
use Rattle.serving_law.specs.Rules.{MayRecoverTo, ReadGives, owner_of}
use Rattle.register_law.specs.FileCells.{TellTheirBytes}
use Rattle.register_law.specs.Overlaps.{own_after, member_at, handed_out, IsAccount}

-- ---- how far a process has come

-- What a process did after its last batch of which all was told. Quiet: it made these moves, handed
-- nothing out, and made no call on its cell. Unsynced: it made a batch whose sync wasn't done, and
-- told nothing of it, but these datagrams and this text, which say that. Synced: it made a batch,
-- handed out the first so many of its datagrams, and wrote the first so many bytes of its lines.
pub data Last : Type 0 where
  Quiet : List Move → Last
  Unsynced : Batch → (refused : List Post) → (said : List ℕ) → Last
  Synced : Batch → (handed written : ℕ) → Last

-- what moved at the port in it
abbrev pub last_moves : Last → List Move
last_moves (Quiet moves) = moves
last_moves (Unsynced batch refused said) = moves_in batch ++ all_handed refused
last_moves (Synced batch handed written) =
    moves_in batch ++ take handed (all_handed (posts_of batch.turns))

-- what was written in it
abbrev pub last_text : Last → List ℕ
last_text (Quiet moves) = []
last_text (Unsynced batch refused said) = said
last_text (Synced batch handed written) = take written (text_of_all batch.turns)

-- what is handed out by these moves, in order
abbrev pub handed_by : List Move → List Post
handed_by [] = []
handed_by (Took taken ∷ moves) = handed_by moves
handed_by (Failed ∷ moves) = handed_by moves
handed_by (Handed post ∷ moves) = post ∷ handed_by moves

-- Where a sync fails, what is told of that: a reply to the client of each deposit of the batch, and
-- a line; or a part of these. Where it is only broken off nothing is told.
abbrev pub IsRefusal : OpenSite Waiting → List Taken → Result (Unit {0}) CommitFault → List Post
    → List ℕ → Type 0
IsRefusal site took (Ok done) refused said = (refused ≡ []) × (said ≡ [])
IsRefusal site took (Err fault) refused said =
    (handed written : ℕ)
    × (refused ≡ take handed (refusals site (refusal_of fault) took))
    × (said ≡ take written (refusal_text site (refusal_of fault)))

module _ {C : Type 0} (device : C → Device) (rule : Rule Waiting) (owner : Owner) where
  -- a crash at a moment since the cell was the one, and until it is the other, may have left these
  -- records
  abbrev pub MayHaveLeft : (old now : BatchCell C) → List Record → Type 0
  MayHaveLeft old now left = MayRecoverTo owner (device old.cell) (device now.cell) left

  -- After its last whole batch, this, the process did so; and if it ends now, its cell may recover
  -- to these records: to those of a moment within the sync, if that isn't done.
  abbrev pub IsLast : (mid : Batching C) → (left : List Record) → Last → Type 0
  IsLast mid left (Quiet moves) = (handed_by moves ≡ []) × MayHaveLeft mid.held mid.held left
  IsLast mid left (Unsynced batch refused said) =
      (next : Batching C) × (answer : Result (Unit {0}) CommitFault)
      × Batches device rule mid batch answer next
      × IsRefusal next.serving.site (took_by batch.turns) answer refused said
      × MayHaveLeft mid.held next.held left
  IsLast mid left (Synced batch handed written) =
      (next : Batching C) × Batches device rule mid batch (Ok tt) next
      × MayHaveLeft next.held next.held left

module _ {C : Type 0} (device : C → Device) (rule : Rule Waiting) where
  -- It has made all batches of these calls, one call after another, each with nothing taken in for
  -- the next.
  abbrev pub WentOn : (start end : Batching C) → List (List Batch) → Type 0
  WentOn start end [] = end ≡ start
  WentOn start end (batches ∷ calls) =
      (mid : Batching C) × Lead device rule start batches mid
      × WentOn (goes_on_from mid) end calls

-- all batches of these calls
abbrev pub all_batches : List (List Batch) → List Batch
all_batches calls = flat_map (λ batches. batches) calls

-- A process has come so far, whether it ends now, is killed now, or goes on: it opened this cell,
-- made these whole batches, in these calls and then in one more, and did this last. Its port has
-- moved so since, and so much was written. If it ends now, its cell may recover to these records.
pub record HasCome {C : Type 0} (device : C → Device) (rule : Rule Waiting) (owner : Owner)
    (cell : C) (before now : Outside) (left : List Record) : Type 0 where
  pub member : is_in (members_of owner.members) owner.site ≡ true
  pub membership : IsMembership owner.members
  pub opened : OpenSite C
  pub opens : Opens device owner cell (Ok opened.book)
  pub site : OpenSite Waiting
  pub held : BatchCell C
  pub parted : IsParted opened site held
  pub calls : List (List Batch)
  pub here : Batching C
  pub went_on : WentOn device rule (begins_with site held new_volatile) here calls
  pub batches : List Batch
  pub mid : Batching C
  pub lead : Lead device rule here batches mid
  pub last : Last
  pub is_last : IsLast device rule owner mid left last
  pub traffic : Grows before.traffic now.traffic
      (flat_map moves_of (all_batches calls ++ batches) ++ last_moves last)
  pub written : Appends before.written now.written
      (flat_map (λ batch. text_of_all batch.turns) (all_batches calls ++ batches) ++ last_text last)

-- its whole batches
abbrev pub whole_batches : {C : Type 0} {device : C → Device} {rule : Rule Waiting} {owner : Owner}
    {cell : C} {before now : Outside} {left : List Record}
    → HasCome device rule owner cell before now left → List Batch
whole_batches come = all_batches come.calls ++ come.batches

-- all moves at its port since it began, and all that it has written
abbrev pub moves_since : {C : Type 0} {device : C → Device} {rule : Rule Waiting} {owner : Owner}
    {cell : C} {before now : Outside} {left : List Record}
    → HasCome device rule owner cell before now left → List Move
moves_since come = flat_map moves_of (whole_batches come) ++ last_moves come.last

abbrev pub text_since : {C : Type 0} {device : C → Device} {rule : Rule Waiting} {owner : Owner}
    {cell : C} {before now : Outside} {left : List Record}
    → HasCome device rule owner cell before now left → List ℕ
text_since come =
    flat_map (λ batch. text_of_all batch.turns) (whole_batches come) ++ last_text come.last

-- ---- its account

-- the turns of an account, in order
abbrev pub turn_shown : {C : Type 0} → Option (ℕ × Step C) → List Turned
turn_shown None = []
turn_shown (Some (n, step)) = step.turn ∷ []

unfoldable pub turns_in : {C : Type 0} → List (Happening C) → List Turned
turns_in account = flat_map (λ h. turn_shown (step_of h)) account

-- what it hands out, in order
unfoldable pub posts_in : {C : Type 0} → List (Happening C) → List Post
posts_in account = flat_map handed_out account

-- and what it writes
abbrev pub text_shown : Option Showing → List ℕ
text_shown None = []
text_shown (Some s) = take s.written (text_of s.turn)

unfoldable pub text_in : {C : Type 0} → List (Happening C) → List ℕ
text_in account = flat_map (λ h. text_shown (showing_of h)) account

-- what an account shows of what a process did last: nothing; or of a batch that wasn't synced the
-- first turns, those that made the records that are left; or all turns of one that was
abbrev pub AreOfLast : Last → List Turned → Type 0
AreOfLast (Quiet moves) turns = turns ≡ []
AreOfLast (Unsynced batch refused said) turns =
    (later : List Turned) × (turns ++ later ≡ batch.turns)
AreOfLast (Synced batch handed written) turns = turns ≡ batch.turns

-- and what these hand out and write
abbrev pub posts_last : Last → List Post
posts_last (Quiet moves) = []
posts_last (Unsynced batch refused said) = []
posts_last (Synced batch handed written) = take handed (posts_of batch.turns)

abbrev pub text_last : Last → List ℕ
text_last (Quiet moves) = []
text_last (Unsynced batch refused said) = []
text_last (Synced batch handed written) = take written (text_of_all batch.turns)

-- what no account has: where a sync failed, what is told of that
abbrev pub posts_refused : Last → List Post
posts_refused (Quiet moves) = []
posts_refused (Unsynced batch refused said) = refused
posts_refused (Synced batch handed written) = []

abbrev pub text_refused : Last → List ℕ
text_refused (Quiet moves) = []
text_refused (Unsynced batch refused said) = said
text_refused (Synced batch handed written) = []

-- Whatever a process has handed out by these moves, and whatever it has written, this text, its
-- account hands out and writes, in this order; but for what is told of a sync that failed.
pub record TellsAll {C : Type 0} (moves : List Move) (text : List ℕ) (last : Last)
    (account : List (Happening C)) : Type 0 where
  pub handed : handed_by moves ≡ posts_in account ++ posts_refused last
  pub written : text ≡ text_in account ++ text_refused last

-- what the member is after an account
unfoldable pub after_account : {C : Type 0} → Member C → List (Happening C) → Member C
after_account m [] = m
after_account m (h ∷ account) = after_account (own_after m h) account

module _ (members : Membership) (n : ℕ) (addresses : List ℕ)
    (gives : Option (List ℕ → Result TreeFacts TreeFault)) where
  -- its addresses are these, and its folders give what it is known that they give
  abbrev pub IsWith : Option (ℕ × Step Disk) → Type 0
  IsWith None = ⊤
  IsWith (Some (m, step)) =
      (step.addresses ≡ addresses) × IfSome gives (λ answer. step.folders ≡ answer)

  abbrev pub IsOf : Happening Disk → Type 0
  IsOf h = (member_at h ≡ n) × IsWith (step_of h)

  -- An account of the member, from the one to the other. It begins with the start of its site; its
  -- turns are those of these whole batches, and of what was done last; and they hand out, in this
  -- order, and write what was told of these batches, and of that.
  pub record IsAccountOf (records left : List Record) (whole : List Batch) (last : Last)
      (account : List (Happening Disk)) : Type 0 where
    pub disk : Disk
    pub site : OpenSite Disk
    pub later : List (Happening Disk)
    pub begins : account ≡ Starts n disk site ∷ later
    pub is : IsAccount disks.device members (Down records) account
    pub leaves : after_account (Down records) account ≡ Down left
    pub are_of : (h : Happening Disk) → Has h account → IsOf h
    pub shown : List Turned
    pub are_last : AreOfLast last shown
    pub turns : turns_in account ≡ turns_of_batches whole ++ shown
    pub posts : posts_in account ≡ posts_of (turns_of_batches whole) ++ posts_last last
    pub text : text_in account ≡ text_of_all (turns_of_batches whole) ++ text_last last

-- ---- the laws

-- Accounts go on, as those of one process after another: where the one ends the next begins.
abbrev pub AccountsGoOn : Membership → Type 0
AccountsGoOn members =
    (m : Member Disk) (first next : List (Happening Disk))
    → IsAccount disks.device members m first
    → IsAccount disks.device members (after_account m first) next
    → IsAccount disks.device members m (first ++ next)

module _ {C : Type 0} (device : C → Device) (members : Membership) where
  -- A process that has served, and returned, has come so far: it made the batches that it tells of;
  -- and what it wrote since is why it stopped.
  abbrev pub ProcessesComeSoFar : Type 0
  ProcessesComeSoFar =
      (n : ℕ) (addresses : List ℕ) (gives : Option (List ℕ → Result TreeFacts TreeFault))
      (how : Turns) (cell : C) (before after : Outside) (answer : Result ℕ ProgramFault)
      (left : List Record)
      → TellTheirBytes device
      → (process : HasServed device (turn_of no_cell addresses gives) (owner_of device members n)
      how cell before after answer)
      → MayHaveLeft device (turn_of no_cell addresses gives) (owner_of device members n)
      process.served.end.held process.served.end.held left
      → (come : HasCome device (turn_of no_cell addresses gives) (owner_of device members n) cell
      before process.served.ended left)
      × (come.opened ≡ process.opened) × (come.calls ≡ process.served.calls)

  -- Let a cell say these records, as its member was left; and a process come so far over it, and
  -- end then or be killed. That is an account of the member, of this process, and tells all that
  -- the process does.
  abbrev pub ProcessesHaveAccounts : Type 0
  ProcessesHaveAccounts =
      (n : ℕ) (addresses : List ℕ) (gives : Option (List ℕ → Result TreeFacts TreeFault))
      (cell : C) (before now : Outside) (records left : List Record)
      → TellTheirBytes device
      → ReadGives (owner_of device members n) (device cell) records
      → (come : HasCome device (turn_of no_cell addresses gives) (owner_of device members n) cell
      before now left)
      → (account : List (Happening Disk))
      × IsAccountOf members n addresses gives records left (whole_batches come) come.last account
      × TellsAll (moves_since come) (text_since come) come.last account
