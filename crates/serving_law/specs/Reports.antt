-- What the members of a federation print and reply, and what was deposited.
use Rattle.std.specs.Prelude.{◌≡◌, ◌⊎◌, ◌<◌, ℕ, List, ◌∷◌, ◌++◌, length, take}
use Rattle.std.specs.Prelude.{Option, Some, None, Ok}
use Rattle.std.specs.List.{flat_map}
use Rattle.fed_types.specs.declared.bag_id.BagId.{BagId}
use Rattle.fed_types.specs.Lists.{Has}
use Rattle.fed_types.specs.Slots.{SlotName}
use Rattle.bag_tree.specs.Facts.{TreeFacts}
use Rattle.bag_check.specs.Check.{identity_of}
use Rattle.bag_check.specs.Valid.{IsValid}
use Rattle.records.specs.declared.entry.Entry.TheVariants as entry
use Rattle.records.specs.declared.record.Record.{Record}
use Rattle.records.specs.Bounds.{HasEntry}
use Rattle.dgram.specs.declared.answers.DepositAnswer.TheVariants as deposit
use Rattle.dgram.specs.declared.answers.QueryAnswer.TheVariants as query
use Rattle.dgram.specs.declared.body.Body.{Body}
use Rattle.dgram.specs.declared.body.Body.TheVariants.{DepositReply, QueryReply}
use Rattle.dgram.specs.declared.message.Message.{Message}
use Rattle.dgram.specs.Decoded.{message_of}
use Rattle.site.specs.declared.answer.Reply.TheVariants as replies
use Rattle.lines.specs.declared.notice.Notice.{Notice}
use Rattle.lines.specs.declared.notice.Notice.TheVariants.{Registered, Learned, Replied}
use Rattle.world_law.specs.Laws.{notice_report}
use Rattle.udp_site.specs.Requests.{Deposits, request_of}
use Rattle.udp_site.specs.Served.{Turned, notice_text}
use Rattle.serving_law.specs.Federations.{Member, Serves, Down, Federation, Step, Happening}
use Rattle.serving_law.specs.Federations.{Turns, Fails, Dies, Ends, Renews, Starts, after}

-- ---- what is shown

-- of a turn so many datagrams were handed out, and so many bytes of its lines were written
pub record Showing : Type 0 where
  pub turn : Turned
  pub handed : ℕ
  pub written : ℕ

abbrev pub showing_of : {C : Type 0} → Happening C → Option Showing
showing_of (Turns n step handed written) =
    Some (record { turn = step.turn; handed = handed; written = written })
showing_of (Fails n step handed written records) =
    Some (record { turn = step.turn; handed = handed; written = written })
showing_of (Dies n step records) = None
showing_of (Ends n records) = None
showing_of (Renews n) = None
showing_of (Starts n cell site) = None

-- of the line that says this at least a byte was written: the lines before it have fewer
pub record IsPrinted (s : Showing) (notice : Notice) : Type 0 where
  pub before : List Notice
  pub later : List Notice
  pub split : s.turn.done.notices ≡ before ++ notice ∷ later
  pub begun : length (flat_map notice_text before) < s.written

-- a datagram that was handed out is this message's, as who receives it reads it
pub record IsTold (federation : ℕ) (s : Showing) (message : Message) : Type 0 where
  pub address : ℕ
  pub bytes : List ℕ
  pub handed : Has (address, bytes) (take s.handed s.turn.done.posts)
  pub reads : message_of federation bytes ≡ Some message

-- it is shown in a happening
abbrev pub Prints : {C : Type 0} → Happening C → Notice → Type 0
Prints h notice = (s : Showing) × (showing_of h ≡ Some s) × IsPrinted s notice

abbrev pub Tells : {C : Type 0} → (federation : ℕ) → Happening C → Message → Type 0
Tells federation h message =
    (s : Showing) × (showing_of h ≡ Some s) × IsTold federation s message

-- ---- reports

-- the bag that a client is told is known: in reply to a query; or to a deposit, as another one
abbrev pub known_told : Body → Option BagId
known_told (QueryReply site (query.Known bag)) = Some bag
known_told (DepositReply site (deposit.OtherKnown bag)) = Some bag
known_told _ = None

-- a line `known` or `reply .. known` names the bag for the slot, or a reply to a client does
abbrev pub Reports : {C : Type 0} → (federation : ℕ) → Happening C → SlotName → BagId → Type 0
Reports federation h slot bag =
    ((notice : Notice) × Prints h notice
    × (notice_report notice ≡ Some (record { slot = slot; bag = bag })))
    ⊎ ((body : Body) × Tells federation h (record { slot = slot; body = body })
    × (known_told body ≡ Some bag))

-- a line `registered` of this member says that the bag is its deposit for the slot, or its reply to
-- a client does
abbrev pub Registers :
    {C : Type 0} → (federation : ℕ) → Happening C → (member : ℕ) → SlotName → BagId → Type 0
Registers federation h member slot bag =
    Prints h (Registered member slot bag)
    ⊎ Tells federation h
    (record { slot = slot; body = DepositReply member (deposit.Registered bag) })

-- this member says that the bag is known for the slot: in a line `known` or `reply .. known`, or in
-- a reply to a client who asked, or who would deposit another one
abbrev pub SaysKnown :
    {C : Type 0} → (federation : ℕ) → Happening C → (member : ℕ) → SlotName → BagId → Type 0
SaysKnown federation h member slot bag =
    Prints h (Learned member slot bag)
    ⊎ (Prints h (Replied member slot (replies.Known bag))
    ⊎ (Tells federation h (record { slot = slot; body = QueryReply member (query.Known bag) })
    ⊎ Tells federation h
    (record { slot = slot; body = DepositReply member (deposit.OtherKnown bag) })))

-- ---- deposits

-- the records of a member: of its process, or those that its cell recovers to
abbrev pub records_of : {C : Type 0} → Member C → List Record
records_of (Serves s) = s.site.book.records
records_of (Down records) = records

-- the bag is on its record as its deposit
abbrev pub OnRecord :
    {C : Type 0} → Federation C → (member : ℕ) → SlotName → BagId → Type 0
OnRecord f member slot bag =
    HasEntry slot (records_of (f.members member)) (entry.Deposit bag)

-- the bag is on its record as the known one
abbrev pub KnownOnRecord :
    {C : Type 0} → Federation C → (member : ℕ) → SlotName → BagId → Type 0
KnownOnRecord f member slot bag =
    HasEntry slot (records_of (f.members member)) (entry.Known bag)

-- the turn that a member takes, to its end or not
abbrev pub step_of : {C : Type 0} → Happening C → Option (ℕ × Step C)
step_of (Turns n step handed written) = Some (n, step)
step_of (Fails n step handed written records) = Some (n, step)
step_of (Dies n step records) = Some (n, step)
step_of (Ends n records) = None
step_of (Renews n) = None
step_of (Starts n cell site) = None

-- A member is asked to deposit a folder for the slot, which, as it is read then, is a valid bag of
-- this identity; and the member then has the bag on record as its deposit, whatever it answered,
-- and also where it was stopped.
pub record IsDeposit {C : Type 0} (federation : ℕ) (f : Federation C) (h : Happening C)
    (slot : SlotName) (bag : BagId) : Type 0 where
  pub member : ℕ
  pub step : Step C
  pub takes : step_of h ≡ Some (member, step)
  pub address : ℕ
  pub path : List ℕ
  pub asked : request_of federation step.turn.took ≡ Deposits address slot path
  pub facts : TreeFacts
  pub read : step.folders path ≡ Ok facts
  pub valid : IsValid facts
  pub identity : bag ≡ identity_of facts
  pub on_record : OnRecord (after f h) member slot bag
