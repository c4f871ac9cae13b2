-- A network that a federation of sites that serve represents: the same records and volatile
-- states, and a message for each datagram that was handed out.
use Rattle.std.proofs.Common.{ℕ, ◌≡◌, ◌≢◌, ◌⊎◌, inl, inr, false, List, Some}
use Rattle.fed_types.specs.declared.bag_id.BagId.{BagId}
use Rattle.fed_types.specs.Lists.{Has}
use Rattle.fed_types.specs.Quorums.{QuorumSystem, quorums_of}
use Rattle.fed_types.specs.Sites.{Membership}
use Rattle.fed_types.specs.Slots.{SlotName}
use Rattle.cell_device.specs.Devices.{Device}
use Rattle.records.specs.declared.entry.Entry.TheVariants as entry
use Rattle.records.specs.declared.record.Record.{Record}
use Rattle.book.specs.OpenBooks.{RecoversTo}
use Rattle.dgram.specs.declared.answers.DepositAnswer.TheVariants as deposit
use Rattle.dgram.specs.declared.answers.QueryAnswer.TheVariants as query
use Rattle.dgram.specs.declared.body.Body.{Body}
use Rattle.dgram.specs.declared.body.Body.TheVariants.{DepositReply, QueryReply}
use Rattle.dgram.specs.declared.message.Message.{Message}
use Rattle.dgram.specs.Encoding.{datagram_of}
use Rattle.dgram.specs.Messages.{IsMessage}
use Rattle.proposer.specs.VolatileStates.{VolatileState}
use Rattle.site.specs.declared.answer.Reply.TheVariants as replies
use Rattle.site.specs.Effects.{Send}
use Rattle.site.specs.Contents.{Contents}
use Rattle.lines.specs.declared.notice.Notice.{Notice}
use Rattle.lines.specs.declared.notice.Notice.TheVariants.{Registered, Learned, Replied}
use Rattle.world_law.specs.Laws.{IsChosen, Report, notice_report}
use Rattle.world_law.specs.Laws as laws
use Rattle.world_law.specs.Networks.{Network, SiteState, volatile_in}
use Rattle.world_law.specs.WellFormed.{IsWellFormed}
use Rattle.world_law.proofs.Grows.{Grows}
use Rattle.world_law.proofs.Kept.{Kept}
use Rattle.udp_site.specs.Turns.{Serving, Done}
use Rattle.serving_law.specs.Federations.{Member, Serves, Down, Federation}
use Rattle.serving_law.specs.Reports.{known_told}
use Rattle.serving_law.specs.Rules.{owner_of}
use Rattle.serving_law.proofs.Spoken.{IsSiteBody}

-- a reply to a client
abbrev pub IsReplyBody : Body → Type 0
IsReplyBody (DepositReply from answer) = Unit {0}
IsReplyBody (QueryReply from answer) = Unit {0}
IsReplyBody _ = ⊥

-- site n has the bag on record as its deposit
abbrev pub HasDeposit : Network → ℕ → SlotName → BagId → Type 0
HasDeposit w n slot bag = laws.OnRecord w n slot (entry.Deposit bag)

-- site n has the bag on record as the known one
abbrev pub HasKnown : Network → ℕ → SlotName → BagId → Type 0
HasKnown w n slot bag = laws.OnRecord w n slot (entry.Known bag)

-- what may be deposited: for which slot which bag
abbrev pub May : Type 1
May = SlotName → BagId → Type 0

module _ {C : Type 0} (device : C → Device) (members : Membership) where
  abbrev pub quorums : QuorumSystem
  quorums = quorums_of members

  -- ---- sites

  -- what is between two turns of member n, whose site has these records and this volatile state
  abbrev pub serving :
      (n : ℕ) → List Record → VolatileState → (cell : C) → Contents → (idle tried : ℕ) → Serving C
  serving n records volatile cell tables idle tried = record {
    site = record {
      book = record {
        cell = cell;
        records = records;
        needs_opening = false;
        owner = owner_of device members n;
      };
      tables = tables;
    };
    volatile = volatile;
    idle = idle;
    tried = tried;
  }

  pub record IsServed (n : ℕ) (s : Serving C) (t : SiteState) : Type 0 where
    pub records : s.site.book.records ≡ t.records
    pub opened : s.site.book.needs_opening ≡ false
    pub whose : s.site.book.owner ≡ owner_of device members n
    pub volatile : s.volatile ≡ volatile_in t.mode
    pub recovers : RecoversTo (owner_of device members n) t.records (device s.site.book.cell).image

  pub is_serving : (n : ℕ) (s : Serving C) (t : SiteState) → IsServed n s t
      → s ≡ serving n t.records (volatile_in t.mode) s.site.book.cell s.site.tables s.idle s.tried
  is_serving n s t h = λ i. record {
    site = record {
      book = record {
        cell = s.site.book.cell;
        records = h.records i;
        needs_opening = h.opened i;
        owner = h.whose i;
      };
      tables = s.site.tables;
    };
    volatile = h.volatile i;
    idle = s.idle;
    tried = s.tried;
  }

  abbrev pub IsMember : ℕ → Member C → SiteState → Type 0
  IsMember n (Serves s) t = IsServed n s t
  IsMember n (Down records) t = records ≡ t.records

  -- ---- datagrams

  -- a message that a site has sent
  pub record IsSent (w : Network) (bytes : List ℕ) : Type 0 where
    pub send : Send
    pub sent : Has send w.sent
    pub bytes_are : bytes ≡ datagram_of members.federation send.message
    pub speaks : IsSiteBody send.message.body

  -- a well-formed reply
  pub record IsReply (bytes : List ℕ) (message : Message) : Type 0 where
    pub is : IsMessage message
    pub bytes_are : bytes ≡ datagram_of members.federation message
    pub replies : IsReplyBody message.body

  abbrev pub Means : Network → List ℕ → Type 0
  Means w bytes = IsSent w bytes ⊎ ((message : Message) × IsReply bytes message)

  -- what a reply of a turn says, which leads from the one network to the other
  pub record SaysRightly (w x : Network) (message : Message) : Type 0 where
    pub known : (bag : BagId) → known_told message.body ≡ Some bag
        → IsChosen quorums w message.slot bag
    pub registered : (n : ℕ) (bag : BagId)
        → message.body ≡ DepositReply n (deposit.Registered bag) → HasDeposit x n message.slot bag
    pub refused : (n : ℕ) (bag : BagId) → message.body ≡ DepositReply n (deposit.OtherKnown bag)
        → HasKnown w n message.slot bag
    pub queried : (n : ℕ) (bag : BagId) → message.body ≡ QueryReply n (query.Known bag)
        → HasKnown w n message.slot bag

  abbrev pub IsPost : (w x : Network) → List ℕ → Type 0
  IsPost w x bytes =
      IsSent x bytes ⊎ ((message : Message) × IsReply bytes message × SaysRightly w x message)

  -- ---- lines

  pub record IsNotice (w x : Network) (notice : Notice) : Type 0 where
    pub known : (r : Report) → notice_report notice ≡ Some r → IsChosen quorums w r.slot r.bag
    pub registered : (n : ℕ) (slot : SlotName) (bag : BagId) → notice ≡ Registered n slot bag
        → HasDeposit x n slot bag
    pub learned : (n : ℕ) (slot : SlotName) (bag : BagId) → notice ≡ Learned n slot bag
        → HasKnown x n slot bag
    pub replied : (n : ℕ) (slot : SlotName) (bag : BagId)
        → notice ≡ Replied n slot (replies.Known bag) → HasKnown w n slot bag

  -- ---- what happens at a member

  -- only site n moves, and member n is this then; a deposit on record is old, or it is one of
  -- member n that may be
  pub record Moves (w x : Network) (n : ℕ) (now : Member C) (D : May) : Type 0 where
    pub kept : Kept quorums x
    pub formed : IsWellFormed x
    pub grows : Grows w x
    pub others : (k : ℕ) → k ≢ n → x.sites k ≡ w.sites k
    pub is : IsMember n now (x.sites n)
    pub deposits : (k : ℕ) (slot : SlotName) (bag : BagId) → HasDeposit x k slot bag
        → HasDeposit w k slot bag ⊎ ((k ≡ n) × D slot bag)

  -- and this is done
  pub record Goes (w : Network) (n : ℕ) (done : Done) (now : Member C) (D : May) : Type 0 where
    pub x : Network
    pub moves : Moves w x n now D
    pub posts : (port : ℕ) (bytes : List ℕ) → Has (port, bytes) done.posts → IsPost w x bytes
    pub notices : (notice : Notice) → Has notice done.notices → IsNotice w x notice

  pub allows : {w x : Network} {n : ℕ} {now : Member C} {D E : May}
      → ((slot : SlotName) (bag : BagId) → D slot bag → E slot bag) → Moves w x n now D
      → Moves w x n now E
  allows more m = record {
    kept = m.kept;
    formed = m.formed;
    grows = m.grows;
    others = m.others;
    is = m.is;
    deposits = λ k slot bag h. elim (m.deposits k slot bag h) [
      | inl old ↦ inl old
      | inr new ↦ inr (new.0, more slot bag new.1)
    ];
  }

  -- ---- a federation

  pub record Stands (f : Federation C) (w : Network) : Type 0 where
    pub kept : Kept quorums w
    pub formed : IsWellFormed w
    pub is : (n : ℕ) → IsMember n (f.members n) (w.sites n)
    pub handed : (port : ℕ) (bytes : List ℕ) → Has (port, bytes) f.handed → Means w bytes
