-- What a site that serves does in one turn.
use Rattle.std.specs.Prelude.{◌≡◌, ◌⊎◌, ℕ, ◌+◌, ◌-◌, ◌%◌, ◌==◌, Bool, not, true, false}
use Rattle.std.specs.Prelude.{if◌then◌else◌}
use Rattle.std.specs.Prelude.{List, [], ◌∷◌, ◌++◌, map, Option, Some, None, Result, Ok, Err, IfSome}
use Rattle.std.specs.Prelude.{slice_get}
use Rattle.std.specs.List.{filter, flat_map}
use Rattle.std.specs.Option.{option_to_list}
use Rattle.fed_types.specs.declared.bag_id.BagId.{BagId}
use Rattle.fed_types.specs.Sites.{Membership, members_of}
use Rattle.fed_types.specs.Slots.{SlotName}
use Rattle.cell_device.specs.Devices.{Device}
use Rattle.bag_tree.specs.declared.fault.TreeFault.{TreeFault}
use Rattle.bag_tree.specs.Facts.{TreeFacts}
use Rattle.bag_tree.specs.Fault.{IsOrMemory}
use Rattle.bag_check.specs.Check.{check_of}
use Rattle.dgram.specs.declared.answers.DepositAnswer.{DepositAnswer}
use Rattle.dgram.specs.declared.body.Body.{Body}
use Rattle.dgram.specs.declared.body.Body.TheVariants as bodies
use Rattle.dgram.specs.declared.message.Message.{Message}
use Rattle.dgram.specs.Encoding.{datagram_of}
use Rattle.records.specs.declared.record.Record.{Record}
use Rattle.proposer.specs.VolatileStates.{VolatileState}
use Rattle.site.specs.Contents.{deposits_of, slot_at}
use Rattle.site.specs.declared.answer.Answer.{Answer}
use Rattle.site.specs.declared.answer.Line.{Line}
use Rattle.site.specs.declared.answer.Reply.{Reply}
use Rattle.site.specs.declared.answer.Reply.TheVariants as replies
use Rattle.site.specs.declared.answer.Outgoing.{Outgoing}
use Rattle.site.specs.declared.fault.SiteFault.{SiteFault}
use Rattle.site.specs.declared.fault.SiteFault.TheVariants as faults
use Rattle.site.specs.Answered.{IsAnswered, IsRefused}
use Rattle.site.specs.Calls as calls
use Rattle.site.specs.Calls.{Input, reply_of}
use Rattle.site.specs.Effects.{Effect}
use Rattle.site.specs.Sites.{OpenSite, Represents, effect}
use Rattle.lines.specs.declared.notice.Notice.{Notice}
use Rattle.lines.specs.declared.notice.Notice.TheVariants.{Refused, Dropped}
use Rattle.lines.specs.Notices.{notice_of, reply_notice}
use Rattle.udp_site.specs.Traffic.{Post, Taken}
use Rattle.udp_site.specs.Requests.{Request, Waits, Says, Deposits, Queries, Recovers, Noise}
use Rattle.udp_site.specs.Requests.{request_of}
use Rattle.udp_site.specs.Replies.{deposit_answer, tree_answer, query_answer}
use Rattle.udp_site.specs.Rounds.{next_waiting}

-- ---- between turns

-- the open site, and its volatile state; how many turns were idle; and the place, among its
-- deposits in their order, after that which an idle turn tried last
pub record Serving (C : Type 0) : Type 0 where
  pub site : OpenSite C
  pub volatile : VolatileState
  pub idle : ℕ
  pub tried : ℕ

-- a site that begins to serve
abbrev pub begins : {C : Type 0} → OpenSite C → VolatileState → Serving C
begins site volatile = record { site = site; volatile = volatile; idle = 0; tried = 0 }

abbrev pub members : {C : Type 0} → Serving C → Membership
members s = s.site.book.owner.members

abbrev pub number : {C : Type 0} → Serving C → ℕ
number s = s.site.book.owner.site

-- it represents its volatile state, unless it needs opening
abbrev pub IsServing : {C : Type 0} → Serving C → Type 0
IsServing s = s.site.book.needs_opening ≡ false → Represents s.site s.volatile

-- ---- what it hands out

-- a datagram for a site goes to that site's address: that of site 1 is first. A site without an
-- address gets none.
abbrev pub posts_to : (addresses : List ℕ) → (site : ℕ) → List ℕ → List Post
posts_to addresses site bytes =
    map (λ address. (address, bytes)) (option_to_list (slice_get addresses (site - 1)))

abbrev pub outgoing_posts : (addresses : List ℕ) → Outgoing → List Post
outgoing_posts addresses sealed = posts_to addresses sealed.to sealed.bytes.items

-- the datagrams of an answer, in order; a refusal has none
abbrev pub posts_of : (addresses : List ℕ) → Result Answer SiteFault → List Post
posts_of addresses (Ok answer) = flat_map (outgoing_posts addresses) answer.sends.items
posts_of addresses (Err fault) = []

-- what the site tells a client
abbrev pub replies_to : (federation client : ℕ) → SlotName → Body → List Post
replies_to federation client slot body =
    (client, datagram_of federation (record { slot = slot; body = body })) ∷ []

-- ---- what it says

-- what a call's answer says
abbrev pub says_of : Result Answer SiteFault → Result (Option Line) SiteFault
says_of (Ok answer) = Ok answer.line
says_of (Err fault) = Err fault

-- a line for it
abbrev pub notices_of : (site : ℕ) → Input → Result Answer SiteFault → List Notice
notices_of site input result = option_to_list (notice_of site input (says_of result))

-- an idle site's proposal says that it is refused, but not that no round is left
abbrev pub proposal_notices : (site : ℕ) → Input → Result Answer SiteFault → List Notice
proposal_notices site input (Err faults.RoundsSpent) = []
proposal_notices site input result = notices_of site input result

-- Of a recovery that a client asks for it says nothing where a bag is known, there is nothing to
-- recover or no round is left: anybody may ask, again and again.
abbrev pub recovery_notices : (site : ℕ) → Input → Result Answer SiteFault → List Notice
recovery_notices site input (Err faults.AlreadyKnown) = []
recovery_notices site input (Err faults.NothingToRecover) = []
recovery_notices site input (Err faults.RoundsSpent) = []
recovery_notices site input result = notices_of site input result

-- ---- a call

-- the volatile state after a call: a refused one leaves it
abbrev pub volatile_after : Effect → VolatileState → Result Answer SiteFault → VolatileState
volatile_after e volatile (Ok answer) = e.volatile
volatile_after e volatile (Err fault) = volatile

-- The site is called: it answers as the definitions say; or it needs opening, and says so. Nothing
-- else of what is between turns changes.
pub record IsCalled
    {C : Type 0} (device : C → Device) (old : Serving C) (input : Input)
    (result : Result Answer SiteFault) (new : Serving C)
    : Type 0 where
  pub answered : old.site.book.needs_opening ≡ false
      → IsAnswered device old.site new.site old.volatile (effect old.site old.volatile input) result
  pub refused : old.site.book.needs_opening ≡ true
      → (result ≡ Err faults.NeedsOpen) × (new.site ≡ old.site)
  pub volatile : new.volatile
      ≡ volatile_after (effect old.site old.volatile input) old.volatile result
  pub idle : new.idle ≡ old.idle
  pub tried : new.tried ≡ old.tried

-- ---- the turns

-- what a turn hands out, and what it says
pub record Done : Type 0 where
  pub posts : List Post
  pub notices : List Notice

-- what may come of a turn: what is done, and what is between turns then
abbrev pub Coming : Type 0 → Type 1
Coming C = Done → Serving C → Type 0

-- what is no message for it is dropped, and no call is made
abbrev pub drops : {C : Type 0} → Serving C → Coming C
drops old done new =
    (done ≡ record { posts = []; notices = Dropped (number old) ∷ [] }) × (new ≡ old)

-- a site's message arrives
abbrev pub hears : {C : Type 0} → (C → Device) → List ℕ → Serving C → Message → Coming C
hears device addresses old message done new =
    (result : Result Answer SiteFault)
    × IsCalled device old (calls.Arrives (Some message)) result new
    × (done ≡ record {
      posts = posts_of addresses result;
      notices = notices_of (number old) (calls.Arrives (Some message)) result;
    })

-- the reply to a deposit
abbrev pub deposit_replies :
    (federation site client : ℕ) → SlotName → Option DepositAnswer → List Post
deposit_replies federation site client slot None = []
deposit_replies federation site client slot (Some answer) =
    replies_to federation client slot (bodies.DepositReply site answer)

-- A folder that couldn't be read has a reply, and no line. The tree of one that was read is
-- deposited.
abbrev pub takes_tree :
    {C : Type 0} → (C → Device) → Serving C → (client : ℕ) → SlotName → Result TreeFacts TreeFault
    → Coming C
takes_tree device old client slot (Err fault) done new =
    (done ≡ record {
      posts =
          deposit_replies (members old).federation (number old) client slot (tree_answer fault);
      notices = [];
    })
    × (new ≡ old)
takes_tree device old client slot (Ok facts) done new =
    (result : Result Answer SiteFault)
    × IsCalled device old (calls.Deposits slot (check_of facts)) result new
    × (done ≡ record {
      posts =
          deposit_replies (members old).federation (number old) client slot
          (deposit_answer result);
      notices = notices_of (number old) (calls.Deposits slot (check_of facts)) result;
    })

-- The folder is read first: where it is known what a read gives, that is what is taken, unless
-- memory ran out.
abbrev pub deposits :
    {C : Type 0} → (C → Device) → Option (List ℕ → Result TreeFacts TreeFault) → Serving C
    → (client : ℕ) → SlotName → (path : List ℕ) → Coming C
deposits device gives old client slot path done new =
    (read : Result TreeFacts TreeFault)
    × IfSome gives (λ answer. IsOrMemory read (answer path))
    × takes_tree device old client slot read done new

-- Of these members each is asked, in order; or, where memory ran out, that one isn't, and a line
-- says so.
abbrev pub Asks : {C : Type 0} → List ℕ → Serving C → SlotName → (others : List ℕ) → Done → Type 0
Asks addresses s slot [] done = done ≡ record { posts = []; notices = [] }
Asks addresses s slot (member ∷ others) done =
    (rest : Done) × Asks addresses s slot others rest
    × ((done ≡ record {
      posts =
          posts_to addresses member
          (datagram_of (members s).federation
          (record { slot = slot; body = bodies.Ask (number s) }))
          ++ rest.posts;
      notices = rest.notices;
    })
    ⊎ (done ≡ record {
      posts = rest.posts;
      notices = Refused (number s) faults.Memory ∷ rest.notices;
    }))

-- all other members
abbrev pub others : {C : Type 0} → Serving C → List ℕ
others s = filter (λ member. not (member == number s)) (members_of (members s))

-- whom it asks after a query: all others, unless it knows the bag or needs opening
abbrev pub asked : {C : Type 0} → Serving C → Result (Reply BagId) SiteFault → List ℕ
asked s (Ok (replies.Known bag)) = []
asked s (Ok reply) = others s
asked s (Err fault) = []

-- what a query answers
abbrev pub answer_to : {C : Type 0} → Serving C → SlotName → Result (Reply BagId) SiteFault
answer_to s slot =
    if s.site.book.needs_opening then Err faults.NeedsOpen
    else Ok (reply_of slot s.site.book.records)

-- the reply to a query
abbrev pub query_replies :
    (federation site client : ℕ) → SlotName → Result (Reply BagId) SiteFault → List Post
query_replies federation site client slot known =
    replies_to federation client slot (bodies.QueryReply site (query_answer known))

-- a client asks for a slot's bag: the reply goes before the questions to the other members
abbrev pub queries : {C : Type 0} → List ℕ → Serving C → (client : ℕ) → SlotName → Coming C
queries addresses old client slot done new =
    (asks : Done) × Asks addresses old slot (asked old (answer_to old slot)) asks
    × (done ≡ record {
      posts =
          query_replies (members old).federation (number old) client slot (answer_to old slot)
          ++ asks.posts;
      notices = reply_notice (number old) slot (answer_to old slot) ∷ asks.notices;
    })
    × (new ≡ old)

-- where the definitions refuse its call, a site that needs no opening refuses so, whatever memory
-- there is
abbrev pub Refuses : {C : Type 0} → Serving C → Input → Result Answer SiteFault → Type 0
Refuses old input result =
    old.site.book.needs_opening ≡ false
    → IsRefused (effect old.site old.volatile input) result

-- the site is called to begin a ballot: its Prepares are handed out, and it says this of its answer
abbrev pub begins_ballot :
    {C : Type 0} → (C → Device) → List ℕ → Serving C → Input
    → (Result Answer SiteFault → List Notice) → Coming C
begins_ballot device addresses old input says done new =
    (result : Result Answer SiteFault)
    × IsCalled device old input result new
    × Refuses old input result
    × (done ≡ record { posts = posts_of addresses result; notices = says result })

-- a client has the site recover the slot, which has no reply
abbrev pub recovering :
    {C : Type 0} → (C → Device) → List ℕ → Serving C → SlotName → Coming C
recovering device addresses old slot =
    begins_ballot device addresses old (calls.Recovers slot)
    (recovery_notices (number old) (calls.Recovers slot))

-- an idle turn more
abbrev pub one_more_idle : {C : Type 0} → Serving C → Serving C
one_more_idle s = record s { idle = s.idle + 1 }

-- the deposit at this place is tried
abbrev pub tries : {C : Type 0} → Serving C → (place : ℕ) → Serving C
tries s place = record s { tried = place + 1 }

-- it proposes the slot's deposit
abbrev pub proposing :
    {C : Type 0} → (C → Device) → List ℕ → Serving C → SlotName → Coming C
proposing device addresses old slot =
    begins_ballot device addresses old (calls.Proposes slot)
    (proposal_notices (number old) (calls.Proposes slot))

-- it proposes the deposit at this place, if there is one
abbrev pub proposes :
    {C : Type 0} → (C → Device) → List ℕ → Serving C → Option ℕ → Option SlotName → Coming C
proposes device addresses old (Some place) (Some slot) done new =
    proposing device addresses (tries old place) slot done new
proposes device addresses old place slot done new =
    (done ≡ record { posts = []; notices = [] }) × (new ≡ old)

-- the slot of the deposit at this place, if there is a place
abbrev pub slot_of : List Record → Option ℕ → Option SlotName
slot_of records None = None
slot_of records (Some place) = slot_at (deposits_of records) place

-- the site's turn to propose: the next of its deposits without a known bag
abbrev pub proposes_next : {C : Type 0} → (C → Device) → List ℕ → Serving C → Coming C
proposes_next device addresses s =
    proposes device addresses s (next_waiting s.site.book.records s.tried)
    (slot_of s.site.book.records (next_waiting s.site.book.records s.tried))

-- where it is its turn it proposes
abbrev pub idles_if : {C : Type 0} → Bool → (C → Device) → List ℕ → Serving C → Coming C
idles_if true device addresses s done new = proposes_next device addresses s done new
idles_if false device addresses s done new = (done ≡ record { posts = []; notices = [] }) × (new ≡
    s)

-- nothing came: it is its turn where the count of such turns is a multiple of its number
abbrev pub idles : {C : Type 0} → (C → Device) → List ℕ → Serving C → Coming C
idles device addresses old =
    idles_if ((old.idle + 1) % number old == 0) device addresses (one_more_idle old)

-- what comes of a request
abbrev pub comes_of :
    {C : Type 0} → (C → Device) → List ℕ → Option (List ℕ → Result TreeFacts TreeFault)
    → Serving C → Request → Coming C
comes_of device addresses gives old Waits = idles device addresses old
comes_of device addresses gives old (Says message) = hears device addresses old message
comes_of device addresses gives old (Deposits client slot path) =
    deposits device gives old client slot path
comes_of device addresses gives old (Queries client slot) = queries addresses old client slot
comes_of device addresses gives old (Recovers slot) = recovering device addresses old slot
comes_of device addresses gives old Noise = drops old

-- what comes of a turn
abbrev pub turn_of :
    {C : Type 0} → (C → Device) → List ℕ → Option (List ℕ → Result TreeFacts TreeFault)
    → Serving C → Taken → Coming C
turn_of device addresses gives old taken =
    comes_of device addresses gives old (request_of (members old).federation taken)
