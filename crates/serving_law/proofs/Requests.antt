-- What comes to a site that serves, by what it asks.
use Rattle.std.proofs.Common.{ℕ, ◌≡◌, inl, inr, refl, List, Option, None, Some}
use Rattle.std.specs.Prelude.{Result, Ok}
use Rattle.fed_types.specs.declared.bag_id.BagId.{BagId}
use Rattle.fed_types.specs.Lists.{Has}
use Rattle.fed_types.specs.Sites.{Membership}
use Rattle.fed_types.specs.Slots.{SlotName}
use Rattle.fed_types.specs.Values.{IsSlot}
use Rattle.cell_device.specs.Devices.{Device}
use Rattle.bag_tree.specs.declared.fault.TreeFault.{TreeFault}
use Rattle.bag_tree.specs.Facts.{TreeFacts}
use Rattle.bag_check.specs.Check.{check_of}
use Rattle.dgram.specs.declared.body.Body.{Body}
use Rattle.dgram.specs.declared.body.Body.TheVariants.{Query, Recover, DepositReply, QueryReply}
use Rattle.dgram.specs.declared.body.Body.TheVariants as bodies
use Rattle.dgram.specs.declared.message.Message.{Message}
use Rattle.dgram.specs.Decoded.{message_of}
use Rattle.dgram.specs.Messages.{IsMessage}
use Rattle.dgram.proofs.MessageOf.{message_of-again, message_of-found}
use Rattle.world_law.specs.Laws.{WasSent}
use Rattle.world_law.specs.Networks.{Network}
use Rattle.world_law.specs.WellFormed.{IsWellFormed}
use Rattle.udp_site.specs.Traffic.{Post, Taken, Nothing, From}
use Rattle.udp_site.specs.Requests.{Request, Says, Deposits, Queries, Recovers, request_by}
use Rattle.udp_site.specs.Requests.{request_in, request_of}
use Rattle.serving_law.specs.Rules.{MayCome, IsOfMember}
use Rattle.serving_law.proofs.Networks.{IsReplyBody, Means}

-- a deposit that is asked for: its folder, as it is read, is a valid bag
pub record IsAsked (federation : ℕ) (folders : List ℕ → Result TreeFacts TreeFault) (took : Taken)
    (slot : SlotName) (bag : BagId) : Type 0 where
  pub address : ℕ
  pub path : List ℕ
  pub asked : request_of federation took ≡ Deposits address slot path
  pub facts : TreeFacts
  pub read : folders path ≡ Ok facts
  pub checked : check_of facts ≡ Ok bag

-- ---- a message, by what it asks

says_message : (address : ℕ) (m : Message) (body : Body) (message : Message)
    → request_by address m body ≡ Says message → m ≡ message
says_message address m (bodies.Deposit path) message e = absurd (cc e)
says_message address m Query message e = absurd (cc e)
says_message address m Recover message e = absurd (cc e)
says_message address m (DepositReply from answer) message e = absurd (cc e)
says_message address m (QueryReply from answer) message e = absurd (cc e)
says_message address m _ message e = cc

reply_says_nothing : (address : ℕ) (m : Message) (body : Body) (message : Message)
    → IsReplyBody body → request_by address m body ≡ Says message → ⊥
reply_says_nothing address m (DepositReply from answer) message is e = cc
reply_says_nothing address m (QueryReply from answer) message is e = cc
reply_says_nothing address m _ message is e = absurd is

-- what a request names is well-formed
abbrev IsRight : Request → Type 0
IsRight (Says message) = IsMessage message
IsRight (Deposits address slot path) = IsSlot slot
IsRight (Queries address slot) = IsSlot slot
IsRight (Recovers slot) = IsSlot slot
IsRight _ = Unit {0}

asks_rightly : (address : ℕ) (m : Message) → IsMessage m → (body : Body)
    → IsRight (request_by address m body)
asks_rightly address m is (bodies.Deposit path) = is.0
asks_rightly address m is Query = is.0
asks_rightly address m is Recover = is.0
asks_rightly address m is (DepositReply from answer) = tt
asks_rightly address m is (QueryReply from answer) = tt
asks_rightly address m is _ = is

-- ---- bytes that come

module _ (members : Membership) (handed : List Post) where
  abbrev federation : ℕ
  federation = members.federation

  is_right : (took : Taken) → MayCome members handed took → IsRight (request_of federation took)
  is_right Nothing may = tt
  is_right (From from bytes) may = go (message_of federation bytes) refl
    where
      go : (o : Option Message) → message_of federation bytes ≡ o → IsRight (request_in from o)
      go None f = tt
      go (Some m) f = asks_rightly from m (message_of-found federation bytes m may.0 f).0 m.body

  pub deposit_is_slot : (took : Taken) → MayCome members handed took → (address : ℕ)
      (slot : SlotName) (path : List ℕ) → request_of federation took ≡ Deposits address slot path
      → IsSlot slot
  deposit_is_slot took may address slot path e = rw e at (is_right took may)

  pub query_is_slot : (took : Taken) → MayCome members handed took → (address : ℕ)
      (slot : SlotName) → request_of federation took ≡ Queries address slot → IsSlot slot
  query_is_slot took may address slot e = rw e at (is_right took may)

  pub recover_is_slot : (took : Taken) → MayCome members handed took → (slot : SlotName)
      → request_of federation took ≡ Recovers slot → IsSlot slot
  recover_is_slot took may slot e = rw e at (is_right took may)

  pub says_is_message : (took : Taken) → MayCome members handed took → (message : Message)
      → request_of federation took ≡ Says message → IsMessage message
  says_is_message took may message e = rw e at (is_right took may)

  -- a message in the name of a member was sent

  module _ {C : Type 0} (device : C → Device) (w : Network) (formed : IsWellFormed w)
      (means : (address : ℕ) (bytes : List ℕ) → Has (address, bytes) handed
      → Means device members w bytes) where
    abbrev pub IsHeard : Message → Type 0
    IsHeard message = WasSent w message.slot message.body

    by_meaning : (from : ℕ) (bytes : List ℕ) (message : Message) → Means device members w bytes
        → request_of federation (From from bytes) ≡ Says message → IsHeard message
    by_meaning from bytes message (inl s) e =
        let read = message_of-again federation s.send.message (formed.sent s.send s.sent).1 in
        let asks = rw (s.bytes_are, read) at e in
        rw (← says_message from s.send.message s.send.message.body message asks)
        (record { to = s.send.to; is_sent = s.sent })
    by_meaning from bytes message (inr (m, r)) e =
        let asks = rw (r.bytes_are, message_of-again federation m r.is) at e in
        absurd (reply_says_nothing from m m.body message r.replies asks)

    pub says_was_sent : (took : Taken) → MayCome members handed took → (message : Message)
        → request_of federation took ≡ Says message → IsOfMember members message → IsHeard message
    says_was_sent Nothing may message e is = absurd (cc e)
    says_was_sent (From from bytes) may message e is =
        let found = may.1 message e is in
        by_meaning from bytes message (means found.0 bytes found.1) e
