-- What was handed out, of what sites say to one another, is bytes; and so is what a client asks.
use Rattle.std.proofs.Common.{ℕ, suc, ◌≡◌, ◌<◌, inl, inr, sym, ap, subst, ◌∙◌, List, [], ◌∷◌}
use Rattle.std.proofs.Common.{length, All, Option, None, Some, arith}
use Rattle.std.specs.Int.{bytes_high_first}
use Rattle.fed_types.specs.declared.bag_id.BagId.{BagId}
use Rattle.fed_types.specs.declared.vote.Vote.{Vote}
use Rattle.fed_types.specs.Ballots.{BallotNumber}
use Rattle.fed_types.specs.Lists.{Has}
use Rattle.fed_types.specs.Quorums.{QuorumSystem, quorums_of}
use Rattle.fed_types.specs.Sites.{Membership}
use Rattle.fed_types.specs.Slots.{SlotName}
use Rattle.fed_types.specs.Values.{IsSlot, IsBallot, IsVote, IsMembership}
use Rattle.fed_types.specs.Laws.Quorums.{are_quorums}
use Rattle.tokens.proofs.Utf8Lemmas.{IsByte-from_utf8}
use Rattle.fields.specs.Encoding.{ballot_bytes, bag_bytes, vote_bytes, slot_bytes}
use Rattle.cell_device.specs.Devices.{Device}
use Rattle.dgram.specs.declared.body.Body.{Body}
use Rattle.dgram.specs.declared.body.Body.TheVariants.{Prepare, Promise, Accept, Accepted, Refused}
use Rattle.dgram.specs.declared.body.Body.TheVariants.{Ask, Known, Deposit, Query, Recover}
use Rattle.dgram.specs.declared.body.Body.TheVariants.{DepositReply, QueryReply}
use Rattle.dgram.specs.declared.message.Message.{Message}
use Rattle.dgram.specs.Decoded.{message_of}
use Rattle.dgram.specs.Encoding.{kind_of, from_byte, body_from, body_bytes, prior_bytes}
use Rattle.dgram.specs.Encoding.{datagram_of}
use Rattle.dgram.specs.Messages.{IsMessage, IsBody, IsPrior}
use Rattle.dgram.proofs.MessageOf.{message_of-again}
use Rattle.world_law.specs.Laws as laws
use Rattle.world_law.specs.Laws.{WasSent}
use Rattle.world_law.specs.Networks.{Network}
use Rattle.world_law.proofs.Deeds.{some_same}
use Rattle.world_law.proofs.Induction.{promise_says, vote_asked, proposed_came, chosen_came}
use Rattle.world_law.proofs.Kept.{Kept}
use Rattle.serving_law.specs.Federations.{Federation}
use Rattle.serving_law.specs.Rules.{AreBytes}
use Rattle.serving_law.proofs.DatagramBytes.{Bytes, joined, of_number, of_message}
use Rattle.serving_law.proofs.Networks.{IsReplyBody, Means}
use Rattle.serving_law.proofs.Scene.{OnlyNow}
use Rattle.serving_law.proofs.Spoken.{IsSiteBody}
use Rattle.serving_reach_law.proofs.Reached.{DepositsAreBytes, Reached}
use Rattle.serving_reach_law.proofs.Words.{no_reply}

-- ---- a version, and a ballot

each_byte : (xs : List ℕ) → All (λ (b : ℕ). b < 256) xs → Bytes xs
each_byte [] all = tt
each_byte (x ∷ xs) all =
    (all 0 0 (omega arith), each_byte xs (λ k d l. all (suc k) d (omega (arith, l))))

pub of_slot : (s : SlotName) → IsSlot s → Bytes (slot_bytes s)
of_slot s is =
    let long = is.0.0.1 in
    joined (length s.object ∷ s.object) (bytes_high_first 4 s.version)
    (omega (arith, long), each_byte s.object (IsByte-from_utf8 s.object is.1))
    (of_number 4 s.version)

of_ballot : (b : BallotNumber) → IsBallot b → Bytes (ballot_bytes b)
of_ballot b is =
    let small = is.2.1 in
    joined (bytes_high_first 4 b.round) (b.site ∷ []) (of_number 4 b.round)
    (omega (arith, small), tt)

-- ---- what a client asks

pub query_is_bytes : (federation : ℕ) (slot : SlotName) → IsSlot slot
    → AreBytes (datagram_of federation (record { slot = slot; body = Query }))
query_is_bytes federation slot is =
    of_message federation (record { slot = slot; body = Query }) (omega arith) (omega arith)
    (of_slot slot is) tt

pub recover_is_bytes : (federation : ℕ) (slot : SlotName) → IsSlot slot
    → AreBytes (datagram_of federation (record { slot = slot; body = Recover }))
recover_is_bytes federation slot is =
    of_message federation (record { slot = slot; body = Recover }) (omega arith) (omega arith)
    (of_slot slot is) tt

-- ---- what a site says

kind_fits : (body : Body) → kind_of body < 256
kind_fits (Prepare ballot) = omega arith
kind_fits (Promise from ballot prior) = omega arith
kind_fits (Accept vote) = omega arith
kind_fits (Accepted from vote) = omega arith
kind_fits (Refused from asked standing) = omega arith
kind_fits (Ask from) = omega arith
kind_fits (Known from bag) = omega arith
kind_fits (Deposit path) = omega arith
kind_fits Query = omega arith
kind_fits Recover = omega arith
kind_fits (DepositReply from answer) = omega arith
kind_fits (QueryReply from answer) = omega arith

from_fits : (body : Body) → IsBody body → IsSiteBody body → from_byte (body_from body) < 256
from_fits (Prepare ballot) is site = let small = is.2.1 in omega (arith, small)
from_fits (Promise from ballot prior) is site = let small = is.0.1 in omega (arith, small)
from_fits (Accept vote) is site = let small = is.0.2.1 in omega (arith, small)
from_fits (Accepted from vote) is site = let small = is.0.1 in omega (arith, small)
from_fits (Refused from asked standing) is site = let small = is.0.1 in omega (arith, small)
from_fits (Ask from) is site = let small = is.1 in omega (arith, small)
from_fits (Known from bag) is site = let small = is.0.1 in omega (arith, small)
from_fits (Deposit path) is site = absurd site
from_fits Query is site = absurd site
from_fits Recover is site = absurd site
from_fits (DepositReply from answer) is site = absurd site
from_fits (QueryReply from answer) is site = absurd site

-- a bag that was sent was deposited, and so it is bytes
module _ (members : Membership) (w : Network)
    (kept : Kept (quorums_of members) w) (bytes : DepositsAreBytes w) where
  abbrev q : QuorumSystem
  q = quorums_of members

  abbrev IsBytes : SlotName → BagId → Type 0
  IsBytes slot bag = Bytes bag.0

  of_vote : (slot : SlotName) (vote : Vote) → IsVote vote → WasSent w slot (Accept vote)
      → Bytes (vote_bytes vote)
  of_vote slot vote is s =
      joined (ballot_bytes vote.ballot) (bag_bytes vote.bag) (of_ballot vote.ballot is.0)
      (proposed_came q (are_quorums members) w kept IsBytes bytes slot vote s)

  of_prior : (n : ℕ) (slot : SlotName) (b : BallotNumber) (o : Option Vote) → IsPrior o
      → laws.IsPrior w n slot b o → Bytes (prior_bytes o)
  of_prior n slot b None is says = (omega arith, tt)
  of_prior n slot b (Some vote) is says =
      (omega arith, of_vote slot vote is (vote_asked kept says.voted))

  of_body : (slot : SlotName) (body : Body) → IsBody body → IsSiteBody body
      → WasSent w slot body → Bytes (body_bytes body)
  of_body slot (Prepare ballot) is site s = of_ballot ballot is
  of_body slot (Promise n ballot prior) is site s =
      joined (ballot_bytes ballot) (prior_bytes prior) (of_ballot ballot is.1)
      (of_prior n slot ballot prior is.2 (promise_says kept s).prior_is)
  of_body slot (Accept vote) is site s = of_vote slot vote is s
  of_body slot (Accepted n vote) is site s =
      of_vote slot vote is.1 (vote_asked kept (kept.sent _ s.is_sent))
  of_body slot (Refused n asked standing) is site s =
      joined (ballot_bytes asked) (ballot_bytes standing) (of_ballot asked is.1)
      (of_ballot standing is.2)
  of_body slot (Ask n) is site s = tt
  of_body slot (Known n bag) is site s =
      chosen_came q (are_quorums members) w kept IsBytes bytes slot bag (kept.sent _ s.is_sent)
  of_body slot (Deposit path) is site s = absurd site
  of_body slot Query is site s = absurd site
  of_body slot Recover is site s = absurd site
  of_body slot (DepositReply from answer) is site s = absurd site
  of_body slot (QueryReply from answer) is site s = absurd site

  pub sent_is_bytes : (m : Message) → IsMessage m → IsSiteBody m.body → WasSent w m.slot m.body
      → AreBytes (datagram_of members.federation m)
  sent_is_bytes m is site s =
      of_message members.federation m (kind_fits m.body) (from_fits m.body is.1 site)
      (of_slot m.slot is.0) (of_body m.slot m.body is.1 site s)

module _ {C : Type 0} (device : C → Device) (members : Membership)
    (is_membership : IsMembership members) (only_now : OnlyNow device)
  where
    pub handed_is_bytes : (since : Network) (f : Federation C)
        → Reached device members is_membership only_now since f
        → (m : Message) → IsMessage m → IsSiteBody m.body → (port : ℕ)
        → Has (port, datagram_of members.federation m) f.handed
        → AreBytes (datagram_of members.federation m)
    handed_is_bytes since f r m is site port h =
        by_meaning (r.stands.handed port (datagram_of members.federation m) h)
      where
        again : (k : Message) → IsMessage k
            → datagram_of members.federation m ≡ datagram_of members.federation k → k ≡ m
        again k is_k same =
            some_same (sym (message_of-again members.federation k is_k)
            ∙ ap (message_of members.federation) (sym same)
            ∙ message_of-again members.federation m is)

        by_meaning : Means device members r.w (datagram_of members.federation m)
            → AreBytes (datagram_of members.federation m)
        by_meaning (inl s) =
            sent_is_bytes members r.w r.stands.kept r.bytes m is site
            (subst (λ (k : Message). WasSent r.w k.slot k.body)
            (again s.send.message (r.stands.formed.sent s.send s.sent).1 s.bytes_are)
            (record { to = s.send.to; is_sent = s.sent }))
        by_meaning (inr (k, reply)) =
            absurd (no_reply m.body site
            (subst (λ (k : Message). IsReplyBody k.body) (again k reply.is reply.bytes_are)
            reply.replies))
