-- A turn in which a site that serves is asked for a slot's bag, and asks the other members.
use Rattle.std.proofs.Common.{ℕ, ◌≡◌, inl, inr, refl, sym, ap, Bool, true, false, cond, List, []}
use Rattle.std.proofs.Common.{◌∷◌, None, Some}
use Rattle.std.specs.Prelude.{Result, Ok, Err}
use Rattle.std.specs.List.{filter}
use Rattle.fed_types.specs.declared.bag_id.BagId.{BagId}
use Rattle.fed_types.specs.Lists.{Has, here, there}
use Rattle.fed_types.specs.Quorums.{QuorumSystem}
use Rattle.fed_types.specs.Sites.{Membership, members_of}
use Rattle.fed_types.specs.Slots.{SlotName}
use Rattle.fed_types.specs.Values.{IsSlot}
use Rattle.fed_types.specs.Laws.Lists.{has_none, has_one, has_cases, has_map, has_right, map_has}
use Rattle.cell_device.specs.Devices.{Device}
use Rattle.dgram.specs.declared.body.Body.TheVariants.{Ask, QueryReply}
use Rattle.dgram.specs.Encoding.{datagram_of}
use Rattle.proposer.specs.VolatileStates.{VolatileState}
use Rattle.site.specs.declared.answer.Reply.{Reply}
use Rattle.site.specs.declared.answer.Reply.TheVariants as replies
use Rattle.site.specs.declared.fault.SiteFault.{SiteFault}
use Rattle.site.specs.declared.fault.SiteFault.TheVariants as faults
use Rattle.site.specs.Calls.{reply_of}
use Rattle.site.specs.Effects.{to_each}
use Rattle.lines.specs.declared.notice.Notice.{Notice}
use Rattle.lines.specs.declared.notice.Notice.TheVariants.{Replied, Refused}
use Rattle.world_law.specs.Laws.{Report, notice_report, IsChosen}
use Rattle.world_law.specs.Networks.{Network, Up, volatile_in}
use Rattle.world_law.proofs.Deeds.{some_same, only_sends, carries_each, same_recalls, not_new}
use Rattle.world_law.proofs.Step.{moved, kept_moved, Next, reports_nothing}
use Rattle.world_law.proofs.WellFormedEffects.{sends_are}
use Rattle.udp_site.specs.Replies.{query_answer}
use Rattle.udp_site.specs.Turns.{Serving, Done, Asks, asked, queries, posts_to}
use Rattle.serving_law.specs.Federations.{Serves}
use Rattle.serving_law.specs.Reports.{known_told}
use Rattle.serving_law.specs.Rules.{owner_of}
use Rattle.serving_law.proofs.Moves.{moved_site, others_stay, moved_formed}
use Rattle.serving_law.proofs.Recoveries.{as_it_was, recovered_now}
use Rattle.serving_law.proofs.Replies.{query_answer_is, replied_is_known}
use Rattle.serving_law.proofs.Scene.{Scene}
use Rattle.serving_law.proofs.Networks.{quorums, IsPost, IsNotice, IsSent, May, Moves}
use Rattle.serving_law.proofs.Calls as calling
use Rattle.serving_law.proofs.Turns as turning

-- what passes a test stood in the list
has_filter : {X : Type 0} (test : X → Bool) {x : X} (xs : List X) → Has x (filter test xs)
    → Has x xs
has_filter test [] h = absurd (has_none h)
has_filter test {x = x} (y ∷ ys) h = go (λ k. has_filter test ys k) (test y) h
  where
    go : (Has x (filter test ys) → Has x ys) → (t : Bool)
        → Has x (cond t (y ∷ filter test ys) (filter test ys)) → Has x (y ∷ ys)
    go rest true (here e) = here e
    go rest true (there k) = there (rest k)
    go rest false k = there (rest k)

-- what a reply to a query names as known
named : (n : ℕ) (reply : Reply BagId) (bag : BagId)
    → known_told (QueryReply n (query_answer (Ok reply))) ≡ Some bag → reply ≡ replies.Known bag
named n (replies.Known b) bag e = ap replies.Known (some_same e)
named n _ bag e = absurd (cc e)

reported : (n : ℕ) (slot : SlotName) (reply : Reply BagId) (r : Report)
    → notice_report (Replied n slot reply) ≡ Some r
    → (reply ≡ replies.Known r.bag) × (slot ≡ r.slot)
reported n slot (replies.Known b) r e =
    let same : record { slot = slot; bag = b } ≡ r = cc in (rw (← same) refl, rw (← same) refl)
reported n slot _ r e = absurd (cc e)

module _ {C : Type 0} {device : C → Device} {members : Membership} (s : Scene device members) where
  open s use {w, inv, formed, n, member, cell, tables, recovers, is_membership, only_now}

  abbrev q : QuorumSystem
  q = quorums device members

  abbrev volatile : VolatileState
  volatile = volatile_in (w.sites n).mode

  module _ (idle tried : ℕ) (slot : SlotName) (is_slot : IsSlot slot) where
    abbrev old : Serving C
    old = turning.old s idle tried

    -- the network in which these members are asked
    abbrev asking : List ℕ → Network
    asking all = (moved w n None (Up volatile) (to_each slot (Ask n) all) None).network

    step : (D : May) (all : List ℕ)
        → Next q w (Some n) D (moved w n None (Up volatile) (to_each slot (Ask n) all) None)
    step D all =
        kept_moved q w n None (Up volatile) (to_each slot (Ask n) all) None D slot (Ask n)
        (only_sends q w n D slot (Ask n) (to_each slot (Ask n) all) (carries_each slot (Ask n) all)
        refl (λ x g. tt)) inv (same_recalls q w n volatile (inv.volatiles n) None slot (Ask n)
        (λ k c bag e i. absurd (not_new (Ask n) tt i))) reports_nothing

    abbrev AreMembers : List ℕ → Type 0
    AreMembers all = (k : ℕ) → Has k all → Has k (members_of members)

    moves : (D : May) (all : List ℕ) → AreMembers all
        → Moves device members w (asking all) n (Serves old) D
    moves D all are = record {
      kept = (step D all).kept;
      formed =
          moved_formed w n None (Up volatile) (to_each slot (Ask n) all) None formed tt
          (formed.heard n) (sends_are slot is_slot None tt (Ask n) (turning.is_site s) all
          (λ k h. turning.sites s k (are k h)) volatile (formed.heard n)).sends;
      grows = (step D all).grows;
      others = others_stay w n None (Up volatile) (to_each slot (Ask n) all) None;
      is =
          rw (moved_site w n None (Up volatile) (to_each slot (Ask n) all) None)
          (calling.served s idle tried old None (Up volatile)
          (as_it_was device (owner_of device members n) old.site.book refl refl recovers) refl);
      deposits = λ k s bag h. elim ((step D all).deposits k s bag h) [
        | inl before ↦ inl before
        | inr may ↦ inr (sym (some_same may.0), may.1)
      ];
    }

    asked_are : (known : Result (Reply BagId) SiteFault) → AreMembers (asked old known)
    asked_are (Ok (replies.Known bag)) k h = absurd (has_none h)
    asked_are (Ok (replies.Pending bag)) k h = has_filter _ (members_of members) h
    asked_are (Ok replies.Nothing) k h = has_filter _ (members_of members) h
    asked_are (Err fault) k h = absurd (has_none h)

    -- ---- the questions

    asked_of : (k : ℕ) (all : List ℕ) → Has k all
        → Has (record { to = k; message = record { slot = slot; body = Ask n } })
        (to_each slot (Ask n) all)
    unfolding to_each
    asked_of k all h = map_has
        (λ (k : ℕ). record { to = k; message = record { slot = slot; body = Ask n } }) h

    abbrev question : List ℕ
    question = datagram_of members.federation (record { slot = slot; body = Ask n })

    asks_posts : (addresses all : List ℕ) (done : Done) → Asks addresses old slot all done
        → (port : ℕ) (bytes : List ℕ) → Has (port, bytes) done.posts
        → (k : ℕ) × Has k all × (bytes ≡ question)
    asks_posts addresses [] done t port bytes h = absurd (has_none (rw t at h))
    asks_posts addresses (k ∷ all) done (rest, asks, inl e) port bytes h =
        elim (has_cases (posts_to addresses k question) rest.posts (rw e at h)) [
          | inl first ↦
              let to = has_map (λ (p : ℕ). (p, question)) _ first in
              (k, here refl, ap (λ (p : ℕ × List ℕ). p.1) (sym to.2))
          | inr later ↦
              let found = asks_posts addresses all rest asks port bytes later in
              (found.0, there found.1, found.2)
        ]
    asks_posts addresses (k ∷ all) done (rest, asks, inr e) port bytes h =
        let found = asks_posts addresses all rest asks port bytes (rw e at h) in
        (found.0, there found.1, found.2)

    asks_notices : (addresses all : List ℕ) (done : Done) → Asks addresses old slot all done
        → (notice : Notice) → Has notice done.notices → Refused n faults.Memory ≡ notice
    asks_notices addresses [] done t notice h = absurd (has_none (rw t at h))
    asks_notices addresses (k ∷ all) done (rest, asks, inl e) notice h =
        asks_notices addresses all rest asks notice (rw e at h)
    asks_notices addresses (k ∷ all) done (rest, asks, inr e) notice h =
        elim (has_cases (Refused n faults.Memory ∷ []) rest.notices (rw e at h)) [
          | inl first ↦ has_one first
          | inr later ↦ asks_notices addresses all rest asks notice later
        ]

    -- ---- the reply

    abbrev reply : Reply BagId
    reply = reply_of slot (w.sites n).records

    chosen : (bag : BagId) → reply ≡ replies.Known bag → IsChosen q w slot bag
    chosen bag e =
        turning.known_chosen s slot bag (replied_is_known slot (w.sites n).records bag e)

    reply_post : (x : Network) (bytes : List ℕ)
        → datagram_of members.federation
        (record { slot = slot; body = QueryReply n (query_answer (Ok reply)) }) ≡ bytes
        → IsPost device members w x bytes
    reply_post x bytes e = inr (
      record { slot = slot; body = QueryReply n (query_answer (Ok reply)) },
      record {
        is = (
          is_slot,
          (turning.is_site s, query_answer_is slot (w.sites n).records (formed.records n)),
        );
        bytes_are = sym e;
        replies = tt;
      },
      record {
        known = λ bag f. chosen bag (named n reply bag f);
        registered = λ k bag f. absurd (cc f);
        refused = λ k bag f. absurd (cc f);
        queried = λ k bag f.
            let place : n ≡ k = cc in
            rw (← place) (replied_is_known slot (w.sites n).records bag
            (named n reply bag (ap known_told f)));
      },
    )

    reply_notice : (x : Network) → IsNotice device members w x (Replied n slot reply)
    reply_notice x = record {
      known = λ r e.
          let f = reported n slot reply r e in rw (← f.1) (chosen r.bag f.0);
      registered = λ k s bag e. absurd (cc e);
      learned = λ k s bag e. absurd (cc e);
      replied = λ k s bag e.
          let place : n ≡ k = cc in
          let slots : slot ≡ s = cc in
          let known : reply ≡ replies.Known bag = cc in
          rw (← place, ← slots) (replied_is_known slot (w.sites n).records bag known);
    }

    -- ---- the turn

    pub query_ends : (addresses : List ℕ) (port : ℕ) (D : May) (done : Done) (new : Serving C)
        → queries addresses old port slot done new → turning.Ends s done new D
    query_ends addresses port D done new (asks, asks_are, done_is, same) =
        rw same (record {
          goes = λ opened. record {
            x = asking all;
            moves = moves D all (asked_are (Ok reply));
            posts = λ to bytes h.
                elim (has_cases (_ ∷ []) asks.posts (rw done_is at h)) [
                  | inl first ↦
                      reply_post (asking all) bytes (ap (λ (p : ℕ × List ℕ). p.1) (has_one first))
                  | inr later ↦
                      let found = asks_posts addresses all asks asks_are to bytes later in
                      inl (sent found.0 found.1 bytes found.2)
                ];
            notices = λ notice h.
                elim (has_cases (Replied n slot reply ∷ []) asks.notices (rw done_is at h)) [
                  | inl first ↦ rw (← has_one first) (reply_notice (asking all))
                  | inr later ↦
                      rw (← asks_notices addresses all asks asks_are notice later)
                      (turning.refused_is s (asking all) faults.Memory)
                ];
          };
          fails = λ needs. absurd (cc needs);
          dies = λ records m.
              calling.stops_as_it_was s idle tried D records
              (recovered_now device (owner_of device members n) old.site.book refl refl recovers
              only_now records m);
          last = λ needs. absurd (cc needs);
          stands = λ before opened. before;
        })
      where
        all : List ℕ
        all = asked old (Ok reply)

        sent : (k : ℕ) → Has k (asked old (Ok reply)) → (bytes : List ℕ) → bytes ≡ question
            → IsSent device members (asking (asked old (Ok reply))) bytes
        sent k h bytes e = record {
          send = record { to = k; message = record { slot = slot; body = Ask n } };
          sent = has_right w.sent (asked_of k (asked old (Ok reply)) h);
          bytes_are = e;
          speaks = tt;
        }
