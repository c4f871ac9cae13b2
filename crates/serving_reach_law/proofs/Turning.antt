-- Each event of such a network, in which nothing fails, is brought about by a turn of a member in
-- which nothing fails, or by its start, or by nothing.
use Rattle.std.proofs.Common.{ℕ, ◌-◌, ◌≡◌, ◌⊎◌, inl, inr, refl, sym, ap, ◌∙◌, Bool, true, false}
use Rattle.std.proofs.Common.{◌||◌, List, [], ◌∷◌, ◌++◌, append-nil, length, take, drop, Option}
use Rattle.std.proofs.Common.{None, Some}
use Rattle.std.specs.Prelude.{Result, Ok, Err, is_some, slice_get, ◌==◌, not}
use Rattle.std.specs.List.{filter}
use Rattle.std.specs.Option.{option_to_list}
use Rattle.std.proofs.Math.Seq.{take-length}
use Rattle.std.proofs.lemmas.Bool.{both_ways, ne_eqb}
use Rattle.fed_types.specs.declared.bag_id.BagId.{BagId}
use Rattle.fed_types.specs.Ballots.{BallotNumber}
use Rattle.fed_types.specs.Lists.{Has, here, there}
use Rattle.fed_types.specs.Quorums.{QuorumSystem, quorums_of}
use Rattle.fed_types.specs.Sites.{Membership, members_of}
use Rattle.fed_types.specs.Slots.{SlotName}
use Rattle.fed_types.specs.Values.{IsSlot, IsMembership}
use Rattle.fed_types.specs.Laws.Lists.{has_none, has_one, has_left, has_right, has_drop}
use Rattle.fed_types.specs.Laws.Lists.{is_in_decides}
use Rattle.cell_device.specs.Devices.{Device}
use Rattle.records.specs.declared.record.Record.{Record}
use Rattle.records.specs.SlotStates.{vote_of, deposit_of, known_of}
use Rattle.records.proofs.OneReading.{same_records_said}
use Rattle.book.specs.OpenBooks.{OpenBook}
use Rattle.dgram.specs.declared.body.Body.{Body}
use Rattle.dgram.specs.declared.body.Body.TheVariants.{Ask, Query, Recover}
use Rattle.dgram.specs.declared.message.Message.{Message}
use Rattle.dgram.specs.Encoding.{datagram_of}
use Rattle.dgram.specs.Messages.{IsMessage}
use Rattle.dgram.proofs.MessageOf.{message_of-again}
use Rattle.proposer.specs.Proposals.{next_ballot}
use Rattle.proposer.specs.VolatileStates.{VolatileState, new_volatile}
use Rattle.schedule.specs.declared.fate.Fate.TheVariants.{Whole}
use Rattle.site.specs.declared.answer.Answer.{Answer}
use Rattle.site.specs.declared.answer.Line.{Line}
use Rattle.site.specs.declared.fault.SiteFault.{SiteFault}
use Rattle.site.specs.declared.fault.SiteFault.TheVariants as faults
use Rattle.site.specs.Answered.{IsAnswered, Keeps}
use Rattle.site.specs.Calls.{Input, Recovers, Asks, Arrives, effect_of, recovers_if, on_recover}
use Rattle.site.specs.Calls.{on_ask, begins_ballot, reply_by, reply_of}
use Rattle.site.specs.Effects.{Effect, Send, refuses, to_each, commits_and_sends}
use Rattle.site.specs.Sites.{OpenSite, effect}
use Rattle.lines.specs.declared.notice.Notice.{Notice}
use Rattle.lines.specs.declared.notice.Notice.TheVariants.{Refused}
use Rattle.world_law.specs.Networks.{Network, Event, Up, starts, takes, happens}
use Rattle.world_law.specs.Networks as networks
use Rattle.world_law.proofs.WellFormed.{members_are_sites}
use Rattle.world_law.proofs.WellFormedCalls.{IsWellFormedInput, effect_is}
use Rattle.world_law.proofs.WellFormedEffects.{IsWellFormedEffect}
use Rattle.reach_law.specs.Reach as reach
use Rattle.reach_law.specs.Running.{AreMembers, records_at}
use Rattle.reach_law.proofs.Leads.{went, IsBrought}
use Rattle.udp_site.specs.Traffic.{Post, Taken, From}
use Rattle.udp_site.specs.Requests as requests
use Rattle.udp_site.specs.Requests.{Request, request_of, request_in}
use Rattle.udp_site.specs.Served.{text_of, or_one}
use Rattle.udp_site.specs.Turns.{Serving, Done, IsCalled, begins, comes_of, posts_of, posts_to}
use Rattle.udp_site.specs.Turns.{notices_of, recovery_notices, asked, answer_to, others}
use Rattle.udp_site.specs.Turns as turns
use Rattle.serving_law.specs.Federations.{Member, Serves, Down, Federation, Step, Happening, Turns}
use Rattle.serving_law.specs.Federations.{Starts, after}
use Rattle.serving_law.specs.Rules.{owner_of, MayCome, Takes, May}
use Rattle.serving_law.proofs.Networks.{IsServed}
use Rattle.serving_law.proofs.Scene.{OnlyNow}
use Rattle.serving_law.proofs.Spoken.{IsSiteBody, effect_speaks}
use Rattle.serving_reach_law.specs.Acts as acts
use Rattle.serving_reach_law.specs.Acts.{Act, IsFor, Comes, MayDo, GoesWell, Does}
use Rattle.serving_reach_law.specs.Reach.{HavePorts, site_of}
use Rattle.serving_reach_law.proofs.Bytes.{query_is_bytes, recover_is_bytes, handed_is_bytes}
use Rattle.serving_reach_law.proofs.Moving.{a_site, Mirrors, Out, moves, moves_not, takes_nothing}
use Rattle.serving_reach_law.proofs.Moving.{takes_up}
use Rattle.serving_reach_law.proofs.Reached.{Reached}
use Rattle.serving_reach_law.proofs.Says.{arrival_plain}
use Rattle.serving_reach_law.proofs.Words.{drop_right, filter_has, some_number, post_has}
use Rattle.serving_reach_law.proofs.Words.{sent_is_posted, sent_has, site_says}

-- a call says this
abbrev said : Option Line → Result (Option Line) SiteFault
said line = Ok line

-- after an answer the book has the call's record
records_after : {C : Type 0} (device : C → Device) (o : Option Record) (answer : Answer)
    (old new : OpenBook C) → Keeps device o (Ok answer) old new
    → new.records ≡ old.records ++ option_to_list o
records_after device None answer old new e = rw (e, append-nil)
records_after device (Some r) answer old new (inl p) = absurd (cc p.0)
records_after device (Some r) answer old new (inr c) = c.committed.0

-- a message is among what a turn hands out
record Posted (members : Membership) (addresses : List ℕ) (posts : List Post) (d : Send) : Type 0
  where
    is : IsMessage d.message
    speaks : IsSiteBody d.message.body
    posted : Has d.to (members_of members)
        → IsFor members addresses posts d.to (datagram_of members.federation d.message)

-- what a recovery comes to: a ballot, or a refusal
recover_cases : (q : QuorumSystem) (slot : SlotName) (known : Option BagId) (has : Bool)
    (next : Option BallotNumber) (volatile : VolatileState)
    → ((b : BallotNumber)
    × (recovers_if q slot known has next volatile ≡ begins_ballot q slot b volatile))
    ⊎ ((fault : SiteFault)
    × (recovers_if q slot known has next volatile ≡ refuses fault volatile))
recover_cases q slot (Some bag) has next volatile = inr (faults.AlreadyKnown, refl)
recover_cases q slot None false next volatile = inr (faults.NothingToRecover, refl)
recover_cases q slot None true None volatile = inr (faults.RoundsSpent, refl)
recover_cases q slot None true (Some b) volatile = inl (b, refl)

module _ {C : Type 0} (device : C → Device) (members : Membership)
    (is_membership : IsMembership members) (only_now : OnlyNow device) (addresses : List ℕ)
    (have_ports : HavePorts members addresses) (running : List ℕ)
    (are_members : AreMembers (quorums_of members) running) (slot : SlotName)
    (is_slot : IsSlot slot) (before : ℕ) (since : Network)
  where
    abbrev q : QuorumSystem
    q = quorums_of members

    abbrev pub Mirror : Federation C → Network → Type 0
    Mirror f w = Mirrors members addresses before f w

    abbrev pub At : Federation C → Type 0
    At f = Reached device members is_membership only_now since f

    -- nothing has to be done, or this, in whichever way
    abbrev pub Replayed : Federation C → Network → Type 0
    Replayed f w =
        Mirror f w
        ⊎ ((act : Act) × MayDo members addresses running slot before f act
        × ((h : Happening C) → May device members f h → Does addresses act h → Mirror (after f h)
        w))

    -- a whole turn
    abbrev whole : ℕ → Step C → Happening C
    whole n s = Turns n s (length s.turn.done.posts) (length (text_of s.turn))

    module _ (f : Federation C) (r : At f) (w : Network) (m : Mirror f w) (n : ℕ)
        (runs : Has n running) where
      member : Has n (members_of members)
      member = are_members n runs

      -- ---- a member that serves takes a turn

      module _ (old : Serving C) (serves : f.members n ≡ Serves old) where
        served : IsServed device members n old (r.w.sites n)
        served = rw serves at (r.stands.is n)

        abbrev records : List Record
        records = old.site.book.records

        is_here : w.sites n ≡ a_site records (Up old.volatile)
        is_here = m.sites n ∙ ap site_of serves

        abbrev effect_at : Input → Effect
        effect_at input = effect_of q n records old.volatile input

        same_effect : (input : Input) → effect old.site old.volatile input ≡ effect_at input
        same_effect input = rw served.whose

        formed : (input : Input) → IsWellFormedInput input → IsWellFormedEffect (effect_at input)
        formed input is =
            effect_is q (members_are_sites members is_membership) n
            (members_are_sites members is_membership n member) records
            (rw served.records (r.stands.formed.records n)) old.volatile
            (rw served.volatile (r.stands.formed.heard n)) input is

        -- where the definitions answer, and neither memory nor the device fails, the call does
        answer_is : (input : Input) (line : Option Line) (result : Result Answer SiteFault)
            (new : Serving C) → IsCalled device old input result new
            → (effect_at input).says ≡ said line → (result ≡ Err faults.Memory → ⊥)
            → (result ≡ Err faults.Device → ⊥) → (answer : Answer) × (result ≡ Ok answer)
        answer_is input line (Ok answer) new c says memory cell = (answer, refl)
        answer_is input line (Err faults.Memory) new c says memory cell = absurd (memory refl)
        answer_is input line (Err faults.Device) new c says memory cell = absurd (cell refl)
        answer_is input line (Err faults.NeedsOpen) new c says memory cell =
            absurd (c.answered served.opened).gives
        answer_is input line (Err fault) new c says memory cell =
            absurd (cc ((c.answered served.opened).gives.0, same_effect input, says))

        -- it takes this in, in a turn that goes well
        record TakesWell (took : Taken) (s : Step C) : Type 0 where
          took_is : s.turn.took ≡ took
          ports_are : s.addresses ≡ addresses
          takes : Takes device members f old s
          well : GoesWell s.turn

        module _ (took : Taken) (s : Step C) (t : TakesWell took s) where
          what_comes : (k : Request) → request_of members.federation took ≡ k
              → comes_of device addresses (Some s.folders) old k s.turn.done s.next
          what_comes k asks =
              let asks_there : request_of (turns.members old).federation took ≡ k =
              rw served.whose asks in
              rw (t.ports_are, t.took_is, asks_there) at t.takes.comes

          -- its site moves in the federation as in the network
          turned : (kept : List Record) (volatile : VolatileState) (sends : List Send)
              → s.next.site.book.records ≡ kept → s.next.volatile ≡ volatile
              → ((d : Send) → Has d sends → Posted members addresses s.turn.done.posts d)
              → Mirror (after f (whole n s)) (went w n kept (Up volatile) sends)
          turned kept volatile sends same_records same_volatile posted =
              moves members addresses before f w m n (Serves s.next)
              (take (length s.turn.done.posts) s.turn.done.posts) kept (Up volatile) sends
              (rw (same_records, same_volatile))
              (λ d h.
              let p = posted d h in
              record {
                is = p.is;
                speaks = p.speaks;
                handed = λ to.
                    let post = p.posted to in (
                      post.0,
                      post.1,
                      drop_right before f.handed
                          (take (length s.turn.done.posts) s.turn.done.posts) m.within
                          (rw (take-length s.turn.done.posts) post.2),
                    );
              })

          -- a call of the site, of which it says this
          module _ (input : Input) (says : Result Answer SiteFault → List Notice)
              (result : Result Answer SiteFault)
              (call : IsCalled device old input result s.next)
              (done_is : s.turn.done
              ≡ record { posts = posts_of addresses result; notices = says result })
              (memory_said : says (Err faults.Memory)
              ≡ Refused (turns.number old) faults.Memory ∷ [])
              (device_said : or_one (says (Err faults.Device)) ≡ true) where
            has_memory : result ≡ Err faults.Memory → ⊥
            has_memory e =
                t.well.has_memory (turns.number old) (rw (done_is, e, memory_said) (here refl))

            has_cell : result ≡ Err faults.Device → ⊥
            has_cell e = both_ways _ (rw (done_is, e) at t.well.not_the_last) device_said

            module _ (is : IsWellFormedInput input) (answer : Answer) (ok : result ≡ Ok answer)
              where
                answered_so : IsAnswered device old.site s.next.site old.volatile (effect_at input)
                    (Ok answer)
                answered_so = rw (ok, same_effect input) at (call.answered served.opened)

                sends_posted : (d : Send) → Has d (effect_at input).sends
                    → Posted members addresses s.turn.done.posts d
                sends_posted d h = record {
                  is = ((formed input is).sends d h).1;
                  speaks = effect_speaks q n records old.volatile input d h;
                  posted = λ to.
                      let p = some_number (slice_get addresses (d.to - 1)) (have_ports d.to to) in (
                        p.0,
                        p.1,
                        rw (done_is, ok)
                            (sent_is_posted members.federation addresses answer.sends.items
                            (effect_at input).sends (rw served.whose at answered_so.gives.1) d h
                            p.0 p.1),
                      );
                }

                moved_so : Mirror (after f (whole n s)) (takes q w n input Whole).network
                moved_so =
                    rw (takes_up members w n member input records old.volatile is_here
                    (effect_at input) refl)
                    (turned (records ++ option_to_list (effect_at input).commits)
                    (effect_at input).volatile (effect_at input).sends
                    (records_after device (effect_at input).commits answer old.site.book
                    s.next.site.book answered_so.keeps)
                    (rw (call.volatile, ok, same_effect input)) sends_posted)

            called_turn : IsWellFormedInput input → (line : Option Line)
                → (effect_at input).says ≡ said line
                → Mirror (after f (whole n s)) (takes q w n input Whole).network
            called_turn is line says_so =
                let a = answer_is input line result s.next call says_so has_memory has_cell in
                moved_so is a.0 a.1

        -- the event is brought about by any turn that takes this in and goes well
        module _ (took : Taken) (request : Request)
            (asked_so : request_of members.federation took ≡ request) (x : Network)
            (each : (s : Step C) → TakesWell took s
            → comes_of device addresses (Some s.folders) old request s.turn.done s.next
            → Mirror (after f (whole n s)) x) where
          done_by : (h : Happening C) → May device members f h → Does addresses (acts.Take n took) h
              → Mirror (after f h) x
          done_by (Turns k s handed written) (other, serving, takes, opened)
              (same, took_is, ports_are, well, all, text) =
              let same_old : other ≡ old = cc (same, serving.1, serves) in
              let t : TakesWell took s = record {
                took_is = took_is;
                ports_are = ports_are;
                takes = rw same_old at takes;
                well = well;
              } in
              rw (same, all) (each s t (what_comes took s t request asked_so))
          done_by _ may does = absurd does

          replayed_by : MayCome members f.handed took
              → Comes members addresses (drop before f.handed) n slot took → Replayed f x
          replayed_by may comes = inr (acts.Take n took, (runs, (old, serves), may, comes), done_by)

        -- a client asks it for something of the slot
        abbrev of_slot : Body → Message
        of_slot body = record { slot = slot; body = body }

        abbrev comes_as : Body → Taken
        comes_as body = From 0 (datagram_of members.federation (of_slot body))

        -- ---- a client has it recover the slot

        asks_recover : request_of members.federation (comes_as Recover) ≡ requests.Recovers slot
        asks_recover =
            ap (request_in 0) (message_of-again members.federation (of_slot Recover) (is_slot, tt))

        recovers_turn : (b : BallotNumber)
            → effect_at (Recovers slot) ≡ begins_ballot q slot b old.volatile
            → Replayed f (takes q w n (Recovers slot) Whole).network
        recovers_turn b e =
            replayed_by (comes_as Recover) (requests.Recovers slot) asks_recover _
            (λ s t done.
            called_turn (comes_as Recover) s t (Recovers slot)
            (recovery_notices (turns.number old) (Recovers slot)) done.0 done.1 done.3 refl refl
            is_slot None (rw e)) (
              recover_is_bytes members.federation slot is_slot,
              λ message says is.
                  absurd (cc (asks_recover, says)),
            )
            (rw asks_recover)

        recovers_now : Replayed f (takes q w n (Recovers slot) Whole).network
        unfolding on_recover
        recovers_now =
            elim (recover_cases q slot (known_of slot records)
            (is_some (vote_of slot records) || is_some (deposit_of slot records))
            (next_ballot n slot records old.volatile.heard) old.volatile) [
              | inl begun ↦ recovers_turn begun.0 begun.1
              | inr refused ↦
                  inl (rw (takes_up members w n member (Recovers slot) records old.volatile
                  is_here (refuses refused.0 old.volatile) refused.1)
                  (moves_not members addresses before f w m n records (Up old.volatile) is_here))
            ]

        -- ---- a client asks it for the slot's bag, and it asks the others

        asks_query : request_of members.federation (comes_as Query) ≡ requests.Queries 0 slot
        asks_query =
            ap (request_in 0) (message_of-again members.federation (of_slot Query) (is_slot, tt))

        asked_are : known_of slot records ≡ None → asked old (answer_to old slot)
            ≡ filter (λ (k : ℕ). not (k == n)) (members_of members)
        unfolding reply_of
        asked_are unknown =
            rw (served.opened, unknown, of_own (deposit_of slot records), served.whose)
          where
            of_own : (own : Option BagId) → asked old (Ok (reply_by None own)) ≡ others old
            of_own None = refl
            of_own (Some bag) = refl

        -- the question, as the turn says it
        abbrev question : List ℕ
        question =
            datagram_of (turns.members old).federation
            (record { slot = slot; body = Ask (turns.number old) })

        question_is : question
            ≡ datagram_of members.federation (record { slot = slot; body = Ask n })
        question_is = rw served.whose

        -- each that is asked is handed one, unless memory ran out
        asks_post : (all : List ℕ) (done : Done) → turns.Asks addresses old slot all done
            → (Has (Refused (turns.number old) faults.Memory) done.notices → ⊥)
            → (k : ℕ) → Has k all → (port : ℕ) → slice_get addresses (k - 1) ≡ Some port
            → Has (port, question) done.posts
        asks_post [] done t well k h port is = absurd (has_none h)
        asks_post (j ∷ all) done (rest, asks, inl e) well k (here same) port is =
            rw e (has_left rest.posts (post_has addresses j question port (rw same is)))
        asks_post (j ∷ all) done (rest, asks, inl e) well k (there h) port is =
            rw e (has_right (posts_to addresses j question)
            (asks_post all rest asks (λ i. well (rw e i)) k h port is))
        asks_post (j ∷ all) done (rest, asks, inr e) well k h port is =
            absurd (well (rw e (here refl)))

        module _ (k : ℕ) (to_runs : Has k running) (unknown : known_of slot records ≡ None)
            (other : n ≡ k → ⊥) where
          among : Has k (asked old (answer_to old slot))
          among =
              rw (asked_are unknown)
              (filter_has (λ (j : ℕ). not (j == n)) k (members_of members) (are_members k to_runs)
              (ap not (ne_eqb k n (λ e. other (sym e)))))

          posted_question : (s : Step C)
              → (Has (Refused (turns.number old) faults.Memory) s.turn.done.notices → ⊥)
              → turns.queries addresses old 0 slot s.turn.done s.next → (d : Send)
              → Has d (to_each slot (Ask n) (k ∷ [])) → Posted members addresses s.turn.done.posts d
          unfolding to_each
          posted_question s well (asks, asks_are, done_is, same) d h =
              rw (← has_one h) (record {
                is = (is_slot, members_are_sites members is_membership n member);
                speaks = tt;
                posted = λ to.
                    let p = some_number (slice_get addresses (k - 1)) (have_ports k to) in (
                      p.0,
                      p.1,
                      rw (← question_is, done_is)
                          (has_right
                          (turns.query_replies (turns.members old).federation (turns.number old) 0
                          slot (answer_to old slot))
                          (asks_post (asked old (answer_to old slot)) asks asks_are
                          (λ i. well (rw done_is (there i))) k among p.0 p.1)),
                    );
              })

          asks_now : Replayed f (takes q w n (Asks slot k) Whole).network
          unfolding on_ask
          asks_now =
              replayed_by (comes_as Query) (requests.Queries 0 slot) asks_query _
              (λ s t done.
              rw (takes_up members w n member (Asks slot k) records old.volatile is_here
              (commits_and_sends slot None (Ask n) (k ∷ []) old.volatile) refl)
              (turned (comes_as Query) s t (records ++ []) old.volatile
              (to_each slot (Ask n) (k ∷ [])) (rw (done.3, append-nil records)) (rw done.3)
              (posted_question s (t.well.has_memory (turns.number old)) done))) (
                query_is_bytes members.federation slot is_slot,
                λ message says is.
                    absurd (cc (asks_query, says)),
              )
              (rw asks_query)

        -- ---- a datagram comes

        module _ (d : Send) (sent : Has d w.sent) (to : d.to ≡ n) where
          out : Out members addresses before f d
          out = m.out d sent

          abbrev bytes : List ℕ
          bytes = datagram_of members.federation d.message

          handed_here : IsFor members addresses (drop before f.handed) n bytes
          handed_here = rw to at (out.handed (rw to member))

          asks_it : request_of members.federation (From 0 bytes) ≡ requests.Says d.message
          asks_it =
              ap (request_in 0) (message_of-again members.federation d.message out.is)
              ∙ site_says 0 d.message d.message.body out.speaks

          may_hear : MayCome members f.handed (From 0 bytes)
          may_hear =
              let handed = has_drop before f.handed handed_here.2 in (
                handed_is_bytes device members is_membership only_now since f r d.message out.is
                    out.speaks handed_here.0 handed,
                λ message e is. (handed_here.0, handed),
              )

          hears_now : Replayed f (takes q w n (Arrives (Some d.message)) Whole).network
          hears_now =
              let plain = arrival_plain q n records old.volatile d.message in
              replayed_by (From 0 bytes) (requests.Says d.message) asks_it _
              (λ s t done.
              called_turn (From 0 bytes) s t (Arrives (Some d.message))
              (notices_of (turns.number old) (Arrives (Some d.message))) done.0 done.1 done.2 refl
              refl out.is plain.line plain.says)
              may_hear (rw asks_it handed_here)

      -- ---- a member that is down

      module _ (records : List Record) (down : f.members n ≡ Down records) where
        is_down : w.sites n ≡ a_site records networks.Down
        is_down = m.sites n ∙ ap site_of down

        nothing_comes : (input : Input) → Replayed f (takes q w n input Whole).network
        nothing_comes input =
            inl (rw (takes_nothing members w n member input records is_down) m)

        -- what is opened has the records that the member left
        opened_with : (cell : C) (site : OpenSite C) → May device members f (Starts n cell site)
            → site.book.records ≡ records
        opened_with cell site (is_member, (left, was_down, reads), opens) =
            let same : left ≡ records = cc (was_down, down) in
            same_records_said (owner_of device members n) site.book.records left reads.image.seen
            (rw reads.told at opens.records) reads.says
            ∙ same

        opened_now : (networks.if_member q w n (starts w n (w.sites n).mode)).network
            ≡ went w n records (Up new_volatile) []
        opened_now = rw ((is_in_decides (members_of members) n).1 member, is_down, is_down)

        started_by : (h : Happening C) → May device members f h → Does addresses (acts.Start n) h
            → Mirror (after f h)
            (networks.if_member q w n (starts w n (w.sites n).mode)).network
        started_by (Starts k cell site) may same =
            rw (opened_now, same)
            (moves members addresses before f w m n (Serves (begins site new_volatile)) [] records
            (Up new_volatile) [] (rw (opened_with cell site (rw same at may)))
            (λ d h. absurd (has_none h)))
        started_by _ may does = absurd does

        starts_now : Replayed f (networks.if_member q w n (starts w n (w.sites n).mode)).network
        starts_now = inr (acts.Start n, (runs, (records, down)), started_by)

      -- ---- any member

      by_member : (x : Network) → ((old : Serving C) → f.members n ≡ Serves old → Replayed f x)
          → ((records : List Record) → f.members n ≡ Down records → Replayed f x) → Replayed f x
      by_member x serving down = go (f.members n) refl
        where
          go : (k : Member C) → f.members n ≡ k → Replayed f x
          go (Serves old) e = serving old e
          go (Down records) e = down records e

      recovers : Replayed f (takes q w n (Recovers slot) Whole).network
      recovers =
          by_member _ recovers_now
          (λ records down. nothing_comes records down (Recovers slot))

      asks : (k : ℕ) → Has k running → known_of slot (records_at w n) ≡ None → (n ≡ k → ⊥)
          → Replayed f (takes q w n (Asks slot k) Whole).network
      asks k to_runs unknown other =
          by_member _
          (λ old serves.
          asks_now old serves k to_runs (rw (records_at, is_here old serves) at unknown) other)
          (λ records down. nothing_comes records down (Asks slot k))

      hears : (d : Send) → Has d w.sent → d.to ≡ n
          → Replayed f (takes q w n (Arrives (Some d.message)) Whole).network
      hears d sent to =
          by_member _ (λ old serves. hears_now old serves d sent to)
          (λ records down. nothing_comes records down (Arrives (Some d.message)))

      is_started : Replayed f (networks.if_member q w n (starts w n (w.sites n).mode)).network
      is_started =
          by_member _
          (λ old serves.
          inl (rw ((is_in_decides (members_of members) n).1 member, is_here old serves) m))
          starts_now

    -- ---- any event

    pub replayed : (e : Event) (f : Federation C) → At f → (w : Network) → Mirror f w
        → reach.IsCalm running slot 0 w e → IsBrought slot w e → Replayed f (happens q w e).network
    unfolding happens
    replayed (networks.Start n) f r w m runs brought = is_started f r w m n runs
    replayed (networks.Recover n s fate) f r w m (runs, same, is_whole) brought =
        rw (same, is_whole) (recovers f r w m n runs)
    replayed (networks.Ask n k s fate) f r w m (runs, to_runs, same, is_whole) (unknown, other) =
        rw (same, is_whole) (asks f r w m n runs k to_runs unknown other)
    replayed (networks.Deliver number fate) f r w m (later, is_whole, (d, found, runs)) brought =
        rw (found, is_whole) (hears f r w m d.to runs d (sent_has number w.sent d found) refl)
    replayed (networks.Propose n s fate) f r w m is_calm brought = absurd brought
    replayed _ f r w m is_calm brought = absurd is_calm
