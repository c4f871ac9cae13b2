-- What a site reports is the bag of the slot's first Known record, which stays.
use Rattle.std.proofs.Common.{◌≡◌, ◌⊎◌, inl, inr, ℕ, Bool, true, List, [], ◌∷◌, ◌++◌}
use Rattle.std.proofs.Common.{Option, Some, None, is_some, ◌||◌, Result, Ok, Err, refl, sym}
use Rattle.std.specs.Option.{option_to_list}
use Rattle.std.specs.Prelude.{IfOk}
use Rattle.std.proofs.lemmas.List.{append-nil}
use Rattle.std.proofs.lemmas.Bool.{cond_both}
use Rattle.fed_types.specs.declared.bag_id.BagId.{BagId}
use Rattle.fed_types.specs.Lists.{Has}
use Rattle.fed_types.specs.Laws.Lists.{has_cases, has_none, has_one}
use Rattle.fed_types.specs.Laws.Slots.{same_slot_decides}
use Rattle.fed_types.specs.Ballots.{BallotNumber}
use Rattle.fed_types.specs.Quorums.{QuorumSystem, quorums_of}
use Rattle.fed_types.specs.Slots.{SlotName}
use Rattle.bag_check.specs.declared.fault.BagFault.{BagFault}
use Rattle.records.specs.declared.record.Record.{Record}
use Rattle.records.specs.declared.entry.Entry.TheVariants as entry
use Rattle.records.specs.SlotStates.{known_of, deposit_of, known_in, said_in, with_one}
use Rattle.records.specs.SlotStates.{earlier, vote_of}
use Rattle.records.proofs.SlotStates.{known-push}
use Rattle.dgram.specs.declared.body.Body.{Body}
use Rattle.dgram.specs.declared.body.Body.TheVariants as bodies
use Rattle.dgram.specs.declared.message.Message.{Message}
use Rattle.dgram.specs.Encoding.{body_from}
use Rattle.proposer.specs.Proposals.{ready, next_ballot}
use Rattle.proposer.specs.VolatileStates.{VolatileState, hears}
use Rattle.learner.specs.LearnedBags.{unless_known, chosen_by, with_vote}
use Rattle.cell_device.specs.Devices.{Device}
use Rattle.site.specs.declared.answer.Answer.{Answer}
use Rattle.site.specs.declared.answer.Line.{Line}
use Rattle.site.specs.declared.fault.SiteFault.{SiteFault}
use Rattle.site.specs.Answered.{IsAnswered, Keeps, SaysWhatIsKnown}
use Rattle.site.specs.Sites.{OpenSite, effect}
use Rattle.site.specs.Arrivals.{on_arrival, on_body, learning, proposing, telling, is_member}
use Rattle.site.specs.Calls.{Input, Deposits, Proposes, Recovers, Asks, Arrives, effect_of}
use Rattle.site.specs.Calls.{on_deposit, on_propose, on_recover, on_ask, begins_next, recovers_if}
use Rattle.site.specs.Calls.{registering, deposit_fault, other_than, begins_ballot_if, reply_by}
use Rattle.site.specs.Calls.{reply_of}
use Rattle.site.specs.declared.answer.Line.TheVariants as site_lines
use Rattle.site.specs.Effects.{Effect}
use Rattle.site.specs.Reported.{Answered, Kept, Lost, Act, Called, Queried, Report, line_report}
use Rattle.site.specs.Reported.{reply_report, records_after, report_of, reports_of, Agree}

-- a known bag stays, whatever is recorded
pub known_stays : (slot : SlotName) (bag : BagId) (records : List Record) (new : Option Record)
    → known_of slot records ≡ Some bag
    → known_of slot (records ++ option_to_list new) ≡ Some bag
known_stays slot bag records None e = rw append-nil e
known_stays slot bag records (Some r) e =
    rw (known-push slot records r, e) (stays (said_in known_in slot r))
  where
    stays : (o : Option BagId) → with_one earlier (Some bag) o ≡ Some bag
    stays None = refl
    stays (Some x) = refl

-- the first bag that is recorded as known is known
pub known_noted : (slot : SlotName) (bag : BagId) (records : List Record)
    → known_of slot records ≡ None
    → known_of slot (records ++ record { slot = slot; body = entry.Known bag } ∷ []) ≡ Some bag
known_noted slot bag records none =
    rw (
      known-push slot records (record { slot = slot; body = entry.Known bag }),
      none,
      (same_slot_decides slot slot).1 refl,
    )

-- what an effect reports is known once its record is kept
abbrev IsKnown : List Record → Effect → Type 0
IsKnown records e = (r : Report) → line_report e.says ≡ Some r
    → known_of r.slot (records ++ option_to_list e.commits) ≡ Some r.bag

module _ (q : QuorumSystem) (site : ℕ) (records : List Record) (volatile : VolatileState) where
  learned : (slot : SlotName) (known bag : Option BagId) → known_of slot records ≡ known
      → IsKnown records (learning slot (unless_known known bag) volatile)
  learned slot None (Some bag) e r is =
      let same : record { slot = slot; bag = bag } ≡ r = cc in
      rw (← same) (known_noted slot bag records e)
  learned slot known bag e r is = absurd (cc is)

  registered : (slot : SlotName) (own : Option BagId) (bag : BagId) (fault : Option SiteFault)
      → IsKnown records (registering slot own bag fault volatile)
  registered slot own bag (Some fault) r is = absurd (cc is)
  registered slot own bag None r is = absurd (cc is)

  deposited : (slot : SlotName) (checked : Result BagId BagFault)
      → IsKnown records (on_deposit records volatile slot checked)
  unfolding on_deposit
  deposited slot (Err fault) r is = absurd (cc is)
  deposited slot (Ok bag) r is =
      registered slot (deposit_of slot records) bag
      (deposit_fault (other_than bag (deposit_of slot records))
      (other_than bag (known_of slot records))) r is

  begun : (slot : SlotName) (next : Option BallotNumber)
      → IsKnown records (begins_next q slot next volatile)
  begun slot None r is = absurd (cc is)
  begun slot (Some ballot) r is = absurd (cc is)

  started : (slot : SlotName) (known own : Option BagId) (next : Option BallotNumber)
      → IsKnown records (begins_ballot_if q slot known own next volatile)
  started slot None (Some own) next r is = begun slot next r is
  started slot known own next r is = absurd (cc is)

  proposed : (slot : SlotName) → IsKnown records (on_propose q site records volatile slot)
  unfolding on_propose
  proposed slot = started slot (known_of slot records) (deposit_of slot records)
      (next_ballot site slot records volatile.heard)

  restarted : (slot : SlotName) (known : Option BagId) (has : Bool) (next : Option BallotNumber)
      → IsKnown records (recovers_if q slot known has next volatile)
  restarted slot None true next r is = begun slot next r is
  restarted slot known has next r is = absurd (cc is)

  recovered : (slot : SlotName) → IsKnown records (on_recover q site records volatile slot)
  unfolding on_recover
  recovered slot = restarted slot (known_of slot records)
      (is_some (vote_of slot records) || is_some (deposit_of slot records))
      (next_ballot site slot records volatile.heard)

  asked : (slot : SlotName) (member : ℕ) → IsKnown records (on_ask site volatile slot member)
  unfolding on_ask
  asked slot member r is = absurd (cc is)

  proposal : (slot : SlotName) (ballot : BallotNumber) (bag : Option BagId)
      → IsKnown records (proposing q slot ballot bag volatile)
  proposal slot ballot None r is = absurd (cc is)
  proposal slot ballot (Some bag) r is = absurd (cc is)

  told : (slot : SlotName) (asker : ℕ) (bag : Option BagId)
      → IsKnown records (telling site slot asker bag volatile)
  told slot asker None r is = absurd (cc is)
  told slot asker (Some bag) r is = absurd (cc is)

  -- `volatile` has heard the message, and `old` is the one before it
  heard : (old : VolatileState) (slot : SlotName) (body : Body)
      → IsKnown records (on_body q site records old volatile slot body)
  unfolding on_body
  heard old slot (bodies.Promise from ballot prior) r is =
      proposal slot ballot
      (ready q (deposit_of slot records) slot (old.current slot) old.heard ballot
      (record { site = from; prior = prior })) r is
  heard old slot (bodies.Accepted from vote) r is =
      learned slot (known_of slot records)
      (chosen_by q slot (with_vote old.heard slot from vote) vote) refl r is
  heard old slot (bodies.Known from bag) r is =
      learned slot (known_of slot records) (Some bag) refl r is
  heard old slot (bodies.Ask from) r is = told slot from (known_of slot records) r is
  heard old slot body r is = absurd (cc is)

module _ (q : QuorumSystem) (site : ℕ) where
  arrived : (records : List Record) (volatile : VolatileState) (message : Option Message)
      → IsKnown records (on_arrival q site records volatile message)
  unfolding on_arrival
  arrived records volatile None = λ r is. absurd (cc is)
  arrived records volatile (Some m) =
      cond_both (is_member q (body_from m.body)) _ _ (IsKnown records)
      (λ e. heard q site records (hears volatile m) volatile m.slot m.body)
      (λ e r is. absurd (cc is))

  pub answered : (records : List Record) (volatile : VolatileState) (input : Input)
      → IsKnown records (effect_of q site records volatile input)
  answered records volatile (Deposits slot checked) = deposited q site records volatile slot checked
  answered records volatile (Proposes slot) = proposed q site records volatile slot
  answered records volatile (Recovers slot) = recovered q site records volatile slot
  answered records volatile (Asks slot member) = asked q site records volatile slot member
  answered records volatile (Arrives message) = arrived records volatile message

  -- what a query reports is known
  queried : (slot : SlotName) (records : List Record) (known own : Option BagId)
      → known_of slot records ≡ known → (r : Report)
      → reply_report slot (reply_by known own) ≡ Some r → known_of r.slot records ≡ Some r.bag
  queried slot records (Some bag) own e r is =
      let same : record { slot = slot; bag = bag } ≡ r = cc in rw (← same) e
  queried slot records None (Some own) e r is = absurd (cc is)
  queried slot records None None e r is = absurd (cc is)

  -- what an act reports is known after it
  pub reported : (records : List Record) (act : Act) (r : Report)
      → report_of q site records act ≡ Some r
      → known_of r.slot (records_after q site records act) ≡ Some r.bag
  unfolding report_of records_after reply_of
  reported records (Called volatile input Answered) r is = answered records volatile input r is
  reported records (Called volatile input _) r is = absurd (cc is)
  reported records (Queried slot) r is =
      queried slot records (known_of slot records) (deposit_of slot records) refl r is

  -- what is known stays so after an act
  stays_after : (slot : SlotName) (bag : BagId) (records : List Record) (act : Act)
      → known_of slot records ≡ Some bag
      → known_of slot (records_after q site records act) ≡ Some bag
  unfolding records_after
  stays_after slot bag records (Called volatile input Answered) e =
      known_stays slot bag records (effect_of q site records volatile input).commits e
  stays_after slot bag records (Called volatile input Kept) e =
      known_stays slot bag records (effect_of q site records volatile input).commits e
  stays_after slot bag records (Called volatile input Lost) e = e
  stays_after slot bag records (Queried other) e = e

  -- where a bag is known, each report of its slot names it
  names_known : (slot : SlotName) (bag : BagId) (acts : List Act) (records : List Record)
      → known_of slot records ≡ Some bag → (r : Report) → Has r (reports_of q site records acts)
      → r.slot ≡ slot → r.bag ≡ bag
  unfolding reports_of
  names_known slot bag [] records e r has is = absurd (has_none has)
  names_known slot bag (act ∷ acts) records e r has is =
      go (λ h. names_known slot bag acts _ (stays_after slot bag records act e) r h is)
      (report_of q site records act) refl (has_cases _ _ has)
    where
      go : (Has r (reports_of q site (records_after q site records act) acts) → r.bag ≡ bag)
          → (o : Option Report) → report_of q site records act ≡ o
          → Has r (option_to_list o)
          ⊎ Has r (reports_of q site (records_after q site records act) acts)
          → r.bag ≡ bag
      go later None f (inl h) = absurd (has_none h)
      go later (Some x) f (inl h) =
          cc (
            reported records act r (cc (f, has_one h)),
            stays_after slot bag records act e,
          )
      go later o f (inr h) = later h

  pub reports_agree : (acts : List Act) (records : List Record)
      → Agree (reports_of q site records acts)
  unfolding reports_of
  reports_agree [] records r s hr hs e = absurd (has_none hr)
  reports_agree (act ∷ acts) records r s hr hs e =
      go (λ a b. reports_agree acts (records_after q site records act) r s a b e)
      (report_of q site records act) refl (has_cases _ _ hr) (has_cases _ _ hs)
    where
      known : (x y : Report) → report_of q site records act ≡ Some x → x ≡ y
          → known_of y.slot (records_after q site records act) ≡ Some y.bag
      known x y is same = reported records act y (cc)

      go : (Has r (reports_of q site (records_after q site records act) acts)
          → Has s (reports_of q site (records_after q site records act) acts) → r.bag ≡ s.bag)
          → (o : Option Report) → report_of q site records act ≡ o
          → Has r (option_to_list o) ⊎ Has r
          (reports_of q site (records_after q site records act) acts)
          → Has s (option_to_list o) ⊎ Has s
          (reports_of q site (records_after q site records act) acts) → r.bag ≡ s.bag
      go later None is (inl a) b = absurd (has_none a)
      go later None is (inr a) (inl b) = absurd (has_none b)
      go later None is (inr a) (inr b) = later a b
      go later (Some x) is (inl a) (inl b) = cc (has_one a, has_one b)
      go later (Some x) is (inl a) (inr b) =
          sym (names_known r.slot r.bag acts (records_after q site records act)
          (known x r is (has_one a)) s b (sym e))
      go later (Some x) is (inr a) (inl b) =
          names_known s.slot s.bag acts (records_after q site records act)
          (known x s is (has_one b)) r a e
      go later (Some x) is (inr a) (inr b) = later a b

  -- the records only grow
  pub records_grow : (records : List Record) (act : Act)
      → (more : List Record) × (records_after q site records act ≡ records ++ more)
  unfolding records_after
  records_grow records (Called volatile input Answered) =
      (option_to_list (effect_of q site records volatile input).commits, refl)
  records_grow records (Called volatile input Kept) =
      (option_to_list (effect_of q site records volatile input).commits, refl)
  records_grow records (Called volatile input Lost) = ([], sym (append-nil records))
  records_grow records (Queried slot) = ([], sym (append-nil records))

-- what a call that is answered reports is known then
module _ {C : Type 0} (device : C → Device) (old new : OpenSite C) (volatile : VolatileState)
    (input : Input) (a : Answer)
    (answer : IsAnswered device old new volatile (effect old volatile input) (Ok a)) where
  grown : (commits : Option Record) → Keeps device commits (Ok a) old.book new.book
      → new.book.records ≡ old.book.records ++ option_to_list commits
  grown None keeps = cc (keeps, append-nil old.book.records)
  grown (Some r) (inl (memory, same)) = absurd (cc memory)
  grown (Some r) (inr commits) = commits.committed.0

  line_is_known : (slot : SlotName) (bag : BagId) → a.line ≡ Some (site_lines.Known slot bag)
      → known_of slot new.book.records ≡ Some bag
  line_is_known slot bag line = rw (grown (effect old volatile input).commits answer.keeps)
      (answered (quorums_of old.book.owner.members) old.book.owner.site old.book.records volatile
      input (record { slot = slot; bag = bag }) (rw (answer.gives.0, line)))

  pub says_what_is_known : SaysWhatIsKnown a.line new.book.records
  says_what_is_known = go a.line refl
    where
      go : (l : Option Line) → a.line ≡ l → SaysWhatIsKnown l new.book.records
      go (Some (site_lines.Known slot bag)) is = line_is_known slot bag is
      go _ is = tt

-- and so it is of each result
pub reported_of : {C : Type 0} (device : C → Device) (old new : OpenSite C)
    (volatile : VolatileState)
    (input : Input) (result : Result Answer SiteFault)
    → IsAnswered device old new volatile (effect old volatile input) result
    → IfOk result (λ a. SaysWhatIsKnown a.line new.book.records)
reported_of device old new volatile input (Ok a) answer =
    says_what_is_known device old new volatile input a answer
reported_of device old new volatile input (Err fault) answer = tt
