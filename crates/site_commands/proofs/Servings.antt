-- A process that serves, call by call.
use Rattle.std.proofs.Common.{◌≡◌, ℕ, ◌+◌, ◌%◌, refl, sym, ap, subst, ◌∙◌, inl, inr, Bool, true}
use Rattle.std.proofs.Common.{false}
use Rattle.std.proofs.Common.{List, [], ◌∷◌, ◌++◌, length, Option, Some, None, arith, length-append}
use Rattle.std.specs.Bool.{◌==◌}
use Rattle.std.specs.Prelude.{◌<◌, Result, Ok, Err, IsSome}
use Rattle.std.proofs.lemmas.Bool.{false≢true}
use Rattle.bag_tree.specs.declared.fault.TreeFault.{TreeFault}
use Rattle.bag_tree.specs.Facts.{TreeFacts}
use Rattle.fed_types.specs.Slots.{SlotName}
use Rattle.cell_device.specs.Devices.{Device}
use Rattle.book.specs.declared.waiting.Waiting.{Waiting}
use Rattle.book.specs.Batches.{BatchCell}
use Rattle.records.specs.declared.record.Record.{Record}
use Rattle.proposer.specs.VolatileStates.{VolatileState}
use Rattle.site.specs.declared.answer.Answer.{Answer}
use Rattle.site.specs.declared.fault.SiteFault.{SiteFault}
use Rattle.site.specs.declared.fault.SiteFault.TheVariants as sites
use Rattle.site.specs.Answered.{IsAnswered, Keeps}
use Rattle.site.specs.Batches.{no_cell}
use Rattle.site.specs.Calls as calls
use Rattle.site.specs.Calls.{Input}
use Rattle.site.specs.Effects.{Effect}
use Rattle.site.specs.Sites.{OpenSite, Represents, effect}
use Rattle.outcomes.specs.declared.fault.ProgramFault.{ProgramFault}
use Rattle.udp_site.specs.declared.fault.ServeFault.{ServeFault}
use Rattle.udp_site.specs.declared.fault.ServeFault.TheVariants as faults
use Rattle.udp_site.specs.Requests.{Request, Waits, Says, Deposits, Queries, Recovers, Noise}
use Rattle.udp_site.specs.Requests.{request_of}
use Rattle.udp_site.specs.Rounds.{next_waiting}
use Rattle.udp_site.specs.Turns as turns
use Rattle.udp_site.specs.Turns.{Serving, Done, IsServing, IsCalled, begins, turn_of, comes_of}
use Rattle.udp_site.specs.Turns.{idles_if, proposes, slot_of, takes_tree, one_more_idle, tries}
use Rattle.udp_site.specs.Turns.{volatile_after}
use Rattle.udp_site.specs.Served.{Rule, Turned, Outside}
use Rattle.udp_site.specs.BatchTurns.{Batch, Batching, Follow, Lead, ServesBatches, begins_with}
use Rattle.site_commands.specs.declared.site_arguments.Turns.{Turns}
use Rattle.site_commands.specs.declared.site_arguments.Turns.TheVariants as how
use Rattle.site_commands.specs.Services.{GoesOn, ServesOn, ServedBy, IsConcluded, stopped}
use Rattle.site_commands.specs.Services.{turns_in, most_calls, goes_on_from}
use Rattle.site_client.specs.Answers.{IsTold}

-- ---- a site that represents what it has heard does so after its turns

not_memory : ◌≡◌ {A = Result Answer SiteFault} (Err sites.Device) (Err sites.Memory) → ⊥
not_memory e = cc

module _ {C : Type 0} (device : C → Device) where
  -- a device that failed leaves a site that needs opening
  needs_opening_then : (old new : OpenSite C) (r : Option Record) → IsSome r
      → Keeps device r (Err sites.Device) old.book new.book → new.book.needs_opening ≡ true
  needs_opening_then old new None is kept = absurd (cc is)
  needs_opening_then old new (Some r) is (inl unchanged) = absurd (not_memory unchanged.0)
  needs_opening_then old new (Some r) is (inr commits) = (commits.device_failed refl).1

  answered_stands : (old new : OpenSite C) (volatile : VolatileState) (e : Effect)
      (result : Result Answer SiteFault) → IsAnswered device old new volatile e result
      → new.book.needs_opening ≡ false → Represents new (volatile_after e volatile result)
  answered_stands old new volatile e (Ok answer) a opened = a.gives.2
  answered_stands old new volatile e (Err sites.Memory) a opened = a.gives
  answered_stands old new volatile e (Err sites.Device) a opened =
      absurd (false≢true (sym opened ∙ needs_opening_then old new e.commits a.gives a.keeps))
  answered_stands old new volatile e (Err sites.NeedsOpen) a opened = absurd a.gives
  answered_stands old new volatile e (Err fault) a opened = a.gives.1

  called_stands : (old new : Serving C) (input : Input) (result : Result Answer SiteFault)
      → IsCalled device old input result new → IsServing new
  called_stands old new input result c opened = go old.site.book.needs_opening refl
    where
      go : (shut : Bool) → old.site.book.needs_opening ≡ shut → Represents new.site new.volatile
      go true shut =
          absurd (false≢true (sym opened
          ∙ ap (λ (s : OpenSite C). s.book.needs_opening) (c.refused shut).1 ∙ shut))
      go false before =
          subst (λ (v : VolatileState). Represents new.site v) (sym c.volatile)
          (answered_stands old.site new.site old.volatile
          (effect old.site old.volatile input) result (c.answered before) opened)

  module _ (addresses : List ℕ) (gives : Option (List ℕ → Result TreeFacts TreeFault))
      (old new : Serving C) (done : Done) (serves : IsServing old) where
    same : (s : Serving C) → IsServing s → new ≡ s → IsServing new
    same s is e = subst (λ (s : Serving C). IsServing s) (sym e) is

    proposed : (s : Serving C) → IsServing s → (place : Option ℕ) (slot : Option SlotName)
        → proposes device addresses s place slot done new → IsServing new
    proposed s is None None (done_is, e) = same s is e
    proposed s is None (Some slot) (done_is, e) = same s is e
    proposed s is (Some place) None (done_is, e) = same s is e
    proposed s is (Some place) (Some slot) (result, c, refuses, done_is) =
        called_stands (tries s place) new (calls.Proposes slot) result c

    idled : (t : Bool) → idles_if t device addresses (one_more_idle old) done new → IsServing new
    idled true t =
        proposed (one_more_idle old) serves
        (next_waiting old.site.book.records old.tried)
        (slot_of old.site.book.records (next_waiting old.site.book.records old.tried)) t
    idled false (done_is, e) = same (one_more_idle old) serves e

    treed : (port : ℕ) (slot : SlotName) (read : Result TreeFacts TreeFault)
        → takes_tree device old port slot read done new → IsServing new
    treed port slot (Err fault) (done_is, e) = same old serves e
    treed port slot (Ok facts) (result, c, done_is) =
        called_stands old new _ result c

    came : (r : Request) → comes_of device addresses gives old r done new → IsServing new
    came Waits t = idled ((old.idle + 1) % turns.number old == 0) t
    came (Says message) (result, c, done_is) =
        called_stands old new (calls.Arrives (Some message)) result c
    came (Deposits port slot path) (read, given, tree) = treed port slot read tree
    came (Queries port slot) (asks, a, done_is, e) = same old serves e
    came (Recovers slot) (result, c, refuses, done_is) =
        called_stands old new (calls.Recovers slot) result c
    came Noise (done_is, e) = same old serves e

-- ---- and after its batches

module _ (addresses : List ℕ) (gives : Option (List ℕ → Result TreeFacts TreeFault)) where
  abbrev rule : Rule Waiting
  rule = turn_of no_cell addresses gives

  followed_stands : (those : List Turned) (start end : Serving Waiting) → IsServing start
      → Follow rule start those end → IsServing end
  followed_stands [] start end serves follow =
      subst (λ (s : Serving Waiting). IsServing s) follow serves
  followed_stands (turn ∷ those) start end serves (next, came_so, follow) =
      followed_stands those next end
      (came no_cell addresses gives start next turn.done serves
      (request_of (turns.members start).federation turn.took) came_so) follow

  pub led_stands : {C : Type 0} (device : C → Device) (those : List Batch)
      (start end : Batching C) → IsServing start.serving → Lead device rule start those end
      → IsServing end.serving
  led_stands {C} device [] start end serves leads =
      subst (λ (b : Batching C). IsServing b.serving) leads serves
  led_stands device (batch ∷ those) start end serves (next, batches, leads) =
      led_stands device those next end
      (followed_stands batch.turns start.serving next.serving serves batches.follow) leads

-- ---- one call after another

module _ {C : Type 0} (device : C → Device) (rule : Rule Waiting) (wanted : ℕ) where
  goes_on_more : (before mid after : Outside) (start here end : Batching C)
      (calls : List (List Batch)) (batches : List Batch)
      → GoesOn device rule wanted before mid start here calls
      → ServesBatches device rule mid after here end wanted batches (Ok tt)
      → GoesOn device rule wanted before after start (goes_on_from end) (calls ++ batches ∷ [])
  goes_on_more before mid after start here end [] batches (same, still) serves = (
    end,
    after,
    subst (λ (o : Outside). ServesBatches device rule o after start end wanted batches (Ok tt))
        still
        (subst (λ (b : Batching C). ServesBatches device rule mid after b end wanted batches
        (Ok tt))
        same serves),
    (refl, refl),
  )
  goes_on_more before mid after start here end (first ∷ calls) batches
      (next, between, first_so, goes_on) serves = (
        next,
        between,
        first_so,
        goes_on_more between mid after (goes_on_from next) here end calls batches goes_on serves,
      )

  -- what was served so far, by so many calls: the site and its cell are these now, and go on in
  -- this state
  pub record SoFar (before now : Outside) (start : Batching C) (site : OpenSite Waiting)
      (held : BatchCell C) (count : ℕ) : Type 0 where
    pub volatile : VolatileState
    pub calls : List (List Batch)
    pub counted : length calls ≡ count
    pub serving : IsServing (begins site volatile)
    pub goes_on : GoesOn device rule wanted before now start (begins_with site held volatile) calls

  pub none_yet : (before : Outside) (site : OpenSite Waiting) (held : BatchCell C)
      (volatile : VolatileState) → IsServing (begins site volatile)
      → SoFar before before (begins_with site held volatile) site held 0
  none_yet before site held volatile serving = record {
    volatile = volatile;
    calls = [];
    counted = refl;
    serving = serving;
    goes_on = (refl, refl);
  }

  -- how a call of `serve_batches` ends
  abbrev pub CallEnds : (before after : Outside) → (start : Batching C) → OpenSite Waiting
      → BatchCell C → Result (Unit {0}) ServeFault → Type 0
  CallEnds before after start site held result =
      (end : Batching C) × (done : List Batch) × (end.serving.site ≡ site) × (end.held ≡ held)
      × ServesBatches device rule before after start end wanted done result

module _ {C : Type 0} (device : C → Device) (addresses : List ℕ)
    (gives : Option (List ℕ → Result TreeFacts TreeFault)) (wanted : ℕ) where
  abbrev by : Rule Waiting
  by = turn_of no_cell addresses gives

  pub one_call_more : (before mid after : Outside) (start : Batching C)
      (old new : OpenSite Waiting) (held then : BatchCell C) (count : ℕ)
      (so_far : SoFar device by wanted before mid start old held count)
      → CallEnds device by wanted mid after (begins_with old held so_far.volatile) new then (Ok tt)
      → SoFar device by wanted before after start new then (count + 1)
  one_call_more before mid after start old new held then count so_far
      (end, done, site, cell, serves) = record {
        volatile = end.serving.volatile;
        calls = so_far.calls ++ done ∷ [];
        counted =
            length-append so_far.calls (done ∷ []) ∙ ap (λ (n : ℕ). n + 1) so_far.counted;
        serving =
            subst (λ (s : OpenSite Waiting). IsServing (begins s end.serving.volatile)) site
            (led_stands addresses gives device done (begins_with old held so_far.volatile) end
            so_far.serving serves.2.0);
        goes_on =
            subst (λ (s : OpenSite Waiting). GoesOn device by wanted before after start
            (begins_with s then end.serving.volatile) (so_far.calls ++ done ∷ [])) site
            (subst (λ (h : BatchCell C). GoesOn device by wanted before after start
            (begins_with end.serving.site h end.serving.volatile) (so_far.calls ++ done ∷ [])) cell
            (goes_on_more device by wanted before mid after start
            (begins_with old held so_far.volatile) end so_far.calls done so_far.goes_on serves));
      }

  -- ---- how it ends

  module _ (which : Turns) (same : turns_in which ≡ wanted) (before mid : Outside)
      (start : Batching C) (old : OpenSite Waiting) (held : BatchCell C) (count : ℕ)
      (so_far : SoFar device by wanted before mid start old held count) where
    -- all calls were made
    pub all_calls : (after : Outside)
        → after.traffic ≡ mid.traffic → count ≡ most_calls which
        → (answer : Result ℕ ProgramFault)
        → IsConcluded mid.written after.written (Ok tt) answer
        → ServedBy device by which before after start answer
    all_calls after still all answer concluded = record {
      end = begins_with old held so_far.volatile;
      calls = so_far.calls;
      result = Ok tt;
      ended = mid;
      serves =
          subst (λ (w : ℕ). ServesOn device by w (most_calls which) before mid start
          (begins_with old held so_far.volatile) so_far.calls (Ok tt)) (sym same)
          (so_far.counted ∙ all, so_far.goes_on);
      still = still;
      concluded = concluded;
    }

    -- a fault ended one
    pub one_failed : (fault : ServeFault) (ended after : Outside) (new : OpenSite Waiting)
        (then : BatchCell C)
        → CallEnds device by wanted mid ended (begins_with old held so_far.volatile) new then
        (Err fault)
        → count < most_calls which → after.traffic ≡ ended.traffic
        → (answer : Result ℕ ProgramFault)
        → IsConcluded ended.written after.written (Err fault) answer
        → ServedBy device by which before after start answer
    one_failed fault ended after new then (end, done, site, cell, serves) fewer still answer
        concluded = record {
          end = end;
          calls = so_far.calls;
          result = Err fault;
          ended = ended;
          serves =
              subst (λ (w : ℕ). ServesOn device by w (most_calls which) before ended start end
              so_far.calls (Err fault)) (sym same) (
                subst (λ (n : ℕ). n < most_calls which) (sym so_far.counted) fewer,
                (
                  begins_with old held so_far.volatile,
                  mid,
                  so_far.goes_on,
                  done,
                  serves,
                ),
              );
          still = still;
          concluded = concluded;
        }

-- ---- one call alone

module _ {C : Type 0} (device : C → Device) (addresses : List ℕ)
    (gives : Option (List ℕ → Result TreeFacts TreeFault)) (count : ℕ) (before ended : Outside)
    (old new : OpenSite Waiting) (held then : BatchCell C) (volatile : VolatileState)
    (serving : IsServing (begins old volatile)) where
  abbrev by_turns : Rule Waiting
  by_turns = turn_of no_cell addresses gives

  abbrev start : Batching C
  start = begins_with old held volatile

  abbrev first : SoFar device by_turns count before before start old held 0
  first = none_yet device by_turns count before old held volatile serving

  pub served_once : CallEnds device by_turns count before ended start new then (Ok tt)
      → ServedBy device by_turns (how.Count count) before ended start (Ok 0)
  unfolding none_yet
  served_once ends =
      all_calls device addresses gives count (how.Count count) refl before ended start new then 1
      (one_call_more device addresses gives count before before ended start old new held then 0
      first ends)
      ended refl refl (Ok 0) (refl, refl)

  pub failed_once : (fault : ServeFault)
      → CallEnds device by_turns count before ended start new then (Err fault)
      → (after : Outside) → after.traffic ≡ ended.traffic → (answer : Result ℕ ProgramFault)
      → IsConcluded ended.written after.written (Err fault) answer
      → ServedBy device by_turns (how.Count count) before after start answer
  unfolding none_yet
  failed_once fault ends after still answer concluded =
      one_failed device addresses gives count (how.Count count) refl before before start old held
      0 first fault ended after new then ends (omega arith) still answer concluded

-- ---- the last line

pub concluded : (fault : ServeFault) (old new : Option (List ℕ)) (answer : Result ℕ ProgramFault)
    → (fault ≡ faults.Output → ⊥) → IsTold old new answer (stopped fault)
    → IsConcluded old new (Err fault) answer
concluded faults.Output old new answer other told = absurd (other refl)
concluded faults.Port old new answer other told = told
concluded faults.Cell old new answer other told = told
concluded faults.Memory old new answer other told = told
