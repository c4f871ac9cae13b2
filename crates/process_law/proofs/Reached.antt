-- A process that has served has come so far.
use Rattle.std.proofs.Common.{◌≡◌, inl, inr, ℕ, List, [], ◌∷◌, ◌++◌, length, take, map, ◌≤◌, Bool}
use Rattle.std.proofs.Common.{true, false, refl, append-nil, append_assoc, arith}
use Rattle.std.specs.Prelude.{Result, Ok, Err, IsSome}
use Rattle.std.specs.List.{flat_map}
use Rattle.std.proofs.Math.Seq.{take-length}
use Rattle.std.proofs.lemmas.List.{take-map}
use Rattle.std.proofs.lemmas.List.Concat.{flat_map-append}
use Rattle.fed_types.specs.Sites.{Membership}
use Rattle.cell_device.specs.Devices.{Device}
use Rattle.cell_device.specs.Images.{MayLeave}
use Rattle.records.specs.declared.owner.Owner.{Owner}
use Rattle.records.specs.declared.record.Record.{Record}
use Rattle.outcomes.proofs.KnownBytes.{Appends-trans}
use Rattle.book.specs.declared.fault.CommitFault.{CommitFault}
use Rattle.book.specs.declared.fault.CommitFault.TheVariants as commits
use Rattle.book.specs.declared.waiting.Waiting.{Waiting}
use Rattle.proposer.specs.VolatileStates.{new_volatile}
use Rattle.udp_site.specs.declared.fault.ServeFault.{ServeFault}
use Rattle.udp_site.specs.declared.fault.ServeFault.TheVariants as faults
use Rattle.udp_site.specs.Traffic.{Move, Took, Failed, Handed, Taken, Post, all_handed}
use Rattle.udp_site.specs.Served.{Rule, Outside}
use Rattle.udp_site.specs.BatchTurns as batch
use Rattle.udp_site.specs.BatchTurns.{Batch, Batching, Batches, Lead, Shows, ServesBatches}
use Rattle.udp_site.specs.BatchTurns.{begins_with, moves_in, moves_of, posts_of, text_of_all}
use Rattle.udp_site.specs.BatchTurns.{took_by, refusals, refusal_of, refusal_text}
use Rattle.udp_site.proofs.Growth.{Grows-trans, Grows-none, Appends-none}
use Rattle.site_commands.specs.declared.site_arguments.Turns.{Turns}
use Rattle.outcomes.specs.declared.fault.ProgramFault.{ProgramFault}
use Rattle.site_commands.specs.Services.{HasServed, GoesOn, ServesOn, turns_in, most_calls}
use Rattle.site_commands.specs.Services.{goes_on_from}
use Rattle.serving_law.proofs.Scene.{OnlyNow}
use Rattle.process_law.specs.Processes.{Last, Quiet, Unsynced, Synced, IsLast, WentOn, all_batches}
use Rattle.process_law.specs.Processes.{handed_by, last_moves, last_text, ProcessesComeSoFar}
use Rattle.process_law.specs.Processes.{MayHaveLeft, HasCome}

-- this moment of a device is one of those since an earlier one
abbrev pub CountsNow : {C : Type 0} → (C → Device) → Type 0
CountsNow {C} device =
    (cell : C) (t : ℕ) (bytes : List ℕ) → t ≤ (device cell).moment
    → MayLeave (device cell).image bytes → (device cell).left_since t bytes

pub none_handed : (came : List Taken) → handed_by (map Took came) ≡ []
none_handed [] = refl
none_handed (taken ∷ came) = none_handed came

pub first_handed : (count : ℕ) (posts : List Post)
    → take count (all_handed posts) ≡ all_handed (take count posts)
unfolding all_handed
first_handed count posts = take-map Handed count posts

-- ---- what is seen from outside

-- of these batches, and of others after them
joined : {X : Type 0} (f : Batch → List X) (those batches : List Batch) (rest : List X)
    → (flat_map f those ++ []) ++ (flat_map f batches ++ rest)
    ≡ flat_map f (those ++ batches) ++ rest
joined f those batches rest =
    rw (append-nil (flat_map f those), flat_map-append f those batches, append_assoc)

shows_more : (before between after : Outside) (those batches : List Batch) (moves : List Move)
    (text : List ℕ) → Shows before between those [] [] → Shows between after batches moves text
    → Shows before after (those ++ batches) moves text
shows_more before between after those batches moves text s t = (
  rw (← joined moves_of those batches moves)
      (Grows-trans before.traffic between.traffic after.traffic _ _ s.0 t.0),
  rw (← joined (λ b. text_of_all b.turns) those batches text)
      (Appends-trans before.written between.written after.written _ _ s.1 t.1),
)

-- calls that were Ok made these batches, and that was seen
went : {C : Type 0} (device : C → Device) (rule : Rule Waiting) (wanted : ℕ)
    (before after : Outside) (start end : Batching C) (calls : List (List Batch))
    → GoesOn device rule wanted before after start end calls
    → WentOn device rule start end calls × Shows before after (all_batches calls) [] []
went device rule wanted before after start end [] (same, still) =
    (same, rw still (Grows-none before.traffic, Appends-none before.written))
went device rule wanted before after start end (batches ∷ calls) (mid, between, serves, goes_on) =
    let more = went device rule wanted between after (goes_on_from mid) end calls goes_on in (
      (mid, serves.2.0, more.0),
      shows_more before between after batches (all_batches calls) [] [] serves.2.1 more.1,
    )

module _ {C : Type 0} {device : C → Device} (counts_now : CountsNow device)
    (only_now : OnlyNow device) (tells : (c : C) → IsSome (device c).image) {rule : Rule Waiting}
    {owner : Owner} {how : Turns} {cell : C} {before after : Outside}
    {answer : Result ℕ ProgramFault}
    (process : HasServed device rule owner how cell before after answer) (left : List Record)
    (may : MayHaveLeft device rule owner process.served.end.held process.served.end.held left)
  where
    abbrev start : Batching C
    start = begins_with process.site process.held new_volatile

    abbrev end : Batching C
    end = process.served.end

    abbrev ended : Outside
    ended = process.served.ended

    abbrev calls : List (List Batch)
    calls = process.served.calls

    abbrev Reaches : Type 0
    Reaches =
        (come : HasCome device rule owner cell before ended left)
        × (come.opened ≡ process.opened) × (come.calls ≡ calls)

    -- what a crash may have left now it may have left since an earlier moment
    since : (mid : Batching C) (b : Batch) (answer : Result (Unit {0}) CommitFault)
        → Batches device rule mid b answer end
        → MayHaveLeft device rule owner mid.held end.held left
    since mid b answer made = record {
      told = tells mid.held.cell;
      bytes = may.bytes;
      left =
          counts_now end.held.cell (device mid.held.cell).moment may.bytes
          (later mid.held.needs_opening refl) (only_now end.held.cell may.bytes may.left);
      says = may.says;
    }
      where
        later : (shut : Bool) → mid.held.needs_opening ≡ shut
            → (device mid.held.cell).moment ≤ (device end.held.cell).moment
        later false opened = (made.synced.syncs opened).any_moment.later
        later true shut = rw (made.synced.needs_open shut).1 (omega arith)

    -- after these calls, and these whole batches of one more
    module _ (between : Outside) (here : Batching C)
        (goes_on : GoesOn device rule (turns_in how) before between start here calls)
        (batches : List Batch) where
      reach : (mid : Batching C) → Lead device rule here batches mid → (last : Last)
          → IsLast device rule owner mid left last
          → Shows between ended batches (last_moves last) (last_text last) → Reaches
      reach mid lead last is_last shows =
          let first = went device rule (turns_in how) before between start here calls goes_on in
          let all = shows_more before between ended (all_batches calls) batches (last_moves last)
          (last_text last) first.1 shows in (
            record {
              member = process.member;
              membership = process.membership;
              opened = process.opened;
              opens = process.opens;
              site = process.site;
              held = process.held;
              parted = process.parted;
              calls = calls;
              here = here;
              went_on = first.0;
              batches = batches;
              mid = mid;
              lead = lead;
              last = last;
              is_last = is_last;
              traffic = all.0;
              written = all.1;
            },
            refl,
            refl,
          )

      quiet : (moves : List Move) → handed_by moves ≡ []
          → batch.EndsBetween device rule between ended here end (turns_in how) batches moves
          → Reaches
      quiet moves none (lead, shows) = reach end lead (Quiet moves) (none, may) shows

      unsynced : (fault : CommitFault)
          → batch.EndsUnsynced device rule between ended here end (turns_in how) batches fault
          → Reaches
      unsynced fault (handed, written, (mid, lead, b, is_within, made, shows)) =
          let refused : List Post =
          refusals end.serving.site (refusal_of fault) (took_by b.turns) in
          let said : List ℕ = refusal_text end.serving.site (refusal_of fault) in
          reach mid lead (Unsynced b (take handed refused) (take written said))
          (end, Err fault, made, (handed, written, refl, refl), since mid b (Err fault) made)
          (rw (← first_handed handed refused) shows)

      ends_by : (fault : ServeFault)
          → ServesBatches device rule between ended here end (turns_in how) batches (Err fault)
          → Reaches
      ends_by faults.Port (fewer, ends) = quiet (Failed ∷ []) refl ends
      ends_by faults.Cell (fewer, needs, inl failed) = unsynced commits.Device failed
      ends_by faults.Cell (fewer, needs, inr failed) = unsynced commits.NeedsOpen failed
      ends_by faults.Memory (fewer, inl ends) = quiet [] refl ends
      ends_by faults.Memory (fewer, inr (inl (mid, lead, came, is_within, breaks, shows))) =
          reach mid lead (Quiet (map Took came)) (none_handed came, rw (← breaks.held) may) shows
      ends_by faults.Memory
          (fewer, inr (inr (inl (mid, lead, b, is_within, made, shows)))) =
          let fault = Err commits.Memory in
          reach mid lead (Unsynced b [] [])
          (end, fault, made, (0, 0, refl, refl), since mid b fault made)
          (rw (← first_handed 0 [], append-nil (moves_in b)) shows)
      ends_by faults.Memory
          (fewer, inr (inr (inr (count, (mid, lead, b, is_within, made, shows))))) =
          reach mid lead (Synced b count 0) (end, made, may) shows
      ends_by faults.Output (fewer, (count, (mid, lead, b, is_within, made, shows))) =
          let posts : List Post = posts_of b.turns in
          reach mid lead (Synced b (length posts) count) (end, made, may)
          (rw (first_handed (length posts) posts, take-length posts) shows)

    reached : (result : Result (Unit {0}) ServeFault)
        → ServesOn device rule (turns_in how) (most_calls how) before ended start end calls result
        → Reaches
    reached (Ok done) (all, goes_on) =
        quiet ended end goes_on [] [] refl
        (refl, (Grows-none ended.traffic, Appends-none ended.written))
    reached (Err fault) (fewer, (here, between, goes_on, batches, serves)) =
        ends_by between here goes_on batches fault serves

pub processes_come_so_far : {C : Type 0} (device : C → Device) (members : Membership)
    → CountsNow device → OnlyNow device → ProcessesComeSoFar device members
processes_come_so_far device members counts_now only_now n addresses gives how cell before after
    answer left tells process may =
    reached counts_now only_now tells process left may process.served.result
    process.served.serves
