-- A batch, from what it took in on.
use Rattle.udp_site.specs.BatchTurns.{refusal_of, refusals, refusal_text, AreTogether, Batches}
use Rattle.udp_site.specs.BatchTurns.{Follow, IsSynced, took_by, posts_of, text_of_all}
use Rattle.std.proofs.Common.{subst, sym, take, inl, inr, ap, append-nil, arith, length-append, ◌≡◌}
use Rattle.std.proofs.Common.{◌≤◌, ℕ, ◌+◌, List, [], ◌∷◌, ◌++◌, length, map, Option, Result, Ok}
use Rattle.std.proofs.Common.{Err, option_to_list}
use Rattle.std.proofs.lemmas.List.{length-map}
use Rattle.cell_device.specs.Devices.{Device}
use Rattle.book.specs.declared.fault.CommitFault.{CommitFault}
use Rattle.book.specs.declared.fault.CommitFault.TheVariants as commits
use Rattle.book.specs.declared.waiting.Waiting.{Waiting}
use Rattle.book.specs.Batches.{BatchCell}
use Rattle.site.specs.Sites.{OpenSite}
use Rattle.udp_site.specs.declared.fault.ServeFault.{ServeFault}
use Rattle.udp_site.specs.declared.fault.ServeFault.TheVariants as faults
use Rattle.udp_site.specs.declared.turn.Turn.{Turn}
use Rattle.udp_site.specs.Traffic.{Move, Took, all_handed, taken}
use Rattle.udp_site.specs.Turns.{Serving}
use Rattle.udp_site.specs.Served.{Rule, Outside, Turned, outside}
use Rattle.udp_site.specs.inner.Batched.{TakesIn, ServesBatch, Fails, carried_of}
use Rattle.udp_site.specs.inner.OneBatch.{OneBatch, batching, Unsynced}
use Rattle.udp_site.specs.inner.OneTurn as one
use Rattle.udp_site.proofs.Growth.{Grows-trans}

-- a batch has a turn at least
pub some_turn : (batch : List Turn) → AreTogether (map taken batch) → 1 ≤ length batch
some_turn [] together = absurd together
some_turn (turn ∷ turns) together = omega arith

module _ {C : Type 0} (device : C → Device) (rule : Rule Waiting) (before after : Outside)
    (s : Serving Waiting) (held now : BatchCell C) (old carried : Option Turn) (left : ℕ)
    (site : OpenSite Waiting) (idle tried : ℕ) where
  abbrev pub Is : Result ℕ ServeFault → Type 0
  Is result =
      OneBatch device rule before after (batching held (carried_of old) s) left site now
      (carried_of carried) idle tried result

  module _ (mid : Option (List Move)) (batch : List Turn)
      (taken_in : TakesIn before.traffic mid old carried batch)
      (count : length batch + length (option_to_list (carried_of carried)) ≤ left) where
    fits : length (option_to_list (carried_of old) ++ taken_in.0) ≤ left
    fits =
        omega (
          arith,
          count,
          ap length taken_in.1,
          length-append (map taken batch) (option_to_list (carried_of carried)),
          length-map batch taken,
        )

    batches : (answer : Result (Unit {0}) CommitFault) (turns : List Turned)
        (next : Serving Waiting) → took_by turns ≡ map taken batch → Follow rule s turns next
        → next.site ≡ site → IsSynced device held site.book answer now
        → Batches device rule (batching held (carried_of old) s)
        (record { came = taken_in.0; turns = turns }) answer
        (batching now (carried_of carried) next)
    batches answer turns next took follow there synced = record {
      took = rw took taken_in.1;
      together = rw took taken_in.2;
      follow = follow;
      synced = rw there synced;
    }

    added : (moves : List Move) (text : List ℕ)
        → one.Adds (outside mid before.written) after moves text
        → one.Adds before after (map Took taken_in.0 ++ moves) text
    added moves text adds = (Grows-trans _ _ _ _ _ taken_in.3 adds.0, adds.1)

    only_taken_in : (text : List ℕ) → one.Adds (outside mid before.written) after [] text
        → one.Adds before after (map Took taken_in.0) text
    only_taken_in text adds = (rw append-nil at (added [] text adds).0, adds.1)

    abbrev Serves : Result (Unit {0}) ServeFault → Type 0
    Serves result =
        ServesBatch device rule (map taken batch) (outside mid before.written) after s held now
        site idle tried result

    unsynced : (fault : CommitFault)
        → Fails device rule (map taken batch) (outside mid before.written) after s held now site
        fault
        → Unsynced device rule before after (batching held (carried_of old) s) left site now
        (carried_of carried) fault
    unsynced fault (handed, written, (turns, next, took, follow, there, synced, adds)) = (
      handed,
      written,
      record { came = taken_in.0; turns = turns },
      next,
      fits,
      batches (Err fault) turns next took follow there synced,
      there,
      subst (λ (o : OpenSite Waiting). one.Adds before after
          (map Took taken_in.0 ++ take handed
          (all_handed (refusals o (refusal_of fault) (took_by turns))))
          (take written (refusal_text o (refusal_of fault)))) (sym there)
          (rw took (added _ _ adds)),
    )

    pub whole : Serves (Ok tt) → Is (Ok (length batch))
    whole (turns, next, took, follow, there, idle_is, tried_is, serves, synced, adds) = (
      record { came = taken_in.0; turns = turns },
      next,
      fits,
      batches (Ok tt) turns next took follow there synced,
      there,
      idle_is,
      tried_is,
      serves,
      rw (← length-map turns (λ t. t.took), took, length-map batch taken),
      added (all_handed (posts_of turns)) (text_of_all turns) adds,
    )

    pub ended : (fault : ServeFault) → Serves (Err fault) → Is (Err fault)
    ended faults.Port serves = absurd serves
    ended faults.Cell (needs_opening, inl fails) =
        (needs_opening, inl (unsynced commits.Device fails))
    ended faults.Cell (needs_opening, inr fails) =
        (needs_opening, inr (unsynced commits.NeedsOpen fails))
    ended faults.Memory (inl (some, same, adds)) =
        inr
        (inl (
          taken_in.0,
          some.4,
          fits,
          record {
            turns = some.0;
            mid = some.1;
            follow = some.2;
            last = some.3;
            comes = some.5;
            later = some.7;
            took = rw some.8 taken_in.1;
            together = rw some.8 taken_in.2;
            held = same;
          },
          some.6,
          only_taken_in [] adds,
        ))
    ended faults.Memory (inr (inl (turns, next, took, follow, there, synced, adds))) =
        let is = batches (Err commits.Memory) turns next took follow there synced in
        inr (inr (inl (_, next, fits, is, there, only_taken_in [] adds)))
    ended faults.Memory (inr (inr (n, (turns, next, took, follow, there, synced, adds)))) =
        let is = batches (Ok tt) turns next took follow there synced in
        inr (inr (inr (n, (_, next, fits, is, there, added _ [] adds))))
    ended faults.Output (n, (turns, next, took, follow, there, synced, adds)) =
        let is = batches (Ok tt) turns next took follow there synced in
        (n, (_, next, fits, is, there, added _ _ adds))
