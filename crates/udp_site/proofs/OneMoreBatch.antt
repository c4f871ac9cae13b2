-- Batches, and then one more.
use Rattle.std.proofs.Common.{inl, inr, refl, ◌∙◌, length-append, arith, ◌≡◌, ◌≤◌, ℕ, ◌+◌, ◌<◌}
use Rattle.std.proofs.Common.{List, [], ◌∷◌, ◌++◌, length, Option, None, Result, Ok, Err}
use Rattle.std.proofs.Common.{option_to_list}
use Rattle.std.proofs.lemmas.List.{flat_map_more}
use Rattle.cell_device.specs.Devices.{Device}
use Rattle.book.specs.declared.waiting.Waiting.{Waiting}
use Rattle.book.specs.declared.fault.CommitFault.{CommitFault}
use Rattle.book.specs.declared.fault.CommitFault.TheVariants as commits
use Rattle.book.specs.Batches.{BatchCell}
use Rattle.site.specs.Sites.{OpenSite}
use Rattle.udp_site.specs.declared.fault.ServeFault.{ServeFault}
use Rattle.udp_site.specs.declared.fault.ServeFault.TheVariants as faults
use Rattle.udp_site.specs.Traffic.{Taken, Move}
use Rattle.udp_site.specs.Turns.{Serving, IsServing}
use Rattle.udp_site.specs.Served.{Rule, Outside}
use Rattle.udp_site.specs.BatchTurns.{Batch, Batching, Batches, Lead, Shows, moves_of, turns_of}
use Rattle.udp_site.specs.BatchTurns.{text_of_all, EndsAfter, EndsUnsynced, ServesBatches}
use Rattle.udp_site.specs.inner.OneBatch.{OneBatch, batching, After, Unsynced}
use Rattle.udp_site.specs.inner.OneTurn.{Adds}
use Rattle.udp_site.proofs.Shown.{shown_more, shown_whole}

abbrev texts : Batch → List ℕ
texts batch = text_of_all batch.turns

module _ {C : Type 0} (device : C → Device) (rule : Rule Waiting) where
  lead_more : (start mid end : Batching C) (batches : List Batch) (batch : Batch)
      → Lead device rule start batches mid → Batches device rule mid batch (Ok tt) end
      → Lead device rule start (batches ++ batch ∷ []) end
  lead_more start mid end [] batch lead comes = (end, rw lead comes, refl)
  lead_more start mid end (first ∷ batches) batch (next, first_so, lead) comes =
      (next, first_so, lead_more next mid end batches batch lead comes)

  -- what a site that serves in batches has done so far: batches, with so many turns, lead here
  abbrev pub SoFar : (before after : Outside) → (start : Batching C) → OpenSite Waiting
      → BatchCell C → Option Taken → (idle tried count : ℕ) → Type 0
  SoFar before after start site held carried idle tried count =
      (s : Serving Waiting) × (done : List Batch) × (s.site ≡ site) × (s.idle ≡ idle)
      × (s.tried ≡ tried) × IsServing s × (length (turns_of done) ≡ count)
      × Lead device rule start done (batching held carried s) × Shows before after done [] []

  -- how it ends with this site and this cell, where so many turns were wanted
  abbrev pub Ended : (before after : Outside) → (start : Batching C) → OpenSite Waiting
      → BatchCell C → ℕ → Result (Unit {0}) ServeFault → Type 0
  Ended before after start site held wanted result =
      (end : Batching C) × (whole : List Batch) × (end.serving.site ≡ site) × (end.held ≡ held)
      × ServesBatches device rule before after start end wanted whole result

  module _ (before mid after : Outside) (start : Batching C) (old new : OpenSite Waiting)
      (held held_then : BatchCell C) (carried carried_then : Option Taken)
      (idle tried idle_then tried_then count left : ℕ)
      (so_far : SoFar before mid start old held carried idle tried count) where
    abbrev now : Batching C
    now = batching held carried so_far.0

    abbrev then : Serving Waiting → Batching C
    then next = batching held_then carried_then next

    abbrev One : Result ℕ ServeFault → Type 0
    One result =
        OneBatch device rule mid after now left new held_then carried_then idle_then tried_then
        result

    pub one_batch_more : (turns : ℕ) → One (Ok turns)
        → SoFar before after start new held_then carried_then idle_then tried_then (count + turns)
    one_batch_more turns
        (batch, next, fits, comes, site, idle_is, tried_is, serving, counted, adds) = (
          next,
          so_far.1 ++ batch ∷ [],
          site,
          idle_is,
          tried_is,
          serving,
          rw (
            ← flat_map_more (λ (b : Batch). b.turns) [] so_far.1 batch,
            length-append (turns_of so_far.1) batch.turns,
            so_far.6,
            counted,
          ),
          lead_more start now (then next) so_far.1 batch so_far.7 comes,
          shown_whole moves_of texts before mid after so_far.1 batch so_far.8 adds,
        )

    module _ (wanted : ℕ) (some : 1 ≤ left) (all : count + left ≤ wanted) where
      fewer : length (turns_of so_far.1) < wanted
      fewer = omega (arith, so_far.6, some, all)

      within_wanted : (came : List Taken) → length (option_to_list carried ++ came) ≤ left
          → length (turns_of so_far.1) + length (option_to_list carried ++ came) ≤ wanted
      within_wanted came fits = omega (arith, so_far.6, fits, all)

      shows : (moves : List Move) (text : List ℕ) → Adds mid after moves text
          → Shows before after so_far.1 moves text
      shows moves text = shown_more moves_of texts before mid after so_far.1 moves text so_far.8

      after_it : (answer : Result (Unit {0}) CommitFault) (moves : Batch → List Move)
          (text : Batch → List ℕ)
          (one : After device rule mid after now left new held_then carried_then answer moves text)
          → EndsAfter device rule before after start (then one.1) wanted so_far.1 answer moves text
      after_it answer moves text (batch, next, fits, comes, site, adds) =
          (now, so_far.7, batch, within_wanted batch.came fits, comes, shows _ _ adds)

      unsynced : (fault : CommitFault)
          (one : Unsynced device rule mid after now left new held_then carried_then fault)
          → EndsUnsynced device rule before after start (then one.3) wanted so_far.1 fault
      unsynced fault (handed, written, batch, next, fits, comes, site, adds) = (
        handed,
        written,
        (now, so_far.7, batch, within_wanted batch.came fits, comes, shows _ _ adds),
      )

      pub ended : (fault : ServeFault) → One (Err fault)
          → Ended before after start new held_then wanted (Err fault)
      ended faults.Port (there, same, adds) =
          (now, so_far.1, there, same, (fewer, (so_far.7, shows _ _ adds)))
      ended faults.Cell (shut, inl one) =
          (then one.3, so_far.1, one.6, refl, (fewer, shut, inl (unsynced commits.Device one)))
      ended faults.Cell (shut, inr one) =
          (then one.3, so_far.1, one.6, refl, (fewer, shut, inr (unsynced commits.NeedsOpen one)))
      ended faults.Memory (inl (there, same, adds)) =
          (now, so_far.1, there, same, (fewer, inl (so_far.7, shows _ _ adds)))
      ended faults.Memory (inr (inl (came, next, fits, breaks, site, adds))) = (
        then next,
        so_far.1,
        site,
        refl,
        (
          fewer,
          inr (inl (now, so_far.7, came, within_wanted came fits, breaks, shows _ [] adds)),
        ),
      )
      ended faults.Memory (inr (inr (inl one))) = (
        then one.1,
        so_far.1,
        one.4,
        refl,
        (fewer, inr (inr (inl (after_it (Err commits.Memory) _ _ one)))),
      )
      ended faults.Memory (inr (inr (inr (count, one)))) = (
        then one.1,
        so_far.1,
        one.4,
        refl,
        (fewer, inr (inr (inr (count, after_it (Ok tt) _ _ one)))),
      )
      ended faults.Output (count, one) =
          (then one.1, so_far.1, one.4, refl, (fewer, (count, after_it (Ok tt) _ _ one)))

  -- all turns were served, and nothing is carried
  pub all_served : (before after : Outside) (start : Batching C) (site : OpenSite Waiting)
      (held : BatchCell C) (carried : Option Taken) (idle tried count wanted : ℕ)
      → SoFar before after start site held carried idle tried count → count ≡ wanted
      → carried ≡ None → Ended before after start site held wanted (Ok tt)
  all_served before after start site held carried idle tried count wanted so_far all none = (
    batching held carried so_far.0,
    so_far.1,
    so_far.2,
    refl,
    (so_far.6 ∙ all, none, (so_far.7, so_far.8)),
  )
