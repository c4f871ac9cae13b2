-- What one batch comes to, in the code's variables.
use Rattle.std.specs.Prelude.{◌≡◌, ◌⊎◌, ◌≤◌, ℕ, true, List, [], ◌∷◌, ◌++◌, map, take, length}
use Rattle.std.specs.Prelude.{Option, Result, Ok, Err}
use Rattle.std.specs.Option.{option_to_list}
use Rattle.cell_device.specs.Devices.{Device}
use Rattle.book.specs.declared.fault.CommitFault.{CommitFault}
use Rattle.book.specs.declared.fault.CommitFault.TheVariants as commits
use Rattle.book.specs.Batches.{BatchCell}
use Rattle.book.specs.declared.waiting.Waiting.{Waiting}
use Rattle.site.specs.Sites.{OpenSite}
use Rattle.udp_site.specs.declared.fault.ServeFault.{ServeFault}
use Rattle.udp_site.specs.declared.fault.ServeFault.TheVariants as faults
use Rattle.udp_site.specs.Traffic.{Taken, Move, Took, Failed, all_handed}
use Rattle.udp_site.specs.Turns.{Serving, IsServing}
use Rattle.udp_site.specs.Served.{Rule, Outside}
use Rattle.udp_site.specs.BatchTurns.{Batch, Batching, Batches, BreaksOff, moves_in, moves_of}
use Rattle.udp_site.specs.BatchTurns.{took_by, posts_of, text_of_all, refusal_of, refusals}
use Rattle.udp_site.specs.BatchTurns.{refusal_text}
use Rattle.udp_site.specs.inner.OneTurn.{Adds}

-- what is between batches
abbrev pub batching : {C : Type 0} → BatchCell C → Option Taken → Serving Waiting → Batching C
batching held carried serving = record { serving = serving; held = held; carried = carried }

module _ {C : Type 0} (device : C → Device) (rule : Rule Waiting) (before after : Outside)
    (old : Batching C) (left : ℕ) (site : OpenSite Waiting) (held : BatchCell C)
    (carried : Option Taken) where
  -- no more was taken in for it than turns are left
  abbrev pub FitsLeft : List Taken → Type 0
  FitsLeft came = length (option_to_list old.carried ++ came) ≤ left

  -- its sync answers so; of it these moves were made, and this text was written
  abbrev pub After : Result (Unit {0}) CommitFault → (Batch → List Move) → (Batch → List ℕ)
      → Type 0
  After answer moves text =
      (batch : Batch) × (next : Serving Waiting) × FitsLeft batch.came
      × Batches device rule old batch answer (batching held carried next)
      × (next.site ≡ site)
      × Adds before after (moves batch) (text batch)

  abbrev pub Between : List Move → Type 0
  Between moves = (old.serving.site ≡ site) × (old.held ≡ held) × Adds before after moves []

  abbrev pub Within : Type 0
  Within =
      (came : List Taken) × (next : Serving Waiting) × FitsLeft came
      × BreaksOff rule old came (batching held carried next)
      × (next.site ≡ site)
      × Adds before after (map Took came) []

  abbrev pub Unsynced : CommitFault → Type 0
  Unsynced fault =
      (handed written : ℕ) × (batch : Batch) × (next : Serving Waiting) × FitsLeft batch.came
      × Batches device rule old batch (Err fault) (batching held carried next)
      × (next.site ≡ site)
      × Adds before after
      (moves_in batch ++ take handed
      (all_handed (refusals next.site (refusal_of fault) (took_by batch.turns))))
      (take written (refusal_text next.site (refusal_of fault)))

  abbrev pub Unwritten : Type 0
  Unwritten =
      (count : ℕ)
      × After (Ok tt)
      (λ batch. moves_in batch ++ take count (all_handed (posts_of batch.turns))) (λ batch. [])

  abbrev pub OneBatch : (idle tried : ℕ) → Result ℕ ServeFault → Type 0
  OneBatch idle tried (Ok count) =
      (batch : Batch) × (next : Serving Waiting) × FitsLeft batch.came
      × Batches device rule old batch (Ok tt) (batching held carried next)
      × (next.site ≡ site)
      × (next.idle ≡ idle) × (next.tried ≡ tried) × IsServing next
      × (length batch.turns ≡ count)
      × Adds before after (moves_of batch) (text_of_all batch.turns)
  OneBatch idle tried (Err faults.Port) = Between (Failed ∷ [])
  OneBatch idle tried (Err faults.Cell) =
      (held.needs_opening ≡ true) × (Unsynced commits.Device ⊎ Unsynced commits.NeedsOpen)
  OneBatch idle tried (Err faults.Memory) =
      (Between [] ⊎ (Within ⊎ (After (Err commits.Memory) moves_in (λ batch. []) ⊎ Unwritten)))
  OneBatch idle tried (Err faults.Output) =
      (count : ℕ) × After (Ok tt) moves_of (λ batch. take count (text_of_all batch.turns))
