-- What the parts of a batch come to, in the code's variables.
use Rattle.std.specs.Prelude.{◌≡◌, ◌⊎◌, ℕ, true, List, [], ◌∷◌, ◌++◌, map, take}
use Rattle.std.specs.Prelude.{Option, Some, None, Result, Ok, Err}
use Rattle.std.specs.List.{flat_map}
use Rattle.std.specs.Io.KnownBytes.{Appends}
use Rattle.std.specs.Option.{option_to_list}
use Rattle.std.specs.declared.alloc.AllocError.{AllocError}
use Rattle.lines.specs.declared.line.Line.{Line}
use Rattle.cell_device.specs.Devices.{Device}
use Rattle.book.specs.declared.fault.CommitFault.{CommitFault}
use Rattle.book.specs.declared.fault.CommitFault.TheVariants as commits
use Rattle.book.specs.Batches.{BatchCell}
use Rattle.book.specs.declared.waiting.Waiting.{Waiting}
use Rattle.site.specs.declared.fault.SiteFault.{SiteFault}
use Rattle.site.specs.Sites.{OpenSite}
use Rattle.udp_site.specs.declared.fault.ServeFault.{ServeFault}
use Rattle.udp_site.specs.declared.fault.ServeFault.TheVariants as faults
use Rattle.udp_site.specs.declared.turn.Turn.{Turn}
use Rattle.udp_site.specs.Traffic.{Post, Taken, Move, Took, Failed, Grows, taken}
use Rattle.udp_site.specs.Traffic.{all_handed}
use Rattle.udp_site.specs.Turns.{Serving, IsServing}
use Rattle.udp_site.specs.Served.{Rule, Outside, Turned}
use Rattle.udp_site.specs.BatchTurns.{AreTogether, Follow, IsSynced, took_by, posts_of}
use Rattle.udp_site.specs.BatchTurns.{text_of_all, refusal_of, refusals, refusal_text}
use Rattle.udp_site.specs.BatchTurns.{refused_deposit}
use Rattle.udp_site.specs.Requests.{request_of}
use Rattle.udp_site.specs.inner.OneTurn.{Adds}
use Rattle.udp_site.specs.inner.Outcomes.{Notes}

-- the first so many of these moves were made, or of these bytes were written
abbrev pub GrowsPart : (before after : Option (List Move)) → List Move → Type 0
GrowsPart before after moves = (count : ℕ) × Grows before after (take count moves)

abbrev pub AppendsPart : (before after : Option (List ℕ)) → List ℕ → Type 0
AppendsPart before after bytes = (count : ℕ) × Appends before after (take count bytes)

-- what is told to the client, if what came in this turn is a deposit
abbrev pub refused_turn : OpenSite Waiting → SiteFault → Turn → List Post
refused_turn site fault turn =
    refused_deposit site fault (request_of site.book.owner.members.federation (taken turn))

-- what was taken in for the next batch
abbrev pub carried_of : Option Turn → Option Taken
carried_of None = None
carried_of (Some turn) = Some (taken turn)

-- what a batch has was taken in, and what is carried
abbrev pub TakesIn : (before after : Option (List Move)) → (old new : Option Turn) → List Turn
    → Type 0
TakesIn before after old new batch =
    (came : List Taken)
    × (option_to_list (carried_of old) ++ came
    ≡ map taken batch ++ option_to_list (carried_of new))
    × AreTogether (map taken batch) × Grows before after (map Took came)

-- what was carried is the first turn, or this was received
abbrev pub TakesFirst : (before after : Option (List Move)) → (old : Option Turn) → Turn → Type 0
TakesFirst before after old turn =
    (came : List Taken) × (option_to_list (carried_of old) ++ came ≡ taken turn ∷ [])
    × Grows before after (map Took came)

-- these came after others and joined them, and one more came that is carried, or none
abbrev pub JoinsMore : (before after : Option (List Move)) → (old new : List Turn) → Option Turn
    → Type 0
JoinsMore before after old new carried =
    (more : List Taken) × (map taken new ≡ map taken old ++ more)
    × Grows before after (map Took (more ++ option_to_list (carried_of carried)))

-- where nothing was carried, these joined a batch whose turns were taken
abbrev pub JoinsLater : (before after : Option (List Move)) → (was carried : Option Turn)
    → (old new : List Turn) → Type 0
JoinsLater before after None carried old new = JoinsMore before after old new carried
JoinsLater before after (Some turn) carried old new =
    (new ≡ old) × (carried ≡ Some turn) × Grows before after []

-- the receive failed; or memory ran out before it
abbrev pub TakesNone : (before after : Option (List Move)) → (old new : Option Turn) → ServeFault
    → Type 0
TakesNone before after old new faults.Port =
    (old ≡ None) × (new ≡ None) × Grows before after (Failed ∷ [])
TakesNone before after old new faults.Memory = (new ≡ old) × Grows before after []
TakesNone before after old new fault = ⊥

module _ (rule : Rule Waiting) (took : List Taken) (s : Serving Waiting)
    (site : OpenSite Waiting) where
  -- all turns that took these were taken: this is held, and these are the lines
  abbrev pub TakesAll : List Post → List Line → (idle tried : ℕ) → Type 0
  TakesAll posted said idle tried =
      (turns : List Turned) × (next : Serving Waiting) × (took_by turns ≡ took)
      × Follow rule s turns next
      × (next.site ≡ site) × (next.idle ≡ idle) × (next.tried ≡ tried) × IsServing next
      × (posted ≡ posts_of turns)
      × Notes [] said (flat_map (λ turn. turn.done.notices) turns)

  -- memory ran out within one of them
  abbrev pub TakesSome : Type 0
  TakesSome =
      (turns : List Turned) × (mid : Serving Waiting) × Follow rule s turns mid
      × (last : Turned) × (next : Serving Waiting) × rule mid last.took last.done next
      × (next.site ≡ site)
      × (later : List Taken) × (took_by (turns ++ last ∷ []) ++ later ≡ took)

  abbrev pub TakesTurns : List Post → List Line → (idle tried : ℕ)
      → Result (Unit {0}) AllocError → Type 0
  TakesTurns posted said idle tried (Ok whole) = TakesAll posted said idle tried
  TakesTurns posted said idle tried (Err e) = TakesSome

module _ {C : Type 0} (device : C → Device) (rule : Rule Waiting) (took : List Taken)
    (before after : Outside) (s : Serving Waiting) (held now : BatchCell C)
    (site : OpenSite Waiting) where
  -- all turns that took these were taken; their records are synced with this answer; and of this
  -- much is told
  abbrev pub Answers :
      Result (Unit {0}) CommitFault → (List Turned → List Move) → (List Turned → List ℕ) → Type 0
  Answers answer moves text =
      (turns : List Turned) × (next : Serving Waiting) × (took_by turns ≡ took)
      × Follow rule s turns next × (next.site ≡ site)
      × IsSynced device held site.book answer now
      × Adds before after (moves turns) (text turns)

  -- its sync failed for this, and that is told, or a part of that
  abbrev pub Fails : CommitFault → Type 0
  Fails fault =
      (handed written : ℕ) × Answers (Err fault)
      (λ turns. take handed (all_handed (refusals site (refusal_of fault) took)))
      (λ turns. take written (refusal_text site (refusal_of fault)))

  -- memory ran out: within a turn, for the sync, or after it
  abbrev pub RunsOut : Type 0
  RunsOut =
      ((TakesSome rule took s site × (now ≡ held) × Adds before after [] [])
      ⊎ (Answers (Err commits.Memory) (λ turns. []) (λ turns. [])
      ⊎ ((count : ℕ) × Answers (Ok tt)
      (λ turns. take count (all_handed (posts_of turns))) (λ turns. []))))

  -- a batch that took these, after they were taken in
  abbrev pub ServesBatch : (idle tried : ℕ) → Result (Unit {0}) ServeFault → Type 0
  ServesBatch idle tried (Ok served) =
      (turns : List Turned) × (next : Serving Waiting) × (took_by turns ≡ took)
      × Follow rule s turns next × (next.site ≡ site)
      × (next.idle ≡ idle) × (next.tried ≡ tried) × IsServing next
      × IsSynced device held site.book (Ok tt) now
      × Adds before after (all_handed (posts_of turns)) (text_of_all turns)
  ServesBatch idle tried (Err faults.Port) = ⊥
  ServesBatch idle tried (Err faults.Cell) =
      (now.needs_opening ≡ true) × (Fails commits.Device ⊎ Fails commits.NeedsOpen)
  ServesBatch idle tried (Err faults.Memory) = RunsOut
  ServesBatch idle tried (Err faults.Output) =
      (count : ℕ) × Answers (Ok tt) (λ turns. all_handed (posts_of turns))
      (λ turns. take count (text_of_all turns))
