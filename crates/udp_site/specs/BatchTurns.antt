-- What a site has done that serves in batches. A batch takes in some turns. Then each is taken, by
-- the rules of a single turn, and sees the records of those before it. Then their records are
-- synced together; and only then is handed out what these turns hand out, and written what they
-- say.
use Rattle.std.specs.Prelude.{◌≡◌, ◌⊎◌, ◌<◌, ◌≤◌, ◌+◌, ℕ, true, false}
use Rattle.std.specs.Prelude.{List, [], ◌∷◌, ◌++◌, length, map, take}
use Rattle.std.specs.Prelude.{Option, None, Result, Ok, Err}
use Rattle.std.specs.List.{flat_map}
use Rattle.std.specs.Io.KnownBytes.{Appends}
use Rattle.std.specs.Option.{option_to_list}
use Rattle.cell_device.specs.Devices.{Device}
use Rattle.book.specs.declared.fault.CommitFault.{CommitFault}
use Rattle.book.specs.declared.fault.CommitFault.TheVariants as commits
use Rattle.book.specs.declared.waiting.Waiting.{Waiting}
use Rattle.book.specs.Batches.{BatchCell, Syncs, synced_book, waiting}
use Rattle.book.specs.OpenBooks.{OpenBook}
use Rattle.proposer.specs.VolatileStates.{VolatileState}
use Rattle.site.specs.declared.fault.SiteFault.{SiteFault}
use Rattle.site.specs.declared.fault.SiteFault.TheVariants as sites
use Rattle.site.specs.Sites.{OpenSite}
use Rattle.lines.specs.declared.notice.Notice.TheVariants.{Refused}
use Rattle.udp_site.specs.declared.fault.ServeFault.{ServeFault}
use Rattle.udp_site.specs.declared.fault.ServeFault.TheVariants as faults
use Rattle.udp_site.specs.Traffic.{Post, Taken, Move, Took, Failed, Grows}
use Rattle.udp_site.specs.Traffic.{all_handed}
use Rattle.udp_site.specs.Requests.{Request, Deposits, request_of}
use Rattle.udp_site.specs.Replies.{deposit_answer}
use Rattle.udp_site.specs.Turns.{Serving, begins, deposit_replies}
use Rattle.udp_site.specs.Served.{Rule, Outside, Turned, notice_text, text_of}

-- ---- what is together

-- the most turns of a batch; each has a record at most
abbrev pub MOST_TURNS : ℕ
MOST_TURNS = 64

-- what may be taken in together: one turn at least
abbrev pub AreTogether : List Taken → Type 0
AreTogether [] = ⊥
AreTogether (first ∷ more) = length more < MOST_TURNS

-- ---- a batch

-- what it took in at the port, and its turns
pub record Batch : Type 0 where
  pub came : List Taken
  pub turns : List Turned

-- what these turns took, hand out and say
abbrev pub took_by : List Turned → List Taken
took_by turns = map (λ turn. turn.took) turns

abbrev pub posts_of : List Turned → List Post
posts_of turns = flat_map (λ turn. turn.done.posts) turns

abbrev pub text_of_all : List Turned → List ℕ
text_of_all turns = flat_map text_of turns

-- all is taken in before the first datagram is handed out
abbrev pub moves_in : Batch → List Move
moves_in batch = map Took batch.came

abbrev pub moves_of : Batch → List Move
moves_of batch = moves_in batch ++ all_handed (posts_of batch.turns)

-- between batches: the site, whose records wait; its cell, with the first of them; and what was
-- taken in for the next batch
pub record Batching (C : Type 0) : Type 0 where
  pub serving : Serving Waiting
  pub held : BatchCell C
  pub carried : Option Taken

-- a site that begins to serve, with its cell; nothing was taken in for it
abbrev pub begins_with : {C : Type 0} → OpenSite Waiting → BatchCell C → VolatileState → Batching C
begins_with site held volatile = record {
  serving = begins site volatile;
  held = held;
  carried = None;
}

-- the records of this book that wait are synced, with this answer; or the cell needs opening
pub record IsSynced {C : Type 0} (device : C → Device) (old : BatchCell C) (book : OpenBook Waiting)
    (answer : Result (Unit {0}) CommitFault) (new : BatchCell C) : Type 0 where
  pub syncs : old.needs_opening ≡ false
      → Syncs device (synced_book old book) (waiting old book) answer (synced_book new book)
  pub needs_open : old.needs_opening ≡ true → (answer ≡ Err commits.NeedsOpen) × (new ≡ old)

module _ (rule : Rule Waiting) where
  -- these turns follow one another
  abbrev pub Follow : Serving Waiting → List Turned → Serving Waiting → Type 0
  Follow start [] end = start ≡ end
  Follow start (turn ∷ turns) end =
      (next : Serving Waiting) × rule start turn.took turn.done next × Follow next turns end

  -- Memory ran out within a turn of a batch that took this in, after these: its records wait still.
  pub record BreaksOff {C : Type 0} (old : Batching C) (came : List Taken) (new : Batching C)
      : Type 0 where
    pub turns : List Turned
    pub mid : Serving Waiting
    pub follow : Follow old.serving turns mid
    pub last : Turned
    pub comes : rule mid last.took last.done new.serving
    pub later : List Taken
    pub took : option_to_list old.carried ++ came
        ≡ (took_by (turns ++ last ∷ []) ++ later) ++ option_to_list new.carried
    pub together : AreTogether (took_by (turns ++ last ∷ []) ++ later)
    pub held : new.held ≡ old.held

module _ {C : Type 0} (device : C → Device) (rule : Rule Waiting) where
  -- A batch leads from the one to the other, and its sync answers so. What was carried is its first
  -- turn, and what it takes in beyond its turns is carried.
  pub record Batches (old : Batching C) (batch : Batch) (answer : Result (Unit {0}) CommitFault)
      (new : Batching C) : Type 0 where
    pub took : option_to_list old.carried ++ batch.came
        ≡ took_by batch.turns ++ option_to_list new.carried
    pub together : AreTogether (took_by batch.turns)
    pub follow : Follow rule old.serving batch.turns new.serving
    pub synced : IsSynced device old.held new.serving.site.book answer new.held

  -- these batches lead from the one to the other, and all their syncs are done
  abbrev pub Lead : Batching C → List Batch → Batching C → Type 0
  Lead start [] end = start ≡ end
  Lead start (batch ∷ batches) end =
      (next : Batching C) × Batches start batch (Ok tt) next × Lead next batches end

-- all turns of these batches
abbrev pub turns_of : List Batch → List Turned
turns_of batches = flat_map (λ batch. batch.turns) batches

-- ---- where the sync failed

-- the fault that a site says then
abbrev pub refusal_of : CommitFault → SiteFault
refusal_of commits.Device = sites.Device
refusal_of commits.Memory = sites.Memory
refusal_of commits.NeedsOpen = sites.NeedsOpen

abbrev pub refusal_text : OpenSite Waiting → SiteFault → List ℕ
refusal_text site fault = notice_text (Refused site.book.owner.site fault)

-- what is told to the client of a deposit
abbrev pub refused_deposit : OpenSite Waiting → SiteFault → Request → List Post
refused_deposit site fault (Deposits client slot path) =
    deposit_replies site.book.owner.members.federation site.book.owner.site client slot
    (deposit_answer (Err fault))
refused_deposit site fault request = []

-- for each deposit of a batch that took these
abbrev pub refusals : OpenSite Waiting → SiteFault → List Taken → List Post
refusals site fault took =
    flat_map (λ taken. refused_deposit site fault
    (request_of site.book.owner.members.federation taken)) took

-- ---- what is outside

-- all moves of these batches were made, and all their text was written; and then these
abbrev pub Shows : (before after : Outside) → List Batch → List Move → List ℕ → Type 0
Shows before after batches moves text =
    Grows before.traffic after.traffic (flat_map moves_of batches ++ moves)
    × Appends before.written after.written
    (flat_map (λ batch. text_of_all batch.turns) batches ++ text)

module _ {C : Type 0} (device : C → Device) (rule : Rule Waiting) (before after : Outside)
    (start end : Batching C) (wanted : ℕ) (whole : List Batch) where
  -- no more is taken in for a batch, and carried to it, than turns are left
  abbrev pub IsWithin : (mid : Batching C) → (came : List Taken) → Type 0
  IsWithin mid came =
      length (turns_of whole) + length (option_to_list mid.carried ++ came) ≤ wanted

  -- whole batches, and then none, but these moves
  abbrev pub EndsBetween : List Move → Type 0
  EndsBetween moves = Lead device rule start whole end × Shows before after whole moves []

  -- whole batches, and then one that took this in, and was broken off: nothing of it is told
  abbrev pub EndsWithin : Type 0
  EndsWithin =
      (mid : Batching C) × Lead device rule start whole mid
      × (came : List Taken) × IsWithin mid came × BreaksOff rule mid came end
      × Shows before after whole (map Took came) []

  -- whole batches, and then one whose sync answers so: of it these moves were made, and this text
  -- was written
  abbrev pub EndsAfter :
      Result (Unit {0}) CommitFault → (Batch → List Move) → (Batch → List ℕ) → Type 0
  EndsAfter answer moves text =
      (mid : Batching C) × Lead device rule start whole mid
      × (batch : Batch) × IsWithin mid batch.came × Batches device rule mid batch answer end
      × Shows before after whole (moves batch) (text batch)

  -- The sync failed, and the site needs opening: nothing of the batch is told, but that, or a part
  -- of that.
  abbrev pub EndsUnsynced : CommitFault → Type 0
  EndsUnsynced fault =
      (handed written : ℕ)
      × EndsAfter (Err fault)
      (λ batch. moves_in batch ++ take handed
      (all_handed (refusals end.serving.site (refusal_of fault) (took_by batch.turns))))
      (λ batch. take written (refusal_text end.serving.site (refusal_of fault)))

  -- the sync is done, and the first so many datagrams were handed out
  abbrev pub EndsUnwritten : Type 0
  EndsUnwritten =
      (count : ℕ)
      × EndsAfter (Ok tt)
      (λ batch. moves_in batch ++ take count (all_handed (posts_of batch.turns)))
      (λ batch. [])

  -- all was handed out, and a part of the text was written
  abbrev pub EndsInWriting : Type 0
  EndsInWriting =
      (count : ℕ) × EndsAfter (Ok tt) moves_of (λ batch. take count (text_of_all batch.turns))

  -- Ok: so many turns, in whole batches, and nothing is carried. Otherwise fewer, in whole batches;
  -- and then, with Port, a receive that failed; with Cell, a batch whose sync failed, or wasn't
  -- tried since one had failed before; with Memory none, or a batch that was broken off, not synced
  -- or not written; with Output a batch whose text failed to be written.
  abbrev pub ServesBatches : Result (Unit {0}) ServeFault → Type 0
  ServesBatches (Ok served) =
      (length (turns_of whole) ≡ wanted) × (end.carried ≡ None) × EndsBetween []
  ServesBatches (Err faults.Port) =
      (length (turns_of whole) < wanted) × EndsBetween (Failed ∷ [])
  ServesBatches (Err faults.Cell) =
      (length (turns_of whole) < wanted) × (end.held.needs_opening ≡ true)
      × (EndsUnsynced commits.Device ⊎ EndsUnsynced commits.NeedsOpen)
  ServesBatches (Err faults.Memory) =
      (length (turns_of whole) < wanted)
      × (EndsBetween [] ⊎ (EndsWithin
      ⊎ (EndsAfter (Err commits.Memory) moves_in (λ batch. []) ⊎ EndsUnwritten)))
  ServesBatches (Err faults.Output) =
      (length (turns_of whole) < wanted) × EndsInWriting
