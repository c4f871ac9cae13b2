-- What a process has handed out and written, over all its batches.
use Rattle.std.proofs.Common.{◌≡◌, List, [], ◌∷◌, ◌++◌, take, refl, sym, append-nil, append_assoc}
use Rattle.std.specs.List.{flat_map}
use Rattle.std.proofs.lemmas.List.Concat.{flat_map-append}
use Rattle.cell_device.specs.Devices.{Device}
use Rattle.records.specs.declared.owner.Owner.{Owner}
use Rattle.records.specs.declared.record.Record.{Record}
use Rattle.book.specs.declared.waiting.Waiting.{Waiting}
use Rattle.udp_site.specs.Traffic.{Post, Move, Handed, all_handed}
use Rattle.udp_site.specs.Served.{Rule, Outside, Turned, text_of}
use Rattle.udp_site.specs.BatchTurns.{Batch, moves_in, moves_of, posts_of, text_of_all, turns_of}
use Rattle.serving_law.specs.Disks.{Disk}
use Rattle.serving_law.specs.Federations.{Happening}
use Rattle.process_law.specs.Processes.{Last, Quiet, Unsynced, Synced, IsLast, HasCome, last_moves}
use Rattle.process_law.specs.Processes.{last_text, handed_by, whole_batches, moves_since}
use Rattle.process_law.specs.Processes.{text_since, posts_in, text_in, posts_last, text_last}
use Rattle.process_law.specs.Processes.{posts_refused, text_refused, TellsAll}
use Rattle.process_law.proofs.Reached.{none_handed, first_handed}

-- by some moves, and then by others
handed_by_both : (m n : List Move) → handed_by (m ++ n) ≡ handed_by m ++ handed_by n
handed_by_both [] n = refl
handed_by_both (Handed post ∷ m) n = rw (handed_by_both m n)
handed_by_both (_ ∷ m) n = handed_by_both m n

all_are : (posts : List Post) → handed_by (all_handed posts) ≡ posts
unfolding all_handed
all_are [] = refl
all_are (post ∷ posts) = rw (all_are posts)

-- a batch takes in what came, and then these are handed out
by_batch : (batch : Batch) (posts : List Post)
    → handed_by (moves_in batch ++ all_handed posts) ≡ posts
by_batch batch posts =
    rw (handed_by_both (moves_in batch) (all_handed posts), none_handed batch.came) (all_are posts)

by_batches : (batches : List Batch)
    → handed_by (flat_map moves_of batches) ≡ posts_of (turns_of batches)
by_batches [] = refl
by_batches (batch ∷ batches) =
    rw (handed_by_both (moves_of batch), by_batch batch (posts_of batch.turns), by_batches batches)
    (sym (flat_map-append (λ (turn : Turned). turn.done.posts) batch.turns (turns_of batches)))

text_of_batches : (batches : List Batch)
    → flat_map (λ (batch : Batch). text_of_all batch.turns) batches
    ≡ text_of_all (turns_of batches)
text_of_batches [] = refl
text_of_batches (batch ∷ batches) =
    rw (text_of_batches batches) (sym (flat_map-append text_of batch.turns (turns_of batches)))

text_at_last : (last : Last) → last_text last ≡ text_last last ++ text_refused last
text_at_last (Synced batch handed written) = rw append-nil
text_at_last _ = refl

module _ {C : Type 0} {device : C → Device} {rule : Rule Waiting} {owner : Owner} {cell : C}
    {before now : Outside} {left : List Record}
    (come : HasCome device rule owner cell before now left) where
  at_last : (last : Last) → IsLast device rule owner come.mid left last
      → handed_by (last_moves last) ≡ posts_last last ++ posts_refused last
  at_last (Quiet moves) (none, may) = none
  at_last (Unsynced batch refused said) is = by_batch batch refused
  at_last (Synced batch handed written) is =
      let posts : List Post = posts_of batch.turns in
      rw (first_handed handed posts, append-nil (take handed posts))
      (by_batch batch (take handed posts))

  pub tells_all : (account : List (Happening Disk))
      → posts_in account ≡ posts_of (turns_of (whole_batches come)) ++ posts_last come.last
      → text_in account ≡ text_of_all (turns_of (whole_batches come)) ++ text_last come.last
      → TellsAll (moves_since come) (text_since come) come.last account
  tells_all account posts text =
      let whole : List Batch = whole_batches come in
      record {
        handed =
            let first = by_batches whole in let last = at_last come.last come.is_last in
            rw (handed_by_both (flat_map moves_of whole), first, last, posts, append_assoc);
        written = rw (text_of_batches whole, text_at_last come.last, text, append_assoc);
      }
