-- A turn of a site whose records wait only adds records, and its site waits still.
use Rattle.std.proofs.Common.{inl, inr, ◌≡◌, ℕ, false, List, [], ◌∷◌, Option, Result, Ok, Err, ◌∙◌}
use Rattle.udp_site.proofs.TurnCalls.{came}
use Rattle.bag_tree.specs.declared.fault.TreeFault.{TreeFault}
use Rattle.bag_tree.specs.Facts.{TreeFacts}
use Rattle.book.specs.declared.waiting.Waiting.{Waiting}
use Rattle.site.specs.Batches.{no_cell}
use Rattle.site.specs.Sites.{OpenSite, effect}
use Rattle.site.proofs.Batched.{Grows, grows_not, grows_twice, grows_answered}
use Rattle.lines.specs.declared.line.Line.{Line}
use Rattle.std.specs.declared.alloc.AllocError.{AllocError}
use Rattle.udp_site.specs.Traffic.{Post, Taken}
use Rattle.udp_site.specs.Requests.{Request, request_of}
use Rattle.udp_site.specs.Served.{Turned}
use Rattle.udp_site.specs.Turns.{Serving, Done, members, comes_of, turn_of}
use Rattle.udp_site.specs.BatchTurns.{Follow}
use Rattle.udp_site.specs.inner.Batched.{TakesTurns}

-- it needs no opening
abbrev pub IsOpen : Serving Waiting → Type 0
IsOpen s = s.site.book.needs_opening ≡ false

-- only records are added
abbrev pub Adds : (old new : Serving Waiting) → Type 0
Adds old new = Grows old.site.book new.site.book

turned : (addresses : List ℕ) (gives : Option (List ℕ → Result TreeFacts TreeFault))
    (old new : Serving Waiting) (done : Done) → IsOpen old → (request : Request)
    → comes_of no_cell addresses gives old request done new → Adds old new
turned addresses gives old new done opened request comes =
    elim (came no_cell addresses new done gives old request comes) [
      | inl c ↦
          let opened_there : IsOpen c.at = rw c.there opened in
          rw (← c.there)
          (grows_answered c.at.site new.site c.at.volatile
          (effect c.at.site c.at.volatile c.input) c.result (c.called.answered opened_there)
          opened_there)
      | inr (unchanged, says) ↦ grows_not old.site.book new.site.book (rw unchanged)
    ]

module _ (addresses : List ℕ) (gives : Option (List ℕ → Result TreeFacts TreeFault)) where
  -- so do the turns of a batch
  pub followed : (start end : Serving Waiting) (turns : List Turned) → IsOpen start
      → Follow (turn_of no_cell addresses gives) start turns end → Adds start end
  followed start end [] opened is = grows_not start.site.book end.site.book (rw is)
  followed start end (turn ∷ turns) opened (next, comes, more) =
      let first =
      turned addresses gives start next turn.done opened
      (request_of (members start).federation turn.took) comes in
      grows_twice start.site.book next.site.book end.site.book first
      (followed next end turns (first.opened ∙ opened) more)

  -- and so does one more
  pub followed_by : (start mid end : Serving Waiting) (turns : List Turned) (turn : Turned)
      → IsOpen start → Follow (turn_of no_cell addresses gives) start turns mid
      → turn_of no_cell addresses gives mid turn.took turn.done end → Adds start end
  followed_by start mid end turns turn opened follow comes =
      let first = followed start mid turns opened follow in
      grows_twice start.site.book mid.site.book end.site.book first
      (turned addresses gives mid end turn.done (first.opened ∙ opened)
      (request_of (members mid).federation turn.took) comes)

-- so do the turns of a batch, all or some of them
module _ (addresses : List ℕ) (gives : Option (List ℕ → Result TreeFacts TreeFault))
    (took : List Taken) (s : Serving Waiting) (old new : OpenSite Waiting) (there : s.site ≡ old)
    (opened : old.book.needs_opening ≡ false) (posted : List Post) (said : List Line)
    (idle tried : ℕ) where
  open_there : IsOpen s
  open_there = rw there opened

  pub taken_grows : (result : Result (Unit {0}) AllocError)
      → TakesTurns (turn_of no_cell addresses gives) took s new posted said idle tried result
      → Grows old.book new.book
  taken_grows (Ok x) takes =
      rw (← there, ← takes.4)
      (followed addresses gives s takes.1 takes.0 open_there takes.3)
  taken_grows (Err e) takes =
      rw (← there, ← takes.6)
      (followed_by addresses gives s takes.1 takes.4 takes.0 takes.3 open_there takes.2 takes.5)
