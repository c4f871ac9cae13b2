-- What a site has done that served so many turns, or was stopped by a fault.
use Rattle.std.specs.Prelude.{◌≡◌, ◌⊎◌, ◌<◌, ◌||◌, ℕ, Bool, true, false, List, [], ◌∷◌, ◌++◌}
use Rattle.std.specs.Prelude.{length, take, Option, Result, Ok, Err}
use Rattle.std.specs.List.{flat_map}
use Rattle.std.specs.Io.KnownBytes.{Appends}
use Rattle.site.specs.declared.fault.SiteFault.TheVariants as sites
use Rattle.lines.specs.declared.notice.Notice.{Notice}
use Rattle.lines.specs.declared.notice.Notice.TheVariants.{Refused}
use Rattle.lines.specs.Named.{line_of}
use Rattle.lines.specs.declared.print_line.Options.{Options}
use Rattle.lines.specs.Texts.{line_text}
use Rattle.udp_site.specs.declared.fault.ServeFault.{ServeFault}
use Rattle.udp_site.specs.declared.fault.ServeFault.TheVariants as faults
use Rattle.udp_site.specs.Traffic.{Taken, Move, Took, Failed, Grows, all_handed}
use Rattle.udp_site.specs.Turns.{Serving, Coming, Done}

-- ---- the text

-- lines name bags by their identities
abbrev pub by_identity : Options
by_identity = record { sent = false; identities = true }

abbrev pub notice_text : Notice → List ℕ
notice_text notice = line_text by_identity (line_of [] notice)

-- ---- one turn after another

-- what one turn took, and what was done then
pub record Turned : Type 0 where
  pub took : Taken
  pub done : Done

abbrev pub moves_of : Turned → List Move
moves_of turn = Took turn.took ∷ all_handed turn.done.posts

-- it was received, and the first so many of its datagrams were handed out
abbrev pub first_moves : (count : ℕ) → Turned → List Move
first_moves count turn = Took turn.took ∷ take count (all_handed turn.done.posts)

abbrev pub text_of : Turned → List ℕ
text_of turn = flat_map notice_text turn.done.notices

-- a call was refused since the site's device failed, now or before
abbrev pub is_of_the_cell : Notice → Bool
is_of_the_cell (Refused site sites.Device) = true
is_of_the_cell (Refused site sites.NeedsOpen) = true
is_of_the_cell notice = false

abbrev pub or_one : List Notice → Bool
or_one [] = false
or_one (notice ∷ notices) = is_of_the_cell notice || or_one notices

-- the site can't go on after this turn
abbrev pub is_the_last : Turned → Bool
is_the_last turn = or_one turn.done.notices

-- what may come of a turn that took this
abbrev pub Rule : Type 0 → Type 1
Rule C = Serving C → Taken → Coming C

module _ {C : Type 0} (rule : Rule C) where
  -- these turns lead from one to the other, and after none of them is the site stopped by its cell
  abbrev pub Leads : Serving C → List Turned → Serving C → Type 0
  Leads start [] end = start ≡ end
  Leads start (turn ∷ turns) end =
      (next : Serving C) × rule start turn.took turn.done next
      × (is_the_last turn ≡ false) × Leads next turns end

-- what is outside: the traffic of the port, and what was written
pub record Outside : Type 0 where
  pub traffic : Option (List Move)
  pub written : Option (List ℕ)

abbrev pub outside : Option (List Move) → Option (List ℕ) → Outside
outside traffic written = record { traffic = traffic; written = written }

-- all moves of these turns were made, and all their text was written; and then these
abbrev pub Shows : (before after : Outside) → List Turned → List Move → List ℕ → Type 0
Shows before after turns moves text =
    Grows before.traffic after.traffic (flat_map moves_of turns ++ moves)
    × Appends before.written after.written (flat_map text_of turns ++ text)

-- what was outside as the call began, and is when it ends
module _ {C : Type 0} (rule : Rule C) (before after : Outside) where
  -- whole turns, and then no turn, but these moves
  abbrev pub EndsBetween : (start end : Serving C) → List Turned → List Move → Type 0
  EndsBetween start end turns moves = Leads rule start turns end × Shows before after turns moves []

  -- whole turns, and then one of which these moves were made, and this text was written
  abbrev pub EndsWithin :
      (start end : Serving C) → List Turned → (Turned → List Move) → (Turned → List ℕ) → Type 0
  EndsWithin start end turns moves text =
      (mid : Serving C) × Leads rule start turns mid
      × (turn : Turned) × rule mid turn.took turn.done end
      × Shows before after turns (moves turn) (text turn)

  -- the last turn was received, and broken off before anything of it was written
  abbrev pub EndsUnwritten : (start end : Serving C) → List Turned → Type 0
  EndsUnwritten start end turns =
      (count : ℕ) × EndsWithin start end turns (first_moves count) (λ turn. [])

  -- Whole turns, and then one that was handed out, and of whose text a part was written; after it
  -- the site can go on, or its cell has failed it, and it is the last.
  abbrev pub EndsInWriting : (last : Bool) → (start end : Serving C) → List Turned → Type 0
  EndsInWriting last start end turns =
      (mid : Serving C) × Leads rule start turns mid
      × (turn : Turned) × rule mid turn.took turn.done end × (is_the_last turn ≡ last)
      × (count : ℕ) × Shows before after turns (moves_of turn) (take count (text_of turn))

  -- Ok: so many turns, all whole. Port: fewer, all whole, and then a receive that failed. Cell: the
  -- site needs opening, and that is why the last turn was the last; its text is whole but where
  -- that couldn't be written either. Memory: fewer, all whole, and then none or one that is
  -- unwritten. Output: the last turn's text failed to be written, and its cell had not failed it.
  abbrev pub Serves :
      (start end : Serving C) → (wanted : ℕ) → (turns : List Turned)
      → Result (Unit {0}) ServeFault → Type 0
  Serves start end wanted turns (Ok served) =
      (length turns ≡ wanted) × EndsBetween start end turns []
  Serves start end wanted turns (Err faults.Port) =
      (length turns < wanted) × EndsBetween start end turns (Failed ∷ [])
  Serves start end wanted turns (Err faults.Cell) =
      (length turns < wanted) × EndsInWriting true start end turns
      × (end.site.book.needs_opening ≡ true)
  Serves start end wanted turns (Err faults.Memory) =
      (length turns < wanted) × (EndsBetween start end turns [] ⊎ EndsUnwritten start end turns)
  Serves start end wanted turns (Err faults.Output) =
      (length turns < wanted) × EndsInWriting false start end turns
