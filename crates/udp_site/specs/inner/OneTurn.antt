-- What one turn comes to, in the code's variables.
use Rattle.std.specs.Prelude.{◌≡◌, ◌⊎◌, ℕ, Bool, true, false, List, [], ◌∷◌, take}
use Rattle.std.specs.Prelude.{Result, Ok, Err}
use Rattle.std.specs.Io.KnownBytes.{Appends}
use Rattle.site.specs.Sites.{OpenSite}
use Rattle.udp_site.specs.declared.fault.ServeFault.{ServeFault}
use Rattle.udp_site.specs.declared.fault.ServeFault.TheVariants as faults
use Rattle.udp_site.specs.Traffic.{Move, Failed, Grows}
use Rattle.udp_site.specs.Turns.{Serving, IsServing}
use Rattle.udp_site.specs.Served.{Rule, Outside, Turned, moves_of, first_moves, text_of}
use Rattle.udp_site.specs.Served.{is_the_last}

-- these moves were made, and this was written
abbrev pub Adds : (before after : Outside) → List Move → List ℕ → Type 0
Adds before after moves text =
    Grows before.traffic after.traffic moves × Appends before.written after.written text

module _ {C : Type 0} (rule : Rule C) (before after : Outside) (old : Serving C)
    (site : OpenSite C) where
  -- a whole turn, after which the site can go on, or can't
  abbrev pub Whole : (idle tried : ℕ) → (last : Bool) → Type 0
  Whole idle tried last =
      (turn : Turned) × (next : Serving C) × rule old turn.took turn.done next
      × (next.site ≡ site) × (next.idle ≡ idle) × (next.tried ≡ tried) × IsServing next
      × (is_the_last turn ≡ last) × Adds before after (moves_of turn) (text_of turn)

  -- a turn of which these moves were made, and this text was written
  abbrev pub Part : (Turned → List Move) → (Turned → List ℕ) → Type 0
  Part moves text =
      (turn : Turned) × (next : Serving C) × rule old turn.took turn.done next
      × (next.site ≡ site) × Adds before after (moves turn) (text turn)

  -- a turn that was broken off before anything of it was written
  abbrev pub Unwritten : Type 0
  Unwritten = (count : ℕ) × Part (first_moves count) (λ turn. [])

  -- a turn of whose text a part was written, after which the site can go on, or can't
  abbrev pub InWriting : (last : Bool) → Type 0
  InWriting last =
      (turn : Turned) × (next : Serving C) × rule old turn.took turn.done next
      × (next.site ≡ site) × (is_the_last turn ≡ last)
      × (count : ℕ) × Adds before after (moves_of turn) (take count (text_of turn))

  -- no turn was begun, but these moves were made
  abbrev pub None : List Move → Type 0
  None moves = (old.site ≡ site) × Adds before after moves []

  abbrev pub OneTurn : (idle tried : ℕ) → Result (Unit {0}) ServeFault → Type 0
  OneTurn idle tried (Ok whole) = Whole idle tried false
  OneTurn idle tried (Err faults.Port) = None (Failed ∷ [])
  OneTurn idle tried (Err faults.Cell) =
      InWriting true × (site.book.needs_opening ≡ true)
  OneTurn idle tried (Err faults.Memory) = None [] ⊎ Unwritten
  OneTurn idle tried (Err faults.Output) = InWriting false
