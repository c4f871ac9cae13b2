-- What private functions do.
use Rattle.std.specs.Prelude.{◌≡◌, ℕ, List, [], ◌∷◌, Option, Some, None}
use Rattle.udp_site.specs.Traffic.{Taken, Nothing, From, Move, Took, Grows}
use Rattle.standings.specs.declared.polled.Polled.{Polled}
use Rattle.standings.specs.Rounds.{AreHeard, IsRound, AreAsked}
use Rattle.standings.specs.Reports.{report}

-- what is taken in, if anything is, may be answers
abbrev pub HaveListened : (federation : ℕ) → (before after : Option (List Move))
    → (old new : List Polled) → Type 0
HaveListened federation before after old new =
    (moves : List Move) × Grows before after moves × AreHeard federation old moves new

-- the datagram that was taken in, if one was: its address, and its bytes
abbrev pub datagram_taken : Taken → Option (ℕ × List ℕ)
datagram_taken Nothing = None
datagram_taken (From address bytes) = Some (address, bytes)

-- a datagram is taken in, of these bytes and from this address; or nothing is heard
abbrev pub IsNext : (before after : Option (List Move)) → Option (ℕ × List ℕ) → Type 0
IsNext before after (Some datagram) =
    Grows before after (Took (From datagram.0 datagram.1) ∷ [])
IsNext before after None =
    (federation : ℕ) → (sites : List Polled) → HaveListened federation before after sites sites

-- a round, and three
abbrev pub HasRound : (federation : ℕ) → (before after : Option (List Move))
    → (old new : List Polled) → Type 0
HasRound federation before after old new =
    (moves : List Move) × Grows before after moves × IsRound federation old moves new

abbrev pub HaveAsked : (federation : ℕ) → (before after : Option (List Move))
    → (old new : List Polled) → Type 0
HaveAsked federation before after old new =
    (moves : List Move) × Grows before after moves × AreAsked federation old moves new

-- the sites are asked, and this is the report of what is heard
abbrev pub IsTold : (federation by_files : ℕ) → (sites : List Polled)
    → (before after : Option (List Move)) → (status : ℕ) → (text : List ℕ) → Type 0
IsTold federation by_files sites before after status text =
    (heard : List Polled) × HaveAsked federation before after sites heard
    × (status ≡ (report federation by_files heard).status)
    × (text ≡ (report federation by_files heard).text)
