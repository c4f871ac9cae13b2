-- Who is asked how they stand, and what is heard.
use Rattle.std.specs.Prelude.{◌≡◌, ◌==◌, ◌&&◌, ℕ, Bool, true, false, List, [], ◌∷◌, ◌++◌, map}
use Rattle.std.specs.Prelude.{filter}
use Rattle.std.specs.Prelude.{Option, Some, None, if◌then◌else◌}
use Rattle.std.specs.Option.{option_map}
use Rattle.udp_site.specs.declared.status.Standing.{Standing}
use Rattle.udp_site.specs.Status.{status_question}
use Rattle.udp_site.specs.Traffic.{Move, Took, Failed, Handed, Nothing, From}
use Rattle.standings.specs.declared.polled.Heard.{Heard}
use Rattle.standings.specs.declared.polled.Polled.{Polled}
use Rattle.standings.specs.Answers.{standing_in}

-- ---- who is asked

-- the site hasn't answered yet
abbrev pub is_open : Option Heard → Bool
is_open None = true
is_open (Some heard) = false

-- the question is handed out to each site that hasn't answered, in their order
abbrev pub asked : (federation : ℕ) → List Polled → List Move
asked federation sites =
    map (λ p. Handed (p.address, status_question federation))
    (filter (λ p. is_open p.heard) sites)

-- ---- what is heard

-- it came after so many milliseconds
abbrev pub after : (millis : ℕ) → Standing → Heard
after millis standing = record { millis = millis; standing = standing }

-- A site has answered if its answer came from its address. The first one counts.
abbrev pub hears : (federation : ℕ) → (from : ℕ) → List ℕ → (millis : ℕ) → Polled → Polled
hears federation from bytes millis p =
    if is_open p.heard && p.address == from
    then record p {
      heard = option_map (after millis) (standing_in federation p.site bytes);
    }
    else p

-- Datagrams are taken in, and none is handed out; each may be an answer. After how many
-- milliseconds one came is what a clock said, of which nothing is said here.
abbrev pub AreHeard : (federation : ℕ) → (before : List Polled) → List Move
    → (sites : List Polled) → Type 0
AreHeard federation before [] sites = sites ≡ before
AreHeard federation before (Took Nothing ∷ moves) sites = AreHeard federation before moves sites
AreHeard federation before (Took (From from bytes) ∷ moves) sites =
    (millis : ℕ)
    × AreHeard federation (map (hears federation from bytes millis) before) moves sites
AreHeard federation before (Failed ∷ moves) sites = AreHeard federation before moves sites
AreHeard federation before (Handed post ∷ moves) sites = ⊥

-- ---- rounds

-- those that haven't answered are asked, and then some of them answer
abbrev pub IsRound : (federation : ℕ) → (before : List Polled) → List Move
    → (sites : List Polled) → Type 0
IsRound federation before moves sites =
    (others : List Move) × (moves ≡ asked federation before ++ others)
    × AreHeard federation before others sites

-- three times: so a datagram that is lost doesn't make a site silent
abbrev pub AreAsked : (federation : ℕ) → (before : List Polled) → List Move
    → (sites : List Polled) → Type 0
AreAsked federation before moves sites =
    (one : List Polled) × (two : List Polled)
    × (first : List Move) × (second : List Move) × (third : List Move)
    × (moves ≡ first ++ (second ++ third))
    × IsRound federation before first one × IsRound federation one second two
    × IsRound federation two third sites
