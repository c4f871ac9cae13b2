-- The lines of datagrams that are sent, and their places among all lines.
use Rattle.std.specs.Prelude.{ℕ, zero, suc, ◌+◌, ◌≡◌, get_or, List, [], ◌∷◌, Option, Some, None}
use Rattle.std.specs.Prelude.{slice_get}
use Rattle.site.specs.Datagrams.{datagram}
use Rattle.site.specs.Effects.{Send}
use Rattle.lines.specs.declared.line.Line.{Line}
use Rattle.lines.specs.declared.line.Line.TheVariants as lines
use Rattle.simulator.specs.declared.arrival.Arrival.{Arrival}

-- the place of the sender's byte in a datagram: after the magic, the layout, the kind and the
-- federation
abbrev pub SENDER_PLACE : ℕ
SENDER_PLACE = 12

-- the line of a datagram of this number, by the site to which it goes and its bytes
abbrev pub line_sent : (number : ℕ) → ℕ × List ℕ → Line
line_sent number d = lines.Sent number (get_or d.1 SENDER_PLACE 0) d.0 d.1

-- a line for each datagram; the first has this number
unfoldable pub lines_sent : (number : ℕ) → List (ℕ × List ℕ) → List Line
lines_sent number [] = []
lines_sent number (d ∷ sends) = line_sent number d ∷ lines_sent (number + 1) sends

-- `count` places, one after the other
unfoldable pub places_from : (first count : ℕ) → List ℕ
places_from first zero = []
places_from first (suc count) = first ∷ places_from (first + 1) count

-- each of these places has the line of a datagram; the first datagram has this number
unfoldable pub AreSent : (federation number : ℕ) → List Line → (places : List ℕ) → List Send
    → Type 0
AreSent federation number all [] [] = Unit {0}
AreSent federation number all (place ∷ places) (d ∷ sends) =
    (slice_get all place ≡ Some (line_sent number (datagram federation d)))
    × AreSent federation (number + 1) all places sends
AreSent federation number all [] (d ∷ sends) = ⊥
AreSent federation number all (place ∷ places) [] = ⊥

-- what arrives is this datagram, if there is one
abbrev pub IsArrival : (federation : ℕ) → Option Arrival → Option Send → Type 0
IsArrival federation None None = Unit {0}
IsArrival federation (Some a) (Some d) = (a.to, a.bytes.items) ≡ datagram federation d
IsArrival federation None (Some d) = ⊥
IsArrival federation (Some a) None = ⊥

-- the site and the bytes of what arrives, and of what a line says was sent
abbrev pub arriving : Option Arrival → Option (ℕ × List ℕ)
arriving None = None
arriving (Some a) = Some (a.to, a.bytes.items)

abbrev pub sent_by : Option Line → Option (ℕ × List ℕ)
sent_by (Some (lines.Sent number from to bytes)) = Some (to, bytes)
sent_by other = None
