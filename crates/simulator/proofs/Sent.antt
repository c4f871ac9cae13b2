-- The lines of datagrams that are sent, found again among all lines.
use Rattle.std.proofs.Common.{ℕ, zero, suc, ◌+◌, ◌≡◌, List, [], ◌∷◌, ◌++◌, length, map}
use Rattle.std.proofs.Common.{Option, Some, None, refl, ap, arith, append_assoc, add_assoc, one-add}
use Rattle.std.specs.Prelude.{slice_get}
use Rattle.std.proofs.Math.Nat.{add-zero}
use Rattle.std.proofs.lemmas.List.{length-append, length-map, map-append}
use Rattle.simulator.proofs.Places.{some_is}
use Rattle.site.specs.declared.answer.Outgoing.{Outgoing}
use Rattle.site.specs.Datagrams.{datagram, handed_out}
use Rattle.site.specs.Effects.{Send}
use Rattle.lines.specs.declared.line.Line.{Line}
use Rattle.world_law.specs.Worlds.{sent_lines}
use Rattle.world_law.proofs.Sends.{sender_byte}
use Rattle.simulator.specs.Sent.{line_sent, lines_sent, places_from, AreSent}

-- ---- the lines are those of the definitions

pub lines_are : (federation number : ℕ) (sends : List Send)
    → lines_sent number (map (datagram federation) sends) ≡ sent_lines federation number sends
unfolding lines_sent sent_lines
lines_are federation number [] = refl
lines_are federation number (d ∷ sends) =
    rw (sender_byte federation d.message, lines_are federation (number + 1) sends)

-- ---- places in a longer list

pub get_front : {X : Type 0} (xs ys : List X) (k : ℕ) (x : X) → slice_get xs k ≡ Some x
    → slice_get (xs ++ ys) k ≡ Some x
get_front [] ys k x is = absurd (cc is)
get_front (z ∷ xs) ys zero x is = is
get_front (z ∷ xs) ys (suc k) x is = get_front xs ys k x is

pub get_next : {X : Type 0} (xs ys : List X) (y : X)
    → slice_get (xs ++ y ∷ ys) (length xs) ≡ Some y
get_next [] ys y = refl
get_next (z ∷ xs) ys y = get_next xs ys y

-- ---- the datagrams that were sent

-- further lines
pub are_sent_among : (federation number : ℕ) (all more : List Line) (places : List ℕ)
    (sends : List Send) → AreSent federation number all places sends
    → AreSent federation number (all ++ more) places sends
unfolding AreSent
are_sent_among federation number all more [] [] are = tt
are_sent_among federation number all more (p ∷ places) (d ∷ sends) (is, are) =
    (get_front all more p _ is, are_sent_among federation (number + 1) all more places sends are)
are_sent_among federation number all more [] (d ∷ sends) are = are
are_sent_among federation number all more (p ∷ places) [] are = are

-- new ones, in a row
pub are_sent_new : (federation number : ℕ) (front : List Line) (sends : List Send)
    → AreSent federation number
    (front ++ lines_sent number (map (datagram federation) sends))
    (places_from (length front) (length sends)) sends
unfolding AreSent lines_sent places_from
are_sent_new federation number front [] = tt
are_sent_new federation number front (d ∷ sends) =
    let line = line_sent number (datagram federation d) in
    let others = lines_sent (number + 1) (map (datagram federation) sends) in
    let longer : length (front ++ line ∷ []) ≡ length front + 1 = length-append front _ in (
      get_next front others line,
      rw (longer, append_assoc front (line ∷ []) others)
          at (are_sent_new federation (number + 1) (front ++ line ∷ []) sends),
    )

-- the new ones after those before
pub are_sent_append : (federation number : ℕ) (all : List Line) (places others : List ℕ)
    (sends more : List Send) → AreSent federation number all places sends
    → AreSent federation (number + length sends) all others more
    → AreSent federation number all (places ++ others) (sends ++ more)
unfolding AreSent
are_sent_append federation number all [] others [] more are new = rw add-zero at new
are_sent_append federation number all (p ∷ places) others (d ∷ sends) more (is, are) new = (
  is,
  are_sent_append federation (number + 1) all places others sends more are
      (rw (add_assoc, one-add) new),
)
are_sent_append federation number all [] others (d ∷ sends) more are new = absurd are
are_sent_append federation number all (p ∷ places) others [] more are new = absurd are

-- there are as many places
pub are_sent_length : (federation number : ℕ) (all : List Line) (places : List ℕ)
    (sends : List Send) → AreSent federation number all places sends
    → length places ≡ length sends
unfolding AreSent
are_sent_length federation number all [] [] are = refl
are_sent_length federation number all (p ∷ places) (d ∷ sends) (is, are) =
    ap suc (are_sent_length federation (number + 1) all places sends are)
are_sent_length federation number all [] (d ∷ sends) are = absurd are
are_sent_length federation number all (p ∷ places) [] are = absurd are

-- what is found at a place
pub record IsFound (federation : ℕ) (all : List Line) (place : ℕ)
    (sent : Option Send) : Type 0 where
  pub send : Send
  pub number : ℕ
  pub is : sent ≡ Some send
  pub line : slice_get all place ≡ Some (line_sent number (datagram federation send))

pub sent_at : (federation number : ℕ) (all : List Line) (places : List ℕ) (sends : List Send)
    (k place : ℕ) → AreSent federation number all places sends → slice_get places k ≡ Some place
    → IsFound federation all place (slice_get sends k)
unfolding AreSent
sent_at federation number all [] [] k place are at = absurd (cc at)
sent_at federation number all (p ∷ places) (d ∷ sends) zero place (is, are) at = record {
  send = d;
  number = number;
  is = refl;
  line = rw (← some_is at) is;
}
sent_at federation number all (p ∷ places) (d ∷ sends) (suc k) place (is, are) at =
    sent_at federation (number + 1) all places sends k place are at
sent_at federation number all [] (d ∷ sends) k place are at = absurd are
sent_at federation number all (p ∷ places) [] k place are at = absurd are

pub none_sent_at : (federation number : ℕ) (all : List Line) (places : List ℕ) (sends : List Send)
    (k : ℕ) → AreSent federation number all places sends → slice_get places k ≡ None
    → slice_get sends k ≡ None
unfolding AreSent
none_sent_at federation number all [] [] k are at = refl
none_sent_at federation number all (p ∷ places) (d ∷ sends) zero (is, are) at = absurd (cc)
none_sent_at federation number all (p ∷ places) (d ∷ sends) (suc k) (is, are) at =
    none_sent_at federation (number + 1) all places sends k are at
none_sent_at federation number all [] (d ∷ sends) k are at = absurd are
none_sent_at federation number all (p ∷ places) [] k are at = absurd are

-- ---- one more is sent

lines_sent_more : (number : ℕ) (ds : List (ℕ × List ℕ)) (d : ℕ × List ℕ)
    → lines_sent number (ds ++ d ∷ []) ≡ lines_sent number ds ++ line_sent
    (number + length ds) d ∷ []
unfolding lines_sent
lines_sent_more number [] d = rw add-zero
lines_sent_more number (e ∷ ds) d =
    let same : (number + 1) + length ds ≡ number + suc (length ds) = omega arith in
    rw (lines_sent_more (number + 1) ds d, same)

places_more : (first count : ℕ)
    → places_from first (count + 1) ≡ places_from first count ++ (first + count) ∷ []
unfolding places_from
places_more first zero = rw add-zero
places_more first (suc count) =
    let one : suc count + 1 ≡ suc (count + 1) = omega arith in
    let same : (first + 1) + count ≡ first + suc count = omega arith in
    rw (one, places_more (first + 1) count, same)

lines_length : (number : ℕ) (ds : List (ℕ × List ℕ)) → length (lines_sent number ds) ≡ length ds
unfolding lines_sent
lines_length number [] = refl
lines_length number (d ∷ ds) = ap suc (lines_length (number + 1) ds)

places_length : (first count : ℕ) → length (places_from first count) ≡ count
unfolding places_from
places_length first zero = refl
places_length first (suc count) = ap suc (places_length (first + 1) count)

module _ (lines before after : List Line) (places sent new : List ℕ) (ys : List Outgoing)
    (s : Outgoing)
    (so_far : before ≡ lines ++ lines_sent (length places + 1) (map handed_out ys))
    (sent_so_far : sent ≡ places ++ places_from (length lines) (length ys)) where
  pub line_more : after ≡ before ++ line_sent (length sent + 1) (handed_out s) ∷ []
      → after ≡ lines ++ lines_sent (length places + 1) (map handed_out (ys ++ s ∷ []))
  line_more is =
      rw (is, number, so_far, map-append handed_out ys (s ∷ []))
      (rw (lines_sent_more (length places + 1) (map handed_out ys) (handed_out s))
      (append_assoc lines (lines_sent (length places + 1) (map handed_out ys)) _))
    where
      number : length sent + 1 ≡ length places + 1 + length (map handed_out ys)
      number = simp (sent_so_far, length-append, places_length, length-map) (omega arith)

  pub place_more : new ≡ sent ++ length before ∷ []
      → new ≡ places ++ places_from (length lines) (length (ys ++ s ∷ []))
  place_more is =
      rw (is, place, sent_so_far, length-append ys (s ∷ []))
      (rw (places_more (length lines) (length ys))
      (append_assoc places (places_from (length lines) (length ys)) _))
    where
      place : length before ≡ length lines + length ys
      place = simp (so_far, length-append, lines_length, length-map) (omega arith)
