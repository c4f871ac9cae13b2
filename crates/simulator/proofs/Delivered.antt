-- A datagram that is delivered, and bytes that arrive.
use Rattle.std.proofs.Common.{ℕ, zero, suc, ◌+◌, ◌<◌, ◌≡◌, false, List, [], ◌∷◌, ◌++◌}
use Rattle.std.proofs.Common.{length, Option, Some, None, refl, sym, ap, ◌∙◌, append-nil}
use Rattle.std.specs.Prelude.{slice_get}
use Rattle.fed_types.specs.Lists.{is_in}
use Rattle.schedule.specs.declared.fate.Fate.{Fate}
use Rattle.dgram.specs.Decoded.{message_of}
use Rattle.site.specs.Calls.{Arrives}
use Rattle.site.specs.Datagrams.{datagram}
use Rattle.site.specs.Effects.{Send}
use Rattle.lines.specs.declared.line.Line.{Line}
use Rattle.lines.specs.declared.line.Reason.TheVariants as reasons
use Rattle.world_law.specs.Networks.{Deliver, datagram_at, takes}
use Rattle.world_law.specs.Worlds.{World, mode_of, quorums, event_at, unless_down}
use Rattle.world_law.specs.Worlds.{skips, with_named, on_deliver, on_datagram}
use Rattle.world_law.proofs.Sends.{datagram_is_read, at_number}
use Rattle.sim_stations.specs.DatagramNumbers as numbers
use Rattle.sim_stations.specs.DatagramNumbers.{numbered}
use Rattle.simulator.specs.declared.arrival.Arrival.{Arrival}
use Rattle.simulator.specs.declared.federation.Federation.{Federation}
use Rattle.simulator.specs.Federations.{Represents, IsSound}
use Rattle.simulator.specs.Inputs.{after_input, place_in}
use Rattle.simulator.specs.Sent.{IsArrival, arriving, sent_by}
use Rattle.simulator.proofs.Arrivals.{arrives_as, delivers_as, reaches_nobody}
use Rattle.simulator.proofs.Places.{member_at, none_at, some_is}
use Rattle.simulator.proofs.Sent.{IsFound, sent_at, none_sent_at}
use Rattle.simulator.proofs.Sound.{sound_after}

-- ---- a number is named

-- g is f with a name for one more datagram
pub record Names (f g : Federation) (k : ℕ) : Type 0 where
  pub same : g ≡ record f { sent = g.sent }
  pub sent : g.sent.sent ≡ f.sent.sent
  pub named : (named : List ℕ) → numbers.Represents f.sent named
      → numbers.Represents g.sent (named ++ k ∷ [])

stands_naming : {f g : Federation} {w : World} {k : ℕ} → Names f g k → Represents f w
    → Represents g (with_named w k)
stands_naming {w = w} n is = rw n.same (record {
  members = is.members;
  stations = is.stations;
  sent = rw n.sent is.sent;
  named = n.named w.named is.named;
  trees = is.trees;
  seen = is.seen;
  lines = is.lines;
  sound = is.sound;
})

-- ---- the datagram of a number

is_numbered : (f : Federation) (w : World) (k place : ℕ) → Represents f w
    → numbered k f.sent.sent ≡ Some place
    → IsFound w.members.federation f.lines.items place (datagram_at k w.network.sent)
is_numbered f w zero place is here = absurd (cc here)
is_numbered f w (suc k) place is here =
    sent_at w.members.federation 1 f.lines.items f.sent.sent w.network.sent k place is.sent here

-- no datagram of the number was sent, so nothing arrives
pub none_arrives : (f : Federation) (w : World) (k : ℕ) → Represents f w
    → numbered k f.sent.sent ≡ None
    → IsArrival w.members.federation None (datagram_at k w.network.sent)
none_arrives f w zero is none = tt
none_arrives f w (suc k) is none =
    rw (none_sent_at w.members.federation 1 f.lines.items f.sent.sent w.network.sent k is.sent none)
    tt

-- ---- an arrival

module _ (f g : Federation) (w : World) (number k to : ℕ) (bytes : List ℕ) (fate : Fate) (d : Send)
    (is : Represents f w) (at : datagram_at k w.network.sent ≡ Some d)
    (of : ◌≡◌ {A = ℕ × List ℕ} (to, bytes) (datagram w.members.federation d)) where
  to_is : to ≡ d.to
  to_is = ap (λ (p : ℕ × List ℕ). p.0) of

  input_is : Arrives (message_of w.members.federation bytes) ≡ Arrives (Some d.message)
  input_is =
      let read =
      datagram_is_read w.members.federation d.message
      (is.sound.well_formed.sent d (at_number k w.network.sent d at)).1 in
      rw (ap (λ (p : ℕ × List ℕ). p.1) of, read)

  pub arrived : (place : ℕ) → place_in (length f.stations.items) to ≡ Some place
      → (place < length f.stations.items
      → IsSound (quorums w) (takes (quorums w) w.network (place + 1)
      (Arrives (message_of w.members.federation bytes)) fate).network
      → Represents g (unless_down w number (mode_of w (place + 1))
      (after_input w (place + 1) (Arrives (message_of w.members.federation bytes)) fate)))
      → Represents g (event_at w number d.to (Deliver k fate))
  arrived place placed called =
      let p = member_at w.members (length f.stations.items) to place is.stations.count placed in
      let site_is : place + 1 ≡ d.to = sym p.number ∙ to_is in
      rw (delivers_as w k fate d at, ← input_is, ← site_is)
      (called p.within (rw (arrives_as w k fate d at, ← input_is, ← site_is)
      at (sound_after (quorums w) w.network (Deliver k fate) tt is.sound)))

  pub nobody : place_in (length f.stations.items) to ≡ None
      → Represents f (event_at w number d.to (Deliver k fate))
  nobody none =
      let stranger : is_in (quorums w).members d.to ≡ false =
      rw (← to_is) (none_at w.members (length f.stations.items) to is.stations.count none) in
      rw (reaches_nobody w number k fate d at stranger (is.sound.others d.to stranger))
      (rw (append-nil w.lines) is)

-- ---- a delivery

-- what arrives leads where the delivery does
module _ (f mid g : Federation) (w : World) (number k : ℕ) (fate : Fate) (o : Option Arrival)
    (is : Represents f w) (names : Names f mid k)
    (found : (v : World) → Represents mid v
    → IsArrival v.members.federation o (datagram_at k v.network.sent)) where
  pub deliver_some : (a : Arrival) (to : ℕ) (bytes : List ℕ) → o ≡ Some a → to ≡ a.to
      → bytes ≡ a.bytes.items
      → ((v : World) (j : ℕ) (d : Send) → Represents mid v → datagram_at j v.network.sent ≡ Some d
      → ◌≡◌ {A = ℕ × List ℕ} (to, bytes) (datagram v.members.federation d)
      → Represents g (event_at v number d.to (Deliver j fate)))
      → Represents g (on_deliver w number k fate)
  unfolding on_deliver on_datagram
  deliver_some a to bytes some to_is bytes_is arrives =
      go (datagram_at k w.network.sent) refl
      (rw some at (found (with_named w k) (stands_naming names is)))
    where
      go : (sent : Option Send) → datagram_at k w.network.sent ≡ sent
          → IsArrival w.members.federation (Some a) sent
          → Represents g (on_datagram (with_named w k) number k fate sent)
      go None sent of = absurd of
      go (Some d) sent of =
          arrives (with_named w k) k d (stands_naming names is) sent (rw (to_is, bytes_is) of)

  pub deliver_none : o ≡ None
      → ((v : World) → Represents mid v → Represents g (skips v number reasons.Datagram))
      → Represents g (on_deliver w number k fate)
  unfolding on_deliver on_datagram
  deliver_none none skipped =
      go (datagram_at k w.network.sent)
      (rw none at (found (with_named w k) (stands_naming names is)))
    where
      go : (sent : Option Send) → IsArrival w.members.federation None sent
          → Represents g (on_datagram (with_named w k) number k fate sent)
      go None of = skipped (with_named w k) (stands_naming names is)
      go (Some d) of = absurd of

-- what a line says was sent is the datagram of its number
pub arrives_from : (f : Federation) (w : World) (k place : ℕ) (a : Option Arrival)
    (line : Option Line) → Represents f w → Some place ≡ numbered k f.sent.sent
    → line ≡ slice_get f.lines.items place → arriving a ≡ sent_by line
    → IsArrival w.members.federation a (datagram_at k w.network.sent)
arrives_from f w k place a line is numbered here says =
    rw found.is (go a (rw (here, found.line) at says))
  where
    found : IsFound w.members.federation f.lines.items place (datagram_at k w.network.sent)
    found = is_numbered f w k place is (sym numbered)

    go : (a : Option Arrival)
        → arriving a ≡ Some (datagram w.members.federation found.send)
        → IsArrival w.members.federation a (Some found.send)
    go None e = absurd (cc)
    go (Some a) e = some_is e
