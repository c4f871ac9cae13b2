-- What a federation represents, after one of its parts has changed.
use Rattle.std.proofs.Common.{ℕ, ◌+◌, ◌≡◌, true, false, List, ◌++◌}
use Rattle.std.proofs.Common.{length, map}
use Rattle.std.proofs.Common.{refl, arith, append_assoc}
use Rattle.fed_types.specs.Lists.{is_in}
use Rattle.fed_types.specs.Quorums.{QuorumSystem}
use Rattle.schedule.specs.declared.fate.Fate.{Fate}
use Rattle.site.specs.Calls.{Input}
use Rattle.site.specs.Datagrams.{datagram}
use Rattle.sim_stations.specs.Modes.{is_down}
use Rattle.lines.specs.declared.line.Line.{Line}
use Rattle.world_law.specs.Networks.{Mode, Down, Network}
use Rattle.world_law.specs.Networks.{SiteOutcome, step, takes, reaches, happening}
use Rattle.world_law.specs.Worlds.{World, quorums, own_lines}
use Rattle.sim_stations.specs.DatagramNumbers as numbers
use Rattle.simulator.specs.declared.federation.Federation.{Federation}
use Rattle.simulator.specs.Federations.{Represents, AreStations, IsSound}
use Rattle.simulator.specs.Inputs.{after}
use Rattle.simulator.specs.Sent.{AreSent, lines_sent, places_from}
use Rattle.simulator.proofs.Places.{with_state}
use Rattle.simulator.proofs.Sent.{lines_are, are_sent_among, are_sent_new, are_sent_append}
use Rattle.simulator.proofs.Sent.{are_sent_length}

-- ---- further lines, and nothing else

pub stands_saying : {f g : Federation} {w : World} (more : List Line)
    → g ≡ record f { lines = g.lines } → g.lines.items ≡ f.lines.items ++ more → Represents f w
    → Represents g (record w { lines = w.lines ++ more })
stands_saying more same lines is = rw same (record {
  members = is.members;
  stations = is.stations;
  sent = rw lines (are_sent_among _ _ _ _ _ _ is.sent);
  named = is.named;
  trees = is.trees;
  seen = is.seen;
  lines = rw (lines, is.lines);
  sound = is.sound;
})

-- ---- a call

-- what an input brings about at a member that isn't down
pub taken : (q : QuorumSystem) (w : Network) (site : ℕ) (input : Input) (fate : Fate)
    → is_in q.members site ≡ true → is_down (w.sites site).mode ≡ false
    → takes q w site input fate
    ≡ happening w site (step q site (w.sites site) (w.sites site).mode input fate)
taken q w site input fate member up = rw member (go (w.sites site).mode up)
  where
    go : (mode : Mode) → is_down mode ≡ false
        → reaches q w site mode input fate
        ≡ happening w site (step q site (w.sites site) mode input fate)
    go Down e = absurd (cc)
    go _ e = refl

-- the parts of a federation after a call of the site at a place came to an outcome
pub record Comes (f g : Federation) (w : World) (site : ℕ) (o : SiteOutcome) : Type 0 where
  pub same : g ≡ record f { stations = g.stations; sent = g.sent; lines = g.lines }
  pub stations : AreStations w.members g.stations.items (with_state site o.site w.network.sites)
  pub lines : g.lines.items ≡ (f.lines.items ++ own_lines w.seen o.notice)
      ++ lines_sent (length f.sent.sent + 1) (map (datagram w.members.federation) o.sends)
  pub sent : g.sent.sent ≡ f.sent.sent
      ++ places_from (length (f.lines.items ++ own_lines w.seen o.notice)) (length o.sends)
  pub named : numbers.RepresentsSame f.sent g.sent

pub stands_after : (f g : Federation) (w : World) (site : ℕ) (o : SiteOutcome) → Comes f g w site o
    → IsSound (quorums w) (happening w.network site o).network → Represents f w
    → Represents g (after w (happening w.network site o))
stands_after f g w site o c sound is = rw c.same (record {
  members = is.members;
  stations = c.stations;
  sent = rw (lines_so, c.sent) (are_sent_append federation 1 (front ++ new) f.sent.sent
      (places_from (length front) (length o.sends)) w.network.sent o.sends
      (are_sent_among federation 1 front new f.sent.sent w.network.sent
      (are_sent_among federation 1 f.lines.items own f.sent.sent w.network.sent is.sent)) new_ones);
  named = c.named w.named is.named;
  trees = is.trees;
  seen = is.seen;
  lines = rw (lines_so, append_assoc f.lines.items own new, is.lines)
      (rw (lines_are federation (length w.network.sent + 1) o.sends));
  sound = sound;
})
  where
    federation : ℕ
    federation = w.members.federation

    own : List Line
    own = own_lines w.seen o.notice

    front : List Line
    front = f.lines.items ++ own

    new : List Line
    new = lines_sent (length w.network.sent + 1) (map (datagram federation) o.sends)

    lines_so : g.lines.items ≡ front ++ new
    lines_so = rw c.lines
        (rw (are_sent_length federation 1 f.lines.items f.sent.sent w.network.sent is.sent))

    new_ones : AreSent federation (1 + length w.network.sent) (front ++ new)
        (places_from (length front) (length o.sends)) o.sends
    new_ones =
        let same : 1 + length w.network.sent ≡ length w.network.sent + 1 = omega arith in
        rw same (are_sent_new federation (length w.network.sent + 1) front o.sends)
