-- A federation after one of its sites was called, stopped or started, was asked, or got bytes that
-- are no message.
use Rattle.std.proofs.Common.{ℕ, ◌+◌, ◌<◌, ◌≡◌, true, false, List, [], ◌∷◌, ◌++◌, length, map}
use Rattle.std.proofs.Common.{get_or, Option, Some, None, Result, Ok, Err, refl, sym, ◌∙◌}
use Rattle.std.proofs.Common.{append-nil, arith}
use Rattle.std.specs.Prelude.{slice_set, is_some, IfOk, OnOk}
use Rattle.std.proofs.lemmas.List.{length-map}
use Rattle.std.proofs.lemmas.Bool.Decides.{nat_tests}
use Rattle.fed_types.specs.Lists.{is_in}
use Rattle.fed_types.specs.declared.bag_id.BagId.{BagId}
use Rattle.fed_types.specs.Laws.Lists.{is_in_decides}
use Rattle.fed_types.specs.Laws.Sites.{is_in-sites_to}
use Rattle.fed_types.specs.Slots.{SlotName}
use Rattle.fed_types.specs.Values.{IsSlot, IsBag}
use Rattle.fed_types.specs.Sites.{count_of}
use Rattle.schedule.specs.declared.fate.Fate.{Fate}
use Rattle.schedule.specs.declared.fate.Fate.TheVariants.{Whole}
use Rattle.bag_check.specs.declared.fault.BagFault.{BagFault}
use Rattle.dgram.specs.declared.message.Message.{Message}
use Rattle.site.specs.declared.answer.Reply.{Reply}
use Rattle.site.specs.declared.fault.SiteFault.{SiteFault}
use Rattle.site.specs.Calls.{Input, Deposits, Asks, Arrives}
use Rattle.site.specs.Datagrams.{handed_out, datagram}
use Rattle.sim_stations.specs.declared.station.Station.{Station}
use Rattle.sim_stations.specs.declared.told.Told.{Told}
use Rattle.sim_stations.specs.Modes.{is_down, is_up}
use Rattle.sim_stations.specs.Owners.{owner_of, run_state_of}
use Rattle.sim_stations.specs.Stations.{Undergoes, ComesTo, reply_in}
use Rattle.sim_stations.specs.Stations as stations
use Rattle.lines.specs.declared.line.Line.{Line}
use Rattle.lines.specs.declared.line.Line.TheVariants as printed
use Rattle.lines.specs.declared.line.Reason.TheVariants as reasons
use Rattle.world_law.specs.Networks.{Mode, Up, Down, SiteState}
use Rattle.world_law.specs.Networks.{SiteOutcome, step}
use Rattle.world_law.specs.Networks.{Stop, Start, happens, takes, happening, goes_down, opened}
use Rattle.world_law.specs.Networks.{stops, starts, replies, Deposit, Ask, Query, Raw}
use Rattle.sim_stations.specs.Firsts as firsts
use Rattle.world_law.specs.Worlds.{World, mode_of, quorums, after_event, event_at, unless_down}
use Rattle.world_law.specs.Worlds.{on_start, skips, own_lines, on_raw, on_checked}
use Rattle.lines.specs.Named.{line_of}
use Rattle.lines.specs.Notices.{reply_notice}
use Rattle.world_law.specs.Worlds.{with_line, with_seen, sent_lines}
use Rattle.sim_stations.specs.DatagramNumbers as numbers
use Rattle.sim_stations.specs.DatagramNumbers.{is_named}
use Rattle.simulator.specs.declared.federation.Federation.{Federation}
use Rattle.simulator.specs.Federations.{Represents, IsStation, AreStations, IsSound}
use Rattle.simulator.specs.Inputs.{after, after_input}
use Rattle.simulator.specs.Seen.{seen_with}
use Rattle.simulator.specs.Sent.{lines_sent, places_from}
use Rattle.simulator.proofs.Places.{with_state, station_at, with_station, some_is}
use Rattle.simulator.proofs.Sound.{sound_after}
use Rattle.simulator.proofs.Stands.{stands_after, taken}

-- ---- members and modes

-- the site at a place is a member
pub is_member_at : (f : Federation) (w : World) (place : ℕ) → Represents f w
    → place < length f.stations.items → is_in (quorums w).members (place + 1) ≡ true
is_member_at f w place is within =
    let within_count : place < count_of w.members = rw (← is.stations.count) within in
    is_in-sites_to (count_of w.members) (place + 1) (omega arith)
    ∙ (grind (arith, nat_tests, within_count))

-- ---- one station changes

-- one of the stations was called, stopped or started, and nothing changed but this station, what
-- was sent, and the lines
pub record Moves (f g : Federation) (place : ℕ) (old new : Station) : Type 0 where
  pub within : place < length f.stations.items
  pub at : old ≡ get_or f.stations.items place old
  pub whose : owner_of new ≡ owner_of old
  pub stations : g.stations.items ≡ slice_set f.stations.items place new
  pub same : g ≡ record f { stations = g.stations; sent = g.sent; lines = g.lines }

-- it is the station of a site, and so are all stations once it came to another state
module _ {f g : Federation} {w : World} {place : ℕ} {old new : Station}
    (m : Moves f g place old new) (is : Represents f w) where
  at_place : IsStation w.members (place + 1) old (w.network.sites (place + 1))
  at_place =
      station_at w.members f.stations.items w.network.sites place old is.stations m.within m.at

  all_stand : (s : SiteState)
      → stations.Represents (record { members = w.members; site = place + 1 }) (run_state_of new) s
      → AreStations w.members g.stations.items (with_state (place + 1) s w.network.sites)
  all_stand s stands =
      rw m.stations
      (with_station w.members f.stations.items w.network.sites place new s is.stations (record {
        owner = m.whose ∙ at_place.owner;
        stands = rw (m.whose, at_place.owner) stands;
      }))

-- where a call answers Ok, what is promised of it in parts leads to what is wanted
pub then_all_ok : {E P Q R S : Type 0} (r : Result (Unit {0}) E) → (P → Q → R → S) → OnOk r P
    → OnOk r Q → OnOk r R → OnOk r S
then_all_ok (Ok x) f p q s = f p q s
then_all_ok (Err e) f p q s = tt

pub undergone : {f g : Federation} {w : World} {place : ℕ} {old new : Station}
    (input : ℕ → Input) (fate : Fate) (told : Told) (front : List Line)
    → Moves f g place old new → Represents f w → is_down (mode_of w (place + 1)) ≡ false
    → IsSound (quorums w) (takes (quorums w) w.network (place + 1) (input w.members.federation)
    fate).network
    → Undergoes (owner_of old) (input (owner_of old).members.federation) fate (run_state_of old)
    (run_state_of new) told
    → front ≡ f.lines.items ++ own_lines w.seen told.notice
    → g.lines.items ≡ front ++ lines_sent (length f.sent.sent + 1) (map handed_out told.sends.items)
    → g.sent.sent ≡ f.sent.sent ++ places_from (length front) (length told.sends.items)
    → numbers.RepresentsSame f.sent g.sent
    → Represents g (after_input w (place + 1) (input w.members.federation) fate)
undergone {f} {g} {w} {place} input fate told front m is up sound comes says lines sent named =
    let at = at_place m is in
    let came = (rw at.owner at comes) (w.network.sites (place + 1)) (rw at.owner at at.stands) in
    rw happens_so
    (stands_after f g w (place + 1) o (record {
      same = m.same;
      stations = all_stand m is o.site came.stands;
      lines = rw (lines, says, came.notice, came.sends);
      sent = rw (sent, says, came.notice, ← length-map told.sends.items handed_out)
          (rw (came.sends, length-map o.sends (datagram w.members.federation)));
      named = named;
    }) (rw happens_so at sound) is)
  where
    o : SiteOutcome
    o = step (quorums w) (place + 1) (w.network.sites (place + 1)) (mode_of w (place + 1))
        (input w.members.federation) fate

    happens_so : takes (quorums w) w.network (place + 1) (input w.members.federation) fate
        ≡ happening w.network (place + 1) o
    happens_so = taken (quorums w) w.network (place + 1) (input w.members.federation) fate
        (is_member_at f w place is m.within) up

-- ---- modes, as the code asks for them

not_down : (w : World) (number : ℕ) (mode : Mode) (next : World) → is_down mode ≡ false
    → unless_down w number mode next ≡ next
not_down w number Down next e = absurd (cc)
not_down w number _ next e = refl

-- ---- stops and starts

stop_happens : (w : World) (site : ℕ) → is_in (quorums w).members site ≡ true
    → is_down (mode_of w site) ≡ false
    → happens (quorums w) w.network (Stop site)
    ≡ happening w.network site (goes_down site (w.network.sites site) None [])
unfolding happens
stop_happens w site member up = rw member (go (mode_of w site) up)
  where
    go : (mode : Mode) → is_down mode ≡ false
        → stops w.network site mode
        ≡ happening w.network site (goes_down site (w.network.sites site) None [])
    go Down e = absurd (cc)
    go _ e = refl

start_happens : (w : World) (site : ℕ) → is_in (quorums w).members site ≡ true
    → is_up (mode_of w site) ≡ false
    → happens (quorums w) w.network (Start site)
    ≡ happening w.network site (opened site (w.network.sites site))
unfolding happens
start_happens w site member down = rw member (go (mode_of w site) down)
  where
    go : (mode : Mode) → is_up mode ≡ false
        → starts w.network site mode
        ≡ happening w.network site (opened site (w.network.sites site))
    go (Up volatile) e = absurd (cc)
    go _ e = refl

not_up : (w : World) (number site : ℕ) (mode : Mode) → is_up mode ≡ false
    → on_start w number site mode ≡ after_event w (Start site)
unfolding on_start
not_up w number site (Up volatile) e = absurd (cc)
not_up w number site _ e = refl

pub when_up : (w : World) (number site : ℕ) (mode : Mode) → is_up mode ≡ true
    → on_start w number site mode ≡ skips w number reasons.Up
unfolding on_start
when_up w number site (Up volatile) e = refl
when_up w number site _ e = absurd (cc)

module _ {f g : Federation} {w : World} {place : ℕ} {old new : Station}
    (m : Moves f g place old new) (is : Represents f w) where
  -- the station came to an outcome, of which a line is said and nothing is sent
  one_line : (o : SiteOutcome) (line : Line)
      → IsSound (quorums w) (happening w.network (place + 1) o).network
      → stations.Represents (record { members = w.members; site = place + 1 }) (run_state_of new)
      o.site
      → own_lines w.seen o.notice ≡ line ∷ [] → o.sends ≡ [] → g.sent ≡ f.sent
      → g.lines.items ≡ f.lines.items ++ line ∷ []
      → Represents g (after w (happening w.network (place + 1) o))
  unfolding lines_sent places_from
  one_line o line sound stands says none sent lines =
      stands_after f g w (place + 1) o (record {
        same = m.same;
        stations = all_stand m is o.site stands;
        lines = rw (says, none, lines) (sym (append-nil (f.lines.items ++ line ∷ [])));
        sent = rw (says, none, sent) (sym (append-nil f.sent.sent));
        named = λ named so. rw sent so;
      }) sound is

  pub stopped : (number : ℕ) → is_down (mode_of w (place + 1)) ≡ false
      → ((s : SiteState) → stations.Represents (owner_of old) (run_state_of old) s
      → stations.Represents (owner_of old) (run_state_of new)
      (goes_down (owner_of old).site s None []).site)
      → g.sent ≡ f.sent → g.lines.items ≡ f.lines.items ++ printed.Down (place + 1) ∷ []
      → Represents g (event_at w number (place + 1) (Stop (place + 1)))
  unfolding after_event
  stopped number up closes sent lines =
      let at = at_place m is in
      let so = stop_happens w (place + 1) (is_member_at f w place is m.within) up in
      rw (not_down w number (mode_of w (place + 1)) (after_event w (Stop (place + 1))) up, so)
      (one_line (goes_down (place + 1) (w.network.sites (place + 1)) None [])
      (printed.Down (place + 1))
      (rw so at (sound_after (quorums w) w.network (Stop (place + 1)) tt is.sound))
      ((rw at.owner at closes) (w.network.sites (place + 1)) (rw at.owner at at.stands))
      refl refl sent lines)

  pub started : (number count : ℕ) → is_up (mode_of w (place + 1)) ≡ false
      → ((s : SiteState) → stations.Represents (owner_of old) (run_state_of old) s
      → stations.Represents (owner_of old) (run_state_of new) (opened (owner_of old).site s).site
      × (count ≡ length s.records))
      → g.sent ≡ f.sent → g.lines.items ≡ f.lines.items ++ printed.Up (place + 1) count ∷ []
      → Represents g (on_start w number (place + 1) (mode_of w (place + 1)))
  unfolding after_event
  started number count down opens sent lines =
      let at = at_place m is in
      let so = start_happens w (place + 1) (is_member_at f w place is m.within) down in
      let up = (rw at.owner at opens) (w.network.sites (place + 1)) (rw at.owner at at.stands) in
      rw (not_up w number (place + 1) (mode_of w (place + 1)) down, so)
      (one_line (opened (place + 1) (w.network.sites (place + 1))) (printed.Up (place + 1) count)
      (rw so at (sound_after (quorums w) w.network (Start (place + 1)) tt is.sound))
      up.0 (rw up.1) refl sent lines)

-- ---- a question to another member

pub asks : (f g : Federation) (w : World) (number place asked to : ℕ) (slot : SlotName)
    (fate : Fate) → Represents f w → asked < length f.stations.items → to ≡ asked + 1 → IsSlot slot
    → (IsSound (quorums w) (takes (quorums w) w.network (place + 1) (Asks slot to) fate).network
    → Represents g (unless_down w number (mode_of w (place + 1))
    (after_input w (place + 1) (Asks slot to) fate)))
    → Represents g (event_at w number (place + 1) (Ask (place + 1) (asked + 1) slot fate))
unfolding after_event happens
asks f g w number place asked to slot fate is within to_is well called =
    let member =
    (is_in_decides (quorums w).members (asked + 1)).0 (is_member_at f w asked is within) in
    rw (← to_is)
    (called (sound_after (quorums w) w.network (Ask (place + 1) to slot fate)
    (rw to_is (is.sound.sites (asked + 1) member), well) is.sound))

-- ---- bytes that no site sent

pub raw_arrives : (g : Federation) (w : World) (number site : ℕ) (message : Option Message)
    → IsSound (quorums w) w.network → is_some message ≡ false
    → (IsSound (quorums w) (takes (quorums w) w.network site (Arrives message) Whole).network
    → Represents g (unless_down w number (mode_of w site)
    (after_input w site (Arrives message) Whole)))
    → Represents g (on_raw w number site message)
unfolding on_raw after_event happens
raw_arrives g w number site None sound none called =
    called (sound_after (quorums w) w.network (Raw site) tt sound)
raw_arrives g w number site (Some m) sound none called = absurd (cc)

pub raw_is_formed : (g : Federation) (w : World) (number site : ℕ) (message : Option Message)
    → is_some message ≡ true → Represents g (skips w number reasons.Formed)
    → Represents g (on_raw w number site message)
unfolding on_raw
raw_is_formed g w number site None some skipped = absurd (cc)
raw_is_formed g w number site (Some m) some skipped = skipped

-- ---- queries

-- the line of a reply
abbrev pub reply_line : World → (site : ℕ) → SlotName → Result (Reply BagId) SiteFault → Line
reply_line w site slot reply = line_of w.seen (reply_notice site slot reply)

pub replied : (w : World) (site : ℕ) (slot : SlotName) (reply : Result (Reply BagId) SiteFault)
    → is_in (quorums w).members site ≡ true
    → Some reply ≡ reply_in slot (w.network.sites site) (mode_of w site)
    → after_event w (Query site slot) ≡ with_line w (reply_line w site slot reply)
unfolding after_event happens sent_lines
replied w site slot reply member is = rw member (go (mode_of w site) is)
  where
    go : (mode : Mode) → Some reply ≡ reply_in slot (w.network.sites site) mode
        → after w (replies w.network site mode slot)
        ≡ with_line w (reply_line w site slot reply)
    go Down e = absurd (cc)
    go _ e = rw (some_is e)

pub no_reply : (w : World) (number site : ℕ) (slot : SlotName)
    → None ≡ reply_in slot (w.network.sites site) (mode_of w site)
    → event_at w number site (Query site slot) ≡ skips w number reasons.Down
no_reply w number site slot is = go (mode_of w site) is
  where
    go : (mode : Mode) → None ≡ reply_in slot (w.network.sites site) mode
        → unless_down w number mode (after_event w (Query site slot))
        ≡ skips w number reasons.Down
    go Down e = refl
    go _ e = absurd (cc)

-- ---- deposits

with_seen_is : (w : World) (tree : ℕ) (found : Result BagId BagFault)
    → with_seen w tree found ≡ record w { seen = seen_with tree found w.seen }
with_seen_is w tree (Ok bag) = refl
with_seen_is w tree (Err fault) = refl

pub deposited : (f mid g : Federation) (w : World) (number place tree : ℕ) (slot : SlotName)
    (fate : Fate) (found : Result BagId BagFault) → Represents f w
    → mid ≡ record f { seen = mid.seen } → is_down (mode_of w (place + 1)) ≡ false → IsSlot slot
    → IfOk found IsBag
    → firsts.Represents mid.seen (seen_with tree found w.seen)
    → ((v : World) → Represents mid v → is_down (mode_of v (place + 1)) ≡ false
    → IsSound (quorums v)
    (takes (quorums v) v.network (place + 1) (Deposits slot found) fate).network
    → Represents g (after_input v (place + 1) (Deposits slot found) fate))
    → Represents g (on_checked w number (place + 1) tree slot fate found)
unfolding after_event happens
deposited f mid g w number place tree slot fate found is same up well well_bag seen called =
    rw (not_down w number (mode_of w (place + 1))
    (after_event (with_seen w tree found) (Deposit (place + 1) slot found fate)) up)
    (rw (with_seen_is w tree found)
    (called (record w { seen = seen_with tree found w.seen }) stands up
    (sound_after (quorums w) w.network (Deposit (place + 1) slot found fate) (well, well_bag)
    is.sound)))
  where
    stands : Represents mid (record w { seen = seen_with tree found w.seen })
    stands = rw same (record {
      members = is.members;
      stations = is.stations;
      sent = is.sent;
      named = is.named;
      trees = is.trees;
      seen = seen;
      lines = is.lines;
      sound = is.sound;
    })
