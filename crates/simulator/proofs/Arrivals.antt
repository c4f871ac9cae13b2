-- A datagram that arrives, as an input of its addressee.
use Rattle.std.proofs.Common.{ℕ, ◌≡◌, false, [], ◌++◌}
use Rattle.std.proofs.Common.{Some, ap, ◌∙◌}
use Rattle.fed_types.specs.Lists.{is_in}
use Rattle.schedule.specs.declared.fate.Fate.{Fate}
use Rattle.site.specs.Calls.{Arrives}
use Rattle.site.specs.Effects.{Send}
use Rattle.world_law.specs.Networks.{Deliver, datagram_at, happens, takes}
use Rattle.world_law.specs.Networks.{SiteState, new_site}
use Rattle.world_law.specs.Worlds.{World, quorums, after_event, event_at, unless_down}
use Rattle.world_law.specs.Worlds.{sent_lines}
use Rattle.simulator.specs.Inputs.{after_input}

pub arrives_as : (w : World) (k : ℕ) (fate : Fate) (d : Send)
    → datagram_at k w.network.sent ≡ Some d
    → happens (quorums w) w.network (Deliver k fate)
    ≡ takes (quorums w) w.network d.to (Arrives (Some d.message)) fate
unfolding happens
arrives_as w k fate d is = rw is

pub delivers_as : (w : World) (k : ℕ) (fate : Fate) (d : Send)
    → datagram_at k w.network.sent ≡ Some d
    → after_event w (Deliver k fate) ≡ after_input w d.to (Arrives (Some d.message)) fate
unfolding after_event
delivers_as w k fate d is = rw (arrives_as w k fate d is)

-- nothing happens at a site that is no member
pub reaches_nobody : (w : World) (number k : ℕ) (fate : Fate) (d : Send)
    → datagram_at k w.network.sent ≡ Some d
    → is_in (quorums w).members d.to ≡ false
    → w.network.sites d.to ≡ new_site
    → event_at w number d.to (Deliver k fate) ≡ record w { lines = w.lines ++ [] }
unfolding new_site sent_lines
reaches_nobody w number k fate d is none new =
    ap (λ (s : SiteState). unless_down w number s.mode (after_event w (Deliver k fate))) new
    ∙ (rw (delivers_as w k fate d is, none))
