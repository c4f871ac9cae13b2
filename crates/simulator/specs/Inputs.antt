-- What an input that reaches a site makes of the world.
use Rattle.std.specs.Prelude.{ℕ, ◌+◌, ◌-◌, ◌&&◌, nat_le, if◌then◌else◌, ◌++◌, length, Option}
use Rattle.std.specs.Prelude.{Some, None}
use Rattle.schedule.specs.declared.fate.Fate.{Fate}
use Rattle.site.specs.Calls.{Input}
use Rattle.world_law.specs.Networks.{Happening, takes}
use Rattle.world_law.specs.Worlds.{World, quorums, own_lines, sent_lines}

-- the world after something happened in its network
abbrev pub after : World → Happening → World
after w h = record w {
  network = h.network;
  lines =
      w.lines
      ++ (own_lines w.seen h.notice
      ++ sent_lines w.members.federation (length w.network.sent + 1) h.sends);
}

abbrev pub after_input : World → (site : ℕ) → Input → Fate → World
after_input w site input fate = after w (takes (quorums w) w.network site input fate)

-- the place of a member, among `count` members
abbrev pub place_in : (count site : ℕ) → Option ℕ
place_in count site = if nat_le 1 site && nat_le site count then Some (site - 1) else None
