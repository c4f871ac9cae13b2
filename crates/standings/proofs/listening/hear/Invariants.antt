use Rattle.std.proofs.Common.{◌≡◌, map, take, drop}
use Rattle.standings.specs.Rounds.{hears}
use Rattle.standings.proofs.listening.hear.Given as goal

-- the sites so far have heard it, and the others haven't
abbrev pub invariant-loop-polled : goal.invariant-loop-polled
invariant-loop-polled l =
    (take l.polled-index l.sites
    ≡ map (hears l.federation l.from l.bytes l.millis) (take l.polled-index l.fn.sites))
    × (drop l.polled-index l.sites ≡ drop l.polled-index l.fn.sites)
