use Rattle.std.proofs.Common.{◌≡◌, [], take}
use Rattle.std.specs.List.{fold}
use Rattle.slot_table.specs.Listings.{listed}
use Rattle.standings.proofs.versions.versions_in.Given as goal

-- the versions so far
abbrev pub invariant-loop-known : goal.invariant-loop-known
invariant-loop-known l =
    l.listed.slots ≡ fold (λ slots v. listed slots v.slot) [] (take l.known-index l.bags)
