-- A command names a member, or none.
use Rattle.std.proofs.Common.{ℕ, ◌+◌, ◌≡◌, length, Some, None, Result, sym}
use Rattle.std.specs.Prelude.{OnOk}
use Rattle.std.proofs.lemmas.Result.{on_ok_weaker}
use Rattle.lines.specs.declared.line.Reason.TheVariants as reasons
use Rattle.world_law.specs.Worlds.{World, skips, at_member}
use Rattle.simulator.specs.declared.federation.Federation.{Federation}
use Rattle.simulator.specs.Federations.{Represents}
use Rattle.simulator.specs.Inputs.{place_in}
use Rattle.simulator.proofs.Places.{member_at, none_at}

-- What is promised where the code found the member that a command names, or found none.
module _ {E : Type 0} (r : Result (Unit {0}) E) (f g : Federation) (number site : ℕ) where
  pub to_member : (next : World → ℕ → World) (place : ℕ)
      → Some place ≡ place_in (length f.stations.items) site
      → OnOk r ((w : World) → Represents f w → Represents g (next w (place + 1)))
      → OnOk r ((w : World) → Represents f w → Represents g (at_member w number site (next w site)))
  to_member next place placed = on_ok_weaker r (λ done w is.
      let p = member_at w.members _ site place is.stations.count (sym placed) in
      rw (p.member, p.number) (done w is))

  pub to_nobody : (next : World → World) → None ≡ place_in (length f.stations.items) site
      → OnOk r ((w : World) → Represents f w → Represents g (skips w number reasons.Site))
      → OnOk r ((w : World) → Represents f w → Represents g (at_member w number site (next w)))
  to_nobody next none = on_ok_weaker r (λ skipped w is.
      rw (none_at w.members _ site is.stations.count (sym none)) (skipped w is))
