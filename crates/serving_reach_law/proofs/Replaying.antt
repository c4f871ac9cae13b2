-- Events in which nothing fails are brought about by turns, one after another.
use Rattle.std.proofs.Common.{ℕ, zero, suc, ◌≤◌, inl, inr, List, [], ◌∷◌, length, arith}
use Rattle.fed_types.specs.Quorums.{QuorumSystem, quorums_of}
use Rattle.fed_types.specs.Sites.{Membership}
use Rattle.fed_types.specs.Slots.{SlotName}
use Rattle.fed_types.specs.Values.{IsSlot, IsMembership}
use Rattle.cell_device.specs.Devices.{Device}
use Rattle.world_law.specs.Networks.{Network, Event, happens, run}
use Rattle.reach_law.specs.Reach as reach
use Rattle.reach_law.specs.Running.{AreMembers}
use Rattle.reach_law.proofs.Leads.{AreBrought}
use Rattle.serving_law.specs.Federations.{Federation, Happening, after}
use Rattle.serving_law.proofs.Scene.{OnlyNow}
use Rattle.serving_reach_law.specs.Reach.{HavePorts, Agree, AgreeIn}
use Rattle.serving_reach_law.proofs.Moving.{Mirrors}
use Rattle.serving_reach_law.proofs.Reached.{Reached, reached_next}
use Rattle.serving_reach_law.proofs.Turning.{replayed}

module _ {C : Type 0} (device : C → Device) (members : Membership)
    (is_membership : IsMembership members) (only_now : OnlyNow device) (addresses : List ℕ)
    (have_ports : HavePorts members addresses) (running : List ℕ)
    (are_members : AreMembers (quorums_of members) running) (slot : SlotName)
    (is_slot : IsSlot slot) (before : ℕ) (since : Network) (history : List (Happening C))
  where
    abbrev q : QuorumSystem
    q = quorums_of members

    abbrev At : Federation C → Type 0
    At f = Reached device members is_membership only_now since f

    abbrev In : ℕ → Federation C → Type 0
    In most f = AgreeIn device members addresses history running slot before most f

    at_once : (most : ℕ) (f : Federation C) → Agree members.federation history running slot f
        → In most f
    unfolding AgreeIn
    at_once zero f agree = agree
    at_once (suc most) f agree = inl agree

    -- what is reached in fewer acts is reached in more
    in_more : (most : ℕ) (f : Federation C) → In most f → In (suc most) f
    unfolding AgreeIn
    in_more zero f agree = inl agree
    in_more (suc most) f (inl agree) = inl agree
    in_more (suc most) f (inr (act, may, each)) =
        inr (act, may, λ h happens does. in_more most (after f h) (each h happens does))

    pub replay : (events : List Event) (most : ℕ) (f : Federation C) → At f → (w : Network)
        → Mirrors members addresses before f w → reach.AreCalm q running slot 0 w events
        → AreBrought q slot w events → length events ≤ most
        → ((g : Federation C) → At g → Mirrors members addresses before g (run q w events)
        → Agree members.federation history running slot g)
        → In most f
    unfolding run reach.AreCalm AreBrought AgreeIn
    replay [] most f r w m calm brought few agree = at_once most f (agree f r m)
    replay (e ∷ events) zero f r w m calm brought few agree = absurd (omega (arith, few))
    replay (e ∷ events) (suc most) f r w m calm brought few agree =
        elim (replayed device members is_membership only_now addresses have_ports running
        are_members
        slot is_slot before since e f r w m calm.0 brought.0) [
          | inl still ↦
              in_more most f
              (replay events most f r (happens q w e).network still calm.1 brought.1
              (omega (arith, few)) agree)
          | inr now ↦
              inr (
                now.0,
                now.1,
                λ h may does.
                    replay events most (after f h)
                    (reached_next device members is_membership only_now since f r h may)
                    (happens q w e).network (now.2 h may does) calm.1 brought.1
                    (omega (arith, few)) agree,
              )
        ]
