-- A pump, turn by turn.
use Rattle.std.proofs.Common.{ℕ, suc, ◌≡◌, List, length, Option, Some, None}
use Rattle.std.proofs.Common.{sym}
use Rattle.schedule.specs.declared.fate.Fate.TheVariants.{Whole}
use Rattle.world_law.specs.Worlds.{World, next_unnamed, on_turn, on_deliver, pumped}
use Rattle.world_law.proofs.Pumps.{idle_pump}
use Rattle.sim_stations.specs.DatagramNumbers as numbers
use Rattle.simulator.specs.declared.federation.Federation.{Federation}
use Rattle.simulator.specs.Federations.{Represents}
use Rattle.simulator.proofs.Sent.{are_sent_length}

-- which number comes next
next_of : (f : Federation) (v : World) (next : Option ℕ) → Represents f v
    → ((named : List ℕ) → numbers.Represents f.sent named
    → next ≡ numbers.next_unnamed named (length f.sent.sent)) → next_unnamed v ≡ next
next_of f v next is found =
    rw (← are_sent_length v.members.federation 1 f.lines.items f.sent.sent v.network.sent is.sent)
    (sym (found v.named is.named))

-- where the turns that are left lead
abbrev pub Leads : Federation → (number left : ℕ) → World → Type 0
Leads f number left end =
    (v : World) × Represents f v × (pumped v number left ≡ end)

module _ (f : Federation) (end : World) (number left : ℕ) where
  -- nothing is left to deliver
  pub pump_idles : Leads f number left end
      → ((named : List ℕ) → numbers.Represents f.sent named
      → None ≡ numbers.next_unnamed named (length f.sent.sent))
      → Represents f end
  pump_idles (v, is, leads) none =
      rw (← leads, idle_pump v number left (next_of f v None is none)) is

  -- no turn is left
  pub pump_ends : left ≡ 0 → Leads f number left end → Represents f end
  unfolding pumped
  pump_ends none (v, is, leads) = rw (← leads, none) is

  -- a turn delivers the datagram of the next number
  pub pump_turns : (g : Federation) (rest k : ℕ) → left ≡ suc rest → Leads f number left end
      → ((named : List ℕ) → numbers.Represents f.sent named
      → Some k ≡ numbers.next_unnamed named (length f.sent.sent))
      → ((v : World) → Represents f v → Represents g (on_deliver v number k Whole))
      → Leads g number rest end
  unfolding pumped on_turn
  pump_turns g rest k more (v, is, leads) next delivers = (
    on_deliver v number k Whole,
    delivers v is,
    rw (more, next_of f v (Some k) is next) at leads,
  )
