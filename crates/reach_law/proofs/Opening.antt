-- All that run are opened.
use Rattle.std.proofs.Common.{ℕ, ◌≡◌, ◌+◌, ◌∙◌, refl, List}
use Rattle.fed_types.specs.Lists.{Has}
use Rattle.fed_types.specs.Quorums.{QuorumSystem}
use Rattle.fed_types.specs.Slots.{SlotName}
use Rattle.world_law.specs.Networks.{Network}
use Rattle.reach_law.proofs.Leads.{IsUp, Opened, spent, Leads, each, open_leads}
use Rattle.reach_law.specs.Running.{records_at, volatile_at}

-- the same records, volatile states and datagrams
pub record Same (w x : Network) : Type 0 where
  pub records : (k : ℕ) → records_at x k ≡ records_at w k
  pub volatile : (k : ℕ) → volatile_at x k ≡ volatile_at w k
  pub sent : x.sent ≡ w.sent

module _ (q : QuorumSystem) (running : List ℕ) (slot : SlotName) (before : ℕ)
    (members : (n : ℕ) → Has n running → Has n q.members) where
  pub opens : (w : Network) (k : ℕ)
      → ((x : Network) → Same w x → ((n : ℕ) → Has n running → IsUp x n)
      → Leads q running slot before x k)
      → Leads q running slot before w (spent 1 running k)
  opens w k next =
      each q running slot before (Same w) (λ n x. IsUp x n) 1 visit running (λ n h. h) w
      (record { records = λ k. refl; volatile = λ k. refl; sent = refl }) k
      (λ x same up stays. next x same up)
    where
      opened : (x y : Network) (n : ℕ) → Same w x → Opened x n y → Same w y
      opened x y n s o = record {
        records = λ k. o.records k ∙ s.records k;
        volatile = λ k. o.volatile k ∙ s.volatile k;
        sent = o.sent ∙ s.sent;
      }

      visit : (n : ℕ) → Has n running → (x : Network) → Same w x → (k : ℕ)
          → ((y : Network) → Same w y → IsUp y n
          → ((m : ℕ) → Has m running → IsUp x m → IsUp y m) → Leads q running slot before y k)
          → Leads q running slot before x (1 + k)
      visit n h x s k next =
          open_leads q running slot before members x n k h
          (λ y o. next y (opened x y n s o) o.up (λ m h' up. o.stays m up))
