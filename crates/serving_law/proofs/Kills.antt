-- A site that is killed in the call of a deposit has handed out nothing.
use Rattle.std.proofs.Common.{ℕ, ◌≡◌, ◌≤◌, refl, List, [], ◌∷◌, arith}
use Rattle.fed_types.specs.declared.bag_id.BagId.{BagId}
use Rattle.fed_types.specs.Lists.{here}
use Rattle.fed_types.specs.Sites.{Membership}
use Rattle.fed_types.specs.Slots.{SlotName}
use Rattle.fed_types.specs.Values.{IsMembership}
use Rattle.records.specs.declared.record.Record.{Record}
use Rattle.records.specs.Records.{AreRecords}
use Rattle.serving_law.specs.Disks.{Holds, bytes_at, journal}
use Rattle.serving_law.specs.Examples.{recorded, Request, WasKilled, KilledInADeposit}
use Rattle.serving_law.specs.Federations.{new_federation, after_all}
use Rattle.serving_law.proofs.DiskCalls.{owner}
use Rattle.serving_law.proofs.Deaths.{before, step, may_die, is_record}

module _ (members : Membership) (is_membership : IsMembership members) (slot : SlotName)
    (bag : BagId) (request : Request members.federation slot bag) where
  killed : (records : List Record) → AreRecords records → (k : ℕ) → 1 ≤ k → k ≤ 2
      → journal (owner members is_membership 1) records
      ≡ bytes_at (Holds (owner members is_membership 1) (recorded slot bag ∷ [])) k
      → WasKilled members slot bag request.address records
  unfolding new_federation after_all
  killed records are k from to is = record {
    before = before members is_membership slot bag request;
    step = step members is_membership slot bag request;
    happens = may_die members is_membership slot bag request records are k from to is;
    would_reply = here refl;
    down = refl;
    nothing = refl;
  }

  pub both : WasKilled members slot bag request.address []
      × WasKilled members slot bag request.address (recorded slot bag ∷ [])
  both = (
    killed [] tt 1 (omega arith) (omega arith) refl,
    killed (recorded slot bag ∷ []) (is_record members is_membership slot bag request, tt) 2
        (omega arith) (omega arith) refl,
  )

pub killed_in_a_deposit : KilledInADeposit
killed_in_a_deposit members slot bag request is = both members is slot bag request
