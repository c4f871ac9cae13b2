-- What may become of a register in a step, by examples.
use Rattle.std.proofs.Common.{◌≡◌}
use Rattle.fed_types.specs.declared.bag_id.BagId.{BagId}
use Rattle.register_law.specs.Registers.{Open, Decided, Becomes}

module _ (WasDeposited : BagId → Type 0) (bag : BagId) where
  -- one that is decided isn't open again
  never_open_again : Becomes WasDeposited (Decided bag) Open → ⊥
  never_open_again is = cc is

  -- nor is it decided for another bag
  never_decided_anew : (other : BagId) → Becomes WasDeposited (Decided bag) (Decided other)
      → other ≡ bag
  never_decided_anew other is = cc is

  -- an open one is decided for a bag that was deposited, and for no other
  decided_for_a_deposit : Becomes WasDeposited Open (Decided bag) → WasDeposited bag
  decided_for_a_deposit is = is
