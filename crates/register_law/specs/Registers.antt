-- The register: what all that a federation does comes to. Each version of each object is a slot,
-- and each slot is a register of its own. It is open, or decided for one bag, which was deposited
-- for it; and once it is decided it stays so.
use Rattle.std.specs.Prelude.{◌≡◌, ⊤, ℕ, List}
use Rattle.fed_types.specs.declared.bag_id.BagId.{BagId}
use Rattle.fed_types.specs.Ballots.{BallotNumber}
use Rattle.fed_types.specs.Lists.{Has}
use Rattle.fed_types.specs.Quorums.{IsQuorum, quorums_of}
use Rattle.fed_types.specs.Sites.{Membership}
use Rattle.fed_types.specs.Slots.{SlotName}
use Rattle.records.specs.declared.entry.Entry.TheVariants as entry
use Rattle.records.specs.Bounds.{HasEntry}
use Rattle.serving_law.specs.Federations.{Federation}
use Rattle.serving_law.specs.Reports.{records_of}

-- ---- a register

pub data Register : Type 0 where
  Open : Register
  Decided : BagId → Register

-- What may become of it in a step, after which these bags were deposited: an open one stays open,
-- or is decided for one of them; a decided one stays as it is.
abbrev pub Becomes : (WasDeposited : BagId → Type 0) → (old new : Register) → Type 0
Becomes WasDeposited Open Open = ⊤
Becomes WasDeposited Open (Decided bag) = WasDeposited bag
Becomes WasDeposited (Decided bag) new = new ≡ Decided bag

-- ---- the register that a federation keeps for a slot

-- It is decided for a bag where the members of a quorum have votes for it on record, in one ballot.
pub record IsDecided {C : Type 0} (members : Membership) (f : Federation C) (slot : SlotName)
    (bag : BagId) : Type 0 where
  pub ballot : BallotNumber
  pub voters : List ℕ
  pub quorum : IsQuorum (quorums_of members) voters
  pub voted : (n : ℕ) → Has n voters → HasEntry slot (records_of (f.members n))
      (entry.Vote (record { ballot = ballot; bag = bag }))

-- So it keeps this register: one that is decided for a bag, or one that is decided for none.
abbrev pub Keeps : {C : Type 0} → Membership → Federation C → SlotName → Register → Type 0
Keeps members f slot (Decided bag) = IsDecided members f slot bag
Keeps members f slot Open = (bag : BagId) → ¬ IsDecided members f slot bag
