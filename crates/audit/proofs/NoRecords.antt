-- Where no record was given.
use Rattle.std.proofs.Common.{inl, inr, []}
use Rattle.fed_types.specs.declared.bag_id.BagId.{BagId}
use Rattle.fed_types.specs.declared.vote.Vote.{Vote}
use Rattle.fed_types.specs.Quorums.{QuorumSystem, AreQuorums, quorums_of}
use Rattle.fed_types.specs.Sites.{Membership}
use Rattle.fed_types.specs.Slots.{SlotName}
use Rattle.fed_types.specs.Laws.Lists.{has_none, is_in-nil}
use Rattle.fed_types.specs.Laws.Quorums.{are_quorums}
use Rattle.audit.specs.Evidence.{network_of}
use Rattle.audit.specs.Laws.{IsNamed}
use Rattle.audit.specs.Tables.{ChosenBy, Represents}
use Rattle.audit.proofs.NamedBags.{nothing_named}

none_chosen : (q : QuorumSystem) → AreQuorums q → (slot : SlotName) (vote : Vote)
    → ¬ ChosenBy q [] slot vote
unfolding network_of
none_chosen q laws slot vote c =
    let m = laws.meet c.voters c.voters c.quorum c.quorum in
    has_none (c.voted m.0 m.2)

none_named : (q : QuorumSystem) → AreQuorums q → (slot : SlotName) (bag : BagId)
    → ¬ IsNamed q [] slot bag
unfolding network_of
none_named q laws slot bag (inl shown) = none_chosen q laws slot _ shown.chosen
none_named q laws slot bag (inr known) = has_none known.1

pub nothing_given : (m : Membership)
    → Represents (record { members = m; votes = []; rows = [] }) []
nothing_given m = record {
  voters = λ slot vote n. (
    λ h. absurd (cc (is_in-nil n, h)),
    λ h. absurd (has_none h),
  );
  rows = λ slot. nothing_named (none_named (quorums_of m) (are_quorums m) slot)
      (none_chosen (quorums_of m) (are_quorums m) slot);
}
