-- Quorums: any two share a member, as any two majorities do (Lamport, Paxos Made Simple,
-- section 2.2).
use Rattle.std.specs.Prelude.{ℕ, ◌*◌, Bool, List, nat_lt, IsTrue}
use Rattle.std.specs.List.{filter}
use Rattle.fed_types.specs.Lists.{Has, is_in}
use Rattle.fed_types.specs.Sites.{Membership, members_of, weight_sum}

-- the members, and whether a list of voters is a quorum
pub record QuorumSystem : Type 0 where
  pub members : List ℕ
  pub is_quorum : List ℕ → Bool

-- these voters are a quorum
abbrev pub IsQuorum : QuorumSystem → List ℕ → Type 0
IsQuorum q voters = IsTrue (q.is_quorum voters)

-- two quorums share a member
abbrev pub QuorumsMeet : QuorumSystem → Type 0
QuorumsMeet q =
    (xs ys : List ℕ) → IsQuorum q xs → IsQuorum q ys
    → (n : ℕ) × Has n q.members × Has n xs × Has n ys

-- voters that hold all members of a quorum are a quorum
abbrev pub QuorumGrows : QuorumSystem → Type 0
QuorumGrows q =
    (xs ys : List ℕ) → IsQuorum q xs
    → ((n : ℕ) → Has n q.members → Has n xs → Has n ys)
    → IsQuorum q ys

-- the two laws of quorums
pub record AreQuorums (q : QuorumSystem) : Type 0 where
  pub meet : QuorumsMeet q
  pub grow : QuorumGrows q

-- the members that are among the voters
abbrev pub members_among : Membership → List ℕ → List ℕ
members_among m voters = filter (is_in voters) (members_of m)

-- a federation's quorums: voters whose weight, taken twice, is more than the weight of all members;
-- voters that aren't members have none
abbrev pub quorums_of : Membership → QuorumSystem
quorums_of m = record {
  members = members_of m;
  is_quorum = λ voters.
      nat_lt (weight_sum m (members_of m)) (2 * weight_sum m (members_among m voters));
}
