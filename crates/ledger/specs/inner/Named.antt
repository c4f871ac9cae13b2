-- Whose cell it is.
use Rattle.std.specs.Prelude.{◌≡◌, ◌+◌, ◌<◌, ◌^◌, ℕ, List, [], ◌∷◌, ◌++◌, length, drop}
use Rattle.fed_types.specs.Limits.{federation_bits}
use Rattle.fed_types.specs.Sites.{AreWeights, IsSiteNumber, Membership}
use Rattle.records.specs.declared.owner.Owner.{Owner}
use Rattle.records.specs.Layout.{header_of}
use Rattle.ledger.specs.Cells.{IsHeaded}

-- the bytes begin with a header of this owner, who has a single member of weight 1
pub record IsHeadedBy (owner : Owner) (bytes : List ℕ) : Type 0 where
  pub headed : IsHeaded owner bytes
  pub federation : owner.members.federation < 2 ^ federation_bits
  pub single : owner.members.weights ≡ 1 ∷ []
  pub site : IsSiteNumber owner.site

-- the bytes begin with a header of the second layout that names these members
pub record HasHeaderOf (owner : Owner) (members : Membership) (bytes : List ℕ) : Type 0 where
  pub weights : AreWeights members.weights
  pub federation : members.federation ≡ owner.members.federation
  pub bytes_are : bytes ≡ header_of owner members.weights
      ++ drop (14 + length members.weights) bytes
