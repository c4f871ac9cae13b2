-- How a version of an object, a bag, a ballot and a vote are written in a line.
use Rattle.std.specs.Prelude.{ℕ, List, ◌∷◌, ◌++◌}
use Rattle.std.specs.Fmt.{decimal}
use Rattle.hex.specs.Hex.{encode_lower}
use Rattle.fed_types.specs.declared.bag_id.BagId.{BagId}
use Rattle.fed_types.specs.declared.vote.Vote.{Vote}
use Rattle.fed_types.specs.Ballots.{BallotNumber}
use Rattle.fed_types.specs.Slots.{SlotName}
use Rattle.tokens.specs.Escapes.{escaped_text}

-- OBJ V: the object's name as one word, and the version
abbrev pub slot_text : SlotName → List ℕ
slot_text slot = escaped_text slot.object ++ (32 ∷ decimal slot.version)

-- a space, and the 128 hex digits of the bag's identity
abbrev pub bag_text : BagId → List ℕ
bag_text bag = 32 ∷ encode_lower bag.0

-- the round and the site, a space before each
abbrev pub ballot_text : BallotNumber → List ℕ
ballot_text ballot = 32 ∷ (decimal ballot.round ++ (32 ∷ decimal ballot.site))

-- the ballot and the bag, a space before each word
abbrev pub vote_text : Vote → List ℕ
vote_text vote = ballot_text vote.ballot ++ bag_text vote.bag
