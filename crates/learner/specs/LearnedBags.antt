-- What a learner learns (Lamport, Paxos Made Simple, section 2.3): that a bag is chosen, from the
-- votes of a quorum in one ballot, or from a site that knows it.
use Rattle.std.specs.Prelude.{ℕ, List, [], ◌∷◌, ◌++◌, Option, Some, None, if◌then◌else◌}
use Rattle.fed_types.specs.declared.bag_id.BagId.{BagId}
use Rattle.fed_types.specs.declared.vote.Vote.{Vote}
use Rattle.fed_types.specs.Quorums.{QuorumSystem}
use Rattle.fed_types.specs.Slots.{SlotName}
use Rattle.records.specs.declared.record.Record.{Record}
use Rattle.records.specs.SlotStates.{known_of}
use Rattle.dgram.specs.declared.body.Body.TheVariants.{Accepted}
use Rattle.dgram.specs.declared.message.Message.{Message}
use Rattle.dgram.specs.Heard.{bodies_of, voters_for}

-- the messages that were heard, and after them that a site has cast this vote
abbrev pub with_vote : List Message → SlotName → ℕ → Vote → List Message
with_vote heard slot from vote = heard ++ record { slot = slot; body = Accepted from vote } ∷ []

-- nothing is learned for a slot whose bag is known
abbrev pub unless_known : Option BagId → Option BagId → Option BagId
unless_known None bag = bag
unless_known (Some known) bag = None

-- the vote's bag, if the sites that were heard to have cast this vote are a quorum: votes in one
-- ballot, for one bag
unfoldable pub chosen_by : QuorumSystem → SlotName → List Message → Vote → Option BagId
chosen_by quorums slot heard vote =
    if quorums.is_quorum (voters_for vote (bodies_of slot heard)) then Some vote.bag else None

-- what is learned from one more vote
abbrev pub learned_from : QuorumSystem → SlotName → List Record → List Message → ℕ → Vote
    → Option BagId
learned_from quorums slot records heard from vote =
    unless_known (known_of slot records)
    (chosen_by quorums slot (with_vote heard slot from vote) vote)

-- what is learned from a site that knows this bag
abbrev pub learned_of_known : SlotName → List Record → BagId → Option BagId
learned_of_known slot records bag = unless_known (known_of slot records) (Some bag)
