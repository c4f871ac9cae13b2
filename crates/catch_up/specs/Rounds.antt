-- A site that is asked for the bags of versions, round after round.
use Rattle.std.specs.Prelude.{◌≡◌, ⊤, ℕ, ◌+◌, min, Bool, false, not, if◌then◌else◌}
use Rattle.std.specs.Prelude.{List, [], ◌∷◌, ◌++◌, length, filter, Option, Some, None}
use Rattle.fed_types.specs.declared.bag_id.BagId.{BagId}
use Rattle.fed_types.specs.Bags.{same_bag}
use Rattle.fed_types.specs.Slots.{SlotName}
use Rattle.dgram.specs.declared.answers.QueryAnswer.{QueryAnswer}
use Rattle.dgram.specs.declared.answers.QueryAnswer.TheVariants.{Known}
use Rattle.known_bags.specs.declared.known_bag.KnownBag.{KnownBag}
use Rattle.udp_site.specs.Traffic.{Move}
use Rattle.site_client.specs.declared.reply.ClientReply.{ClientReply}
use Rattle.site_client.specs.declared.reply.ClientReply.TheVariants.{ToDeposit, ToQuery}
use Rattle.site_client.specs.declared.reply.Wanted.TheVariants as wanted
use Rattle.site_client.specs.Replies.{Question, datagram_to, first_reply}
use Rattle.site_client.specs.Exchanges.{Asks, HasAsked}
use Rattle.site_client.specs.Recoveries.{recovery_of}
use Rattle.catch_up.specs.declared.rounds.Target.{Target}
use Rattle.catch_up.specs.Lines.{known_line}

-- ---- one question

abbrev pub question : Target → SlotName → Question
question asked slot = record {
  federation = asked.federation;
  to = asked.to;
  target = asked.target;
  slot = slot;
  addresses = asked.addresses.now;
  asked = asked.round;
}

-- a bag, if the site knows one
abbrev pub Answer : Type 0
Answer = Option BagId

-- the bag that the site replies that it knows
abbrev pub bag_by : QueryAnswer → Answer
bag_by (Known bag) = Some bag
bag_by _ = None

abbrev pub bag_in : Option ClientReply → Answer
bag_in None = None
bag_in (Some (ToDeposit answer)) = None
bag_in (Some (ToQuery answer)) = bag_by answer

-- The site is asked for the slot's bag, in each round once; so the round is how many questions
-- about it came before. After enough of them each question brings a Recover.
abbrev pub HasAskedFor : Target → SlotName → List Move → Type 0
HasAskedFor asked slot moves =
    HasAsked (asked.target, datagram_to (question asked slot) None)
    (recovery_of (question asked slot)) moves

-- the same, as far as there is memory for its datagrams
abbrev pub AsksFor : Target → SlotName → List Move → Type 0
AsksFor asked slot moves =
    Asks (asked.target, datagram_to (question asked slot) None) (recovery_of (question asked slot))
    moves

-- it is asked, and this is the bag in its first reply to that query
abbrev pub IsAnswer : Target → SlotName → Answer → List Move → Type 0
IsAnswer asked slot answer moves =
    HasAskedFor asked slot moves
    × (answer ≡ bag_in (first_reply (question asked slot) wanted.ToQuery moves))

-- the site is asked once more at most, for some slot's bag, as far as there is memory for it
abbrev pub IsOneMore : Target → List Move → Type 0
IsOneMore asked moves = (slot : SlotName) × AsksFor asked slot moves

-- ---- one round

-- the versions whose bag the site isn't known to know
unfoldable pub open_of : List KnownBag → List KnownBag
open_of versions = filter (λ v. not v.is_found) versions

-- it is asked for each of these once, in order, as far as there are answers
abbrev pub AreAnswers : Target → List KnownBag → List Answer → List Move → Type 0
AreAnswers asked versions [] moves = moves ≡ []
AreAnswers asked [] (answer ∷ answers) moves = ⊥
AreAnswers asked (v ∷ versions) (answer ∷ answers) moves =
    (first : List Move) × (rest : List Move) × (moves ≡ first ++ rest)
    × IsAnswer asked v.slot answer first × AreAnswers asked versions answers rest

-- what is said of an answer as it comes
abbrev pub answer_line : KnownBag → Answer → List ℕ
answer_line v None = []
answer_line v (Some bag) = known_line v.slot bag v.bag

abbrev pub answer_lines : List KnownBag → List Answer → List ℕ
answer_lines versions [] = []
answer_lines [] (answer ∷ answers) = []
answer_lines (v ∷ versions) (answer ∷ answers) =
    answer_line v answer ++ answer_lines versions answers

-- the bag is the one that the source knows
abbrev pub is_same : KnownBag → Answer → Bool
is_same v None = false
is_same v (Some bag) = same_bag bag v.bag

-- of how many it is
abbrev pub same_in : List KnownBag → List Answer → ℕ
same_in versions [] = 0
same_in [] (answer ∷ answers) = 0
same_in (v ∷ versions) (answer ∷ answers) =
    (if is_same v answer then 1 else 0) + same_in versions answers

-- the versions that are left: those without a bag, and those that weren't asked for
abbrev pub left_by : KnownBag → Answer → List KnownBag → List KnownBag
left_by v None versions = v ∷ versions
left_by v (Some bag) versions = versions

abbrev pub left_of : List KnownBag → List Answer → List KnownBag
left_of versions [] = versions
left_of [] (answer ∷ answers) = []
left_of (v ∷ versions) (answer ∷ answers) = left_by v answer (left_of versions answers)

-- ---- all rounds

-- the same in this round
abbrev pub in_round : Target → (round : ℕ) → Target
in_round asked round = record asked { round = round }

-- the next round
abbrev pub next_round : Target → Target
next_round asked = in_round asked (min (asked.round + 1) 4294967295)

-- the round after these
abbrev pub round_after : Target → List (List Answer) → Target
round_after asked [] = asked
round_after asked (answers ∷ rounds) = round_after (next_round asked) rounds

-- the last of these rounds
abbrev pub last_round : Target → List (List Answer) → Target
last_round asked [] = asked
last_round asked (answers ∷ []) = asked
last_round asked (answers ∷ next ∷ rounds) = last_round (next_round asked) (next ∷ rounds)

-- in each round it is asked for those that are left
abbrev pub AreRounds : Target → List KnownBag → List (List Answer) → List Move → Type 0
AreRounds asked versions [] moves = moves ≡ []
AreRounds asked versions (answers ∷ rounds) moves =
    (first : List Move) × (rest : List Move) × (moves ≡ first ++ rest)
    × AreAnswers asked versions answers first
    × AreRounds (next_round asked) (left_of versions answers) rounds rest

-- in each for all of them
abbrev pub AreWhole : List KnownBag → List (List Answer) → Type 0
AreWhole versions [] = ⊤
AreWhole versions (answers ∷ rounds) =
    (length answers ≡ length versions) × AreWhole (left_of versions answers) rounds

abbrev pub round_lines : List KnownBag → List (List Answer) → List ℕ
round_lines versions [] = []
round_lines versions (answers ∷ rounds) =
    answer_lines versions answers ++ round_lines (left_of versions answers) rounds

abbrev pub same_after : List KnownBag → List (List Answer) → ℕ
same_after versions [] = 0
same_after versions (answers ∷ rounds) =
    same_in versions answers + same_after (left_of versions answers) rounds

abbrev pub left_after : List KnownBag → List (List Answer) → List KnownBag
left_after versions [] = versions
left_after versions (answers ∷ rounds) = left_after (left_of versions answers) rounds
