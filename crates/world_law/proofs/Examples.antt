-- The reference run at work: whole schedules, computed.
use Rattle.std.proofs.Common.{ℕ, ◌≡◌, List, [], ◌∷◌, ◌++◌, Option, None, Some, map, length}
use Rattle.std.proofs.Common.{replicate, filter_map, rules}
use Rattle.std.specs.Prelude.{Ok}
use Rattle.sha2.specs.Sha256.{sha256, digest_bytes}
use Rattle.fed_types.specs.declared.bag_id.BagId.{BagId}
use Rattle.fed_types.specs.Ballots.{BallotNumber, ballot_cmp}
use Rattle.fed_types.specs.Lists.{is_in}
use Rattle.fed_types.specs.Quorums.{QuorumSystem, quorums_of}
use Rattle.fed_types.specs.Sites.{sites_to}
use Rattle.fed_types.specs.Slots.{SlotName, same_slot}
use Rattle.fields.specs.Checksums.{checksum, with_checksum}
use Rattle.records.specs.declared.entry.Entry.TheVariants as entry
use Rattle.records.specs.Layout.{encoded}
use Rattle.records.specs.SlotStates.{promised_of, vote_of, used_of, deposit_of, known_of}
use Rattle.dgram.specs.declared.body.Body.TheVariants.{Prepare}
use Rattle.dgram.specs.declared.message.Message.{Message}
use Rattle.dgram.specs.Decoded.{message_of}
use Rattle.dgram.specs.Heard.{bodies_of, promises_for, promisers, priors, voters_for, floor_of}
use Rattle.acceptor.specs.Decisions.{prepare_decision, accept_decision}
use Rattle.learner.specs.LearnedBags.{chosen_by}
use Rattle.proposer.specs.Proposals.{next_ballot, gathered, highest_prior, proposal}
use Rattle.proposer.specs.VolatileStates.{VolatileState, new_volatile, hears, with_current}
use Rattle.proposer.specs.VolatileStates.{promise_message, refusal_message}
use Rattle.site.specs.declared.fault.SiteFault.TheVariants as faults
use Rattle.site.specs.Arrivals.{on_body, on_arrival}
use Rattle.site.specs.Calls.{on_deposit, on_propose, on_ask, reply_of}
use Rattle.site.specs.Effects.{Send, to_each}
use Rattle.schedule.specs.declared.call.Call.TheVariants as calls
use Rattle.schedule.specs.declared.command.Command.{Command}
use Rattle.schedule.specs.declared.command.Command.TheVariants as commands
use Rattle.schedule.specs.declared.fate.DeviceCall.TheVariants.{Append, Sync}
use Rattle.schedule.specs.declared.fate.Fate.{Fate}
use Rattle.schedule.specs.declared.fate.Fate.TheVariants.{Whole, StopsIn, StopsAfter, FailsIn}
use Rattle.bag_tree.specs.Tree.{fault_of_added}
use Rattle.lines.specs.declared.line.Line.{Line}
use Rattle.lines.specs.declared.line.Line.TheVariants as lines
use Rattle.lines.specs.declared.line.NamedBag.{NamedBag}
use Rattle.site.specs.declared.answer.Reply.TheVariants as replies
use Rattle.lines.specs.declared.line.Reason.TheVariants as reasons
use Rattle.world_law.specs.Networks.{Up, new_site, new_network, outcome, happens, run, Ask, Deliver}
use Rattle.lines.specs.Named.{first_tree}
use Rattle.world_law.specs.Trees.{tree_at, put_tree}
use Rattle.world_law.specs.Worlds.{World, new_world, sent_lines, after_event, on_tree, on_folder}
use Rattle.world_law.specs.Worlds.{on_added, on_file, on_checked, on_deposit as on_deposited}
use Rattle.world_law.specs.Worlds.{on_datagram, on_deliver, on_call, on_raw, numbers_to, on_turn}
use Rattle.world_law.specs.Worlds.{pumped, on_start, after_command, at_member}

-- ---- the words of the examples

-- the object `a`, version 1
abbrev a : SlotName
a = record { object = 97 ∷ []; version = 1 }

-- the bags of trees 1 and 2, and as lines name them
abbrev bag : ℕ → BagId
bag tree = record { 0 = replicate 64 tree }

abbrev named_bag : ℕ → NamedBag
named_bag tree = record { bag = bag tree; tree = tree }

abbrev ballot : (round site : ℕ) → BallotNumber
ballot round site = record { round = round; site = site }

abbrev prepares : (round site : ℕ) → Message
prepares round site = record { slot = a; body = Prepare (ballot round site) }

-- what a command of line 16 does with a world
abbrev Step : Type 0
Step = World → World

abbrev does : Command → Step
does command w = after_command w 16 command

-- `deposit S T a 1`, where tree T is a valid bag: the check of its files isn't computed here
abbrev deposits : (site tree : ℕ) → Fate → Step
deposits site tree fate w = on_checked w 16 site tree a fate (Ok (bag tree))

abbrev deposit : (site tree : ℕ) → Step
deposit site tree = deposits site tree Whole

-- `propose S a 1`
abbrev propose : (site : ℕ) → Step
propose site = does (commands.Call (calls.Propose site a) Whole)

-- `deliver K`, and several of them
abbrev deliver : (k : ℕ) → Fate → Step
deliver k fate = does (commands.Call (calls.Deliver k) fate)

abbrev delivers : List ℕ → List Step
delivers ks = map (λ k. deliver k Whole) ks

-- the other commands
abbrev pump : (turns : ℕ) → Step
pump turns = does (commands.Pump turns)

abbrev query : (site : ℕ) → Step
query site = does (commands.Query site a)

abbrev start : (site : ℕ) → Step
start site = does (commands.Start site)

abbrev stop : (site : ℕ) → Step
stop site = does (commands.Stop site)

-- `raw S 00`, and `raw` with bytes that are a message: the reading of a message isn't computed here
abbrev raw : (site : ℕ) → Step
raw site = does (commands.Raw site (0 ∷ []))

abbrev raw_message : (site : ℕ) → Step
raw_message site w = at_member w 16 site (on_raw w 16 site (Some (prepares 1 1)))

abbrev play : World → List Step → World
play w [] = w
play w (step ∷ steps) = play (step w) steps

-- the world of members of these weights after these steps; of so many members of weight 1
abbrev after_of : List ℕ → List Step → World
after_of weights steps = play (new_world (record { federation = 7; weights = weights })) steps

abbrev after : ℕ → List Step → World
after count steps = after_of (replicate count 1) steps

-- its lines, without those of datagrams
abbrev own : Line → Option Line
own (lines.Sent number from to bytes) = None
own line = Some line

abbrev says_of : List ℕ → List Step → List Line
says_of weights steps = filter_map own (after_of weights steps).lines

abbrev says : ℕ → List Step → List Line
says count steps = says_of (replicate count 1) steps

abbrev registered : (site tree : ℕ) → Line
registered site tree = lines.Registered site a (named_bag tree)

abbrev known : (site tree : ℕ) → Line
known site tree = lines.Known site a (named_bag tree)

-- the beginning of a datagram of federation 7 about the object, of this kind and sender
abbrev front : (kind from : ℕ) → List ℕ
front kind from =
    66 ∷ 80 ∷ 2 ∷ kind ∷ 0 ∷ 0 ∷ 0 ∷ 0 ∷ 0 ∷ 0 ∷ 0 ∷ 7 ∷ from ∷ 1 ∷ 97 ∷ 0 ∷ 0 ∷ 0 ∷ 1 ∷ []

-- a ballot of a round below 256
abbrev ballot_bytes : (round site : ℕ) → List ℕ
ballot_bytes round site = 0 ∷ 0 ∷ 0 ∷ round ∷ site ∷ []

abbrev prepare : List ℕ
prepare = with_checksum (front 1 1 ++ ballot_bytes 1 1)

-- site 1 proposes, and is promised its ballot by itself and 2
abbrev five_turns : List Step
five_turns = deposit 1 1 ∷ propose 1 ∷ pump 5 ∷ []

-- Site 2 stops while it syncs its vote, of which so many bytes are kept, and is opened again. Then
-- site 3 proposes, and hears of 2 and itself.
abbrev vote_cut_at : ℕ → List Step
vote_cut_at kept =
    deposit 1 1 ∷ deposit 3 2 ∷ propose 1 ∷ pump 5
    ∷ deliver 8 (StopsIn Sync kept) ∷ start 2 ∷ propose 3
    ∷ delivers (11 ∷ 12 ∷ 13 ∷ 14 ∷ 16 ∷ 17 ∷ 20 ∷ 23 ∷ [])

abbrev three_agree : List Step
three_agree = deposit 1 1 ∷ propose 1 ∷ pump 18 ∷ []

-- site 1's promise of its own ballot, and another site's
abbrev promise : (site : ℕ) → Message
promise site = promise_message a site (ballot 1 1) None

abbrev promised_by : (site : ℕ) → VolatileState
promised_by site = hears new_volatile (promise site)

-- the quorums of three members of weight 1
abbrev three : QuorumSystem
three = quorums_of (record { federation = 7; weights = replicate 3 1 })

-- what site 1 of three sends when it is promised its ballot by itself, where it had this volatile
-- state when it issued the ballot, and then heard more
abbrev sends_of : VolatileState → (VolatileState → VolatileState) → List Send
sends_of before more =
    (on_arrival three 1
    (record { slot = a; body = entry.Deposit (bag 1) }
    ∷ record { slot = a; body = entry.Round 1 } ∷ [])
    (more (with_current before a (ballot 1 1))) (Some (promise 1))).sends

-- ---- the examples
pub record Examples : Type 0 where
  -- three sites agree, by 18 datagrams
  three_sites_agree : says 3 three_agree ≡ registered 1 1 ∷ known 1 1 ∷ known 2 1 ∷ known 3 1 ∷ []
  eighteen_datagrams : length (after 3 three_agree).network.sent ≡ 18
  -- a federation of one agrees with itself
  one_site : says 1 (deposit 1 1 ∷ propose 1 ∷ pump 4 ∷ []) ≡ registered 1 1 ∷ known 1 1 ∷ []
  -- two votes of four choose nothing, three do
  half_of_four :
      says 4 (deposit 1 1 ∷ propose 1 ∷ pump 7 ∷ delivers (9 ∷ 10 ∷ 13 ∷ 17 ∷ []) ++ query 1 ∷ [])
      ≡ registered 1 1 ∷ lines.Replied 1 a (replies.Pending (named_bag 1)) ∷ []
  three_of_four :
      says 4 (deposit 1 1 ∷ propose 1 ∷ pump 7 ∷ delivers (9 ∷ 10 ∷ 13 ∷ 17 ∷ 11 ∷ 21 ∷ []))
      ≡ registered 1 1 ∷ known 1 1 ∷ []
  -- of weights 2 and 1 the first member is a quorum; of weights 2, 1 and 1 two members of weight 1
  -- aren't: their promises propose nothing, and their votes choose nothing
  heavy_member :
      says_of (2 ∷ 1 ∷ []) (deposit 1 1 ∷ propose 1 ∷ delivers (1 ∷ 3 ∷ 4 ∷ 6 ∷ []))
      ≡ registered 1 1 ∷ known 1 1 ∷ []
  light_members :
      says_of (2 ∷ 1 ∷ 1 ∷ []) (deposit 1 1 ∷ propose 1 ∷ delivers (2 ∷ 3 ∷ 4 ∷ 5 ∷ 6 ∷ 1 ∷ 6 ∷ 8
      ∷ 9 ∷ 10 ∷ 13 ∷ []) ++ query 1 ∷ delivers (7 ∷ 16 ∷ []))
      ≡ registered 1 1 ∷ lines.Skip 16 reasons.Datagram
      ∷ lines.Replied 1 a (replies.Pending (named_bag 1)) ∷ known 1 1 ∷ []
  -- a site that is no member hears nothing, even where a member has asked it
  stranger :
      ((run three new_network (Ask 1 9 a Whole ∷ Deliver 1 Whole ∷ [])).sites 9).mode
      ≡ Up new_volatile
  -- a prior vote wins over the own deposit, which then is another bag than the known one
  prior_wins :
      says 3 (five_turns ++ delivers (7 ∷ 8 ∷ []) ++ deposit 3 2 ∷ propose 3
      ∷ delivers (17 ∷ 18 ∷ 19 ∷ 20 ∷ 22 ∷ 23 ∷ 26 ∷ 29 ∷ 10 ∷ 13 ∷ []) ++ deposit 3 2 ∷ [])
      ≡ registered 1 1 ∷ registered 3 2 ∷ known 3 1 ∷ known 1 1
      ∷ lines.Refused 3 (faults.OtherKnown (bag 1)) ∷ []
  -- of two prior votes that of the greater ballot wins, and not the one heard last
  highest_wins :
      says 3 (deposit 1 1 ∷ deposit 2 2 ∷ deposit 3 1
      ∷ propose 1 ∷ delivers (1 ∷ 2 ∷ 4 ∷ 5 ∷ 6 ∷ [])
      ++ propose 2 ∷ delivers (13 ∷ 14 ∷ 15 ∷ 16 ∷ 18 ∷ [])
      ++ propose 3 ∷ delivers (24 ∷ 23 ∷ 26 ∷ 27 ∷ 28 ∷ 29 ∷ 33 ∷ 36 ∷ []))
      ≡ registered 1 1 ∷ registered 2 2 ∷ registered 3 1 ∷ known 3 2 ∷ []
  -- one promise that is heard three times is one site's: no fifth datagram is sent
  one_promise_thrice :
      says 3 (deposit 1 1 ∷ propose 1 ∷ delivers (1 ∷ 4 ∷ 4 ∷ 4 ∷ 5 ∷ []))
      ≡ registered 1 1 ∷ lines.Skip 16 reasons.Datagram ∷ []
  -- promises of round 1 don't count in round 2
  older_promises :
      says 3 (deposit 1 1 ∷ propose 1 ∷ pump 2 ∷ propose 1 ∷ delivers (4 ∷ 5 ∷ 9 ∷ []))
      ≡ registered 1 1 ∷ lines.Skip 16 reasons.Datagram ∷ []
  -- a promise that was heard before its ballot was issued doesn't count; one that is heard later
  -- does
  early_promise :
      (sends_of (promised_by 2) (λ volatile. volatile) ≡ [])
      × (length (sends_of new_volatile (λ volatile. hears volatile (promise 2))) ≡ 3)
  -- a vote that is lost was named to nobody; a kept one is named in the next promise; a torn one is
  -- lost
  lost_vote : says 3 (vote_cut_at 0)
      ≡ registered 1 1 ∷ registered 3 2 ∷ lines.Down 2 ∷ lines.Up 2 1 ∷ known 3 2 ∷ []
  kept_vote : says 3 (vote_cut_at 86)
      ≡ registered 1 1 ∷ registered 3 2 ∷ lines.Down 2 ∷ lines.Up 2 2 ∷ known 3 1 ∷ []
  torn_vote : says 3 (vote_cut_at 85)
      ≡ registered 1 1 ∷ registered 3 2 ∷ lines.Down 2 ∷ lines.Up 2 1 ∷ known 3 2 ∷ []
  -- of two proposers that of the greater ballot wins; then nobody proposes any more
  duel :
      says 3 (deposit 1 1 ∷ deposit 2 2 ∷ propose 1 ∷ propose 2 ∷ pump 30 ∷ deposit 1 1
      ∷ propose 1 ∷ [])
      ≡ registered 1 1 ∷ registered 2 2 ∷ known 1 2 ∷ known 2 2 ∷ known 3 2
      ∷ lines.Refused 1 (faults.OtherKnown (bag 2)) ∷ lines.Refused 1 faults.AlreadyKnown ∷ []
  -- a site that has forgotten what it heard asks; then a deposit of the known bag is registered
  asked_after_a_restart :
      says 3 (deposit 1 1 ∷ propose 1 ∷ delivers (1 ∷ 2 ∷ 4 ∷ 5 ∷ 6 ∷ 7 ∷ 9 ∷ 12 ∷ [])
      ++ stop 3 ∷ start 3 ∷ does (commands.Call (calls.Ask 3 1 a) Whole)
      ∷ delivers (15 ∷ 16 ∷ []) ++ deposit 3 2 ∷ deposit 3 1 ∷ query 2 ∷ query 3 ∷ [])
      ≡ registered 1 1 ∷ known 1 1 ∷ lines.Down 3 ∷ lines.Up 3 0 ∷ known 3 1
      ∷ lines.Refused 3 (faults.OtherKnown (bag 1)) ∷ registered 3 1
      ∷ lines.Replied 2 a replies.Nothing
      ∷ lines.Replied 3 a (replies.Known (named_bag 1)) ∷ []
  -- A commit that fails leaves nothing, and the site needs opening: it refuses all calls and bytes,
  -- and is stopped and opened as ever. A failure where there is no record changes nothing.
  failed_commit :
      says 3 (deposits 1 1 (FailsIn Sync 0) ∷ query 1 ∷ raw 1 ∷ propose 1 ∷ start 1
      ∷ query 1 ∷ does (commands.Call (calls.Propose 1 a) (FailsIn Append 0)) ∷ query 1 ∷ [])
      ≡ lines.Refused 1 faults.Device ∷ lines.Refused 1 faults.NeedsOpen
      ∷ lines.Refused 1 faults.NeedsOpen ∷ lines.Refused 1 faults.NeedsOpen ∷ lines.Up 1 0
      ∷ lines.Replied 1 a replies.Nothing ∷ lines.Refused 1 faults.NoDeposit
      ∷ lines.Replied 1 a replies.Nothing ∷ []
  -- a site stops between two datagrams: the third to the last are never sent
  two_of_three :
      (says 3 (deposit 1 1 ∷ propose 1 ∷ pump 4 ∷ deliver 5 (StopsAfter 2) ∷ start 1 ∷ [])
      ≡ registered 1 1 ∷ lines.Down 1 ∷ lines.Up 1 3 ∷ [])
      × (length (after 3 (deposit 1 1 ∷ propose 1 ∷ pump 4 ∷ deliver 5 (StopsAfter 2)
      ∷ [])).network.sent ≡ 8)
  -- a repeated Prepare is refused, and names the same ballot; a line is printed for each datagram,
  -- after the event's own
  sent_lines_too :
      (after 3 (deposit 1 1 ∷ propose 1 ∷ delivers (1 ∷ 1 ∷ []))).lines
      ≡ registered 1 1 ∷ lines.Sent 1 1 1 prepare ∷ lines.Sent 2 1 2 prepare
      ∷ lines.Sent 3 1 3 prepare
      ∷ lines.Sent 4 1 1 (with_checksum (front 2 1 ++ ballot_bytes 1 1 ++ 0 ∷ []))
      ∷ lines.Sent 5 1 1 (with_checksum (front 5 1 ++ ballot_bytes 1 1 ++ ballot_bytes 1 1)) ∷ []
  -- the next round is above the one that a refusal named, not only above those that were used
  refusal_raises_the_round :
      map (λ (d : Send). d.message)
      (after 3 (deposit 1 1 ∷ deposit 2 2 ∷ propose 1 ∷ propose 1 ∷ delivers (6 ∷ [])
      ++ propose 2 ∷ delivers (10 ∷ 11 ∷ []) ++ propose 2 ∷ [])).network.sent
      ≡ replicate 3 (prepares 1 1) ++ replicate 3 (prepares 2 1)
      ++ promise_message a 3 (ballot 2 1) None ∷ replicate 3 (prepares 1 2)
      ++ refusal_message a 3 (ballot 1 2) (ballot 2 1) ∷ replicate 3 (prepares 3 2)
  -- a pump ends where no datagram is left, and a skipped `deliver` has named its number
  pump_ends : says 3 (deposit 1 1 ∷ propose 1 ∷ pump 30 ∷ pump 4 ∷ []) ≡ says 3 three_agree
  skipped_is_named :
      (after 3 (deliver 1 Whole ∷ propose 1 ∷ deposit 1 1 ∷ propose 1 ∷ pump 1 ∷ [])).lines
      ≡ lines.Skip 16 reasons.Datagram ∷ lines.Refused 1 faults.NoDeposit ∷ registered 1 1
      ∷ lines.Sent 1 1 1 prepare ∷ lines.Sent 2 1 2 prepare ∷ lines.Sent 3 1 3 prepare
      ∷ lines.Sent 4 2 1 (with_checksum (front 2 2 ++ ballot_bytes 1 1 ++ 0 ∷ [])) ∷ []
  -- bytes that are a message are skipped, others are dropped; a site that is no member is named
  -- first, and one that is down last
  bytes :
      says 3 (raw_message 2 ∷ raw 2 ∷ raw 9 ∷ stop 2 ∷ raw_message 2 ∷ raw 2 ∷ stop 2 ∷ start 2
      ∷ start 2 ∷ [])
      ≡ lines.Skip 16 reasons.Formed ∷ lines.Dropped 2 ∷ lines.Skip 16 reasons.Site
      ∷ lines.Down 2 ∷ lines.Skip 16 reasons.Formed ∷ lines.Skip 16 reasons.Down
      ∷ lines.Skip 16 reasons.Down ∷ lines.Up 2 0 ∷ lines.Skip 16 reasons.Up ∷ []
  -- trees are declared once, and before they are used; a deposit at no member is skipped for that
  trees :
      says 3 (does (commands.Folder 1) ∷ does (commands.Tree 1) ∷ does (commands.Tree 1)
      ∷ does (commands.File 1 (46 ∷ 46 ∷ []) []) ∷ does (commands.File 1 (97 ∷ []) [])
      ∷ does (commands.File 1 (97 ∷ []) [])
      ∷ does (commands.Call (calls.Deposit 4 2 a) Whole)
      ∷ does (commands.Call (calls.Deposit 3 2 a) Whole) ∷ [])
      ≡ lines.Skip 16 reasons.Tree ∷ lines.Skip 16 reasons.Tree ∷ lines.Skip 16 reasons.Path
      ∷ lines.Skip 16 reasons.Path ∷ lines.Skip 16 reasons.Site ∷ lines.Skip 16 reasons.Tree ∷ []

pub all : Examples
unfolding ballot_cmp is_in sites_to same_slot encoded checksum sha256 digest_bytes promised_of
    vote_of used_of deposit_of
    known_of message_of bodies_of promises_for promisers priors voters_for floor_of
    prepare_decision accept_decision chosen_by next_ballot gathered highest_prior proposal on_body
    on_arrival on_deposit on_propose on_ask reply_of to_each new_site new_network outcome happens
    tree_at put_tree first_tree new_world sent_lines after_event on_tree on_folder on_added on_file
    on_deposited on_datagram on_deliver on_call on_raw numbers_to on_turn pumped on_start
    after_command fault_of_added run
all = search rules
