-- Histories of three sites that serve, over disks of which all is known. The three agree; one is
-- killed between the record of its vote and the datagrams that say it; and a vote that is said
-- again, and late, counts once.
use Rattle.std.specs.Prelude.{◌≡◌, ℕ, List, [], ◌∷◌, ◌++◌, None}
use Rattle.fed_types.specs.declared.bag_id.BagId.{BagId}
use Rattle.fed_types.specs.declared.vote.Vote.{Vote}
use Rattle.fed_types.specs.Ballots.{BallotNumber}
use Rattle.fed_types.specs.Lists.{Has}
use Rattle.fed_types.specs.Sites.{Membership}
use Rattle.fed_types.specs.Slots.{SlotName}
use Rattle.records.specs.declared.entry.Entry.{Entry}
use Rattle.records.specs.declared.entry.Entry.TheVariants as entry
use Rattle.records.specs.declared.record.Record.{Record}
use Rattle.records.specs.SlotStates.{known_of}
use Rattle.dgram.specs.declared.body.Body.TheVariants.{Accepted}
use Rattle.dgram.specs.Encoding.{datagram_of}
use Rattle.lines.specs.declared.notice.Notice.TheVariants.{Learned}
use Rattle.udp_site.specs.Traffic.{Post, From}
use Rattle.udp_site.specs.Turns.{Done}
use Rattle.serving_law.specs.Federations.{Down, Step, Happening, Turns, Dies, new_federation}
use Rattle.serving_law.specs.Federations.{after_all}
use Rattle.serving_law.specs.Rules.{IsHistory}
use Rattle.serving_law.specs.Reports.{Prints}
use Rattle.serving_law.specs.Disks.{Disk, device}
use Rattle.serving_law.specs.Examples.{Request}

-- three members of weight 1
abbrev pub three : Membership
three = record { federation = 7; weights = 1 ∷ 1 ∷ 1 ∷ [] }

-- the object `a`, version 1
abbrev pub a : SlotName
a = record { object = 97 ∷ []; version = 1 }

-- site 1's first ballot, and the vote for its bag in it
abbrev pub ballot : BallotNumber
ballot = record { round = 1; site = 1 }

abbrev pub vote : BagId → Vote
vote bag = record { ballot = ballot; bag = bag }

-- ---- an agreement

-- a member prints that the bag is known
abbrev pub PrintsKnown : List (Happening Disk) → (member : ℕ) → BagId → Type 0
PrintsKnown history member bag =
    (h : Happening Disk) × Has h history × Prints h (Learned member a bag)

-- each of the three does
pub record Agree (bag : BagId) : Type 0 where
  pub history : List (Happening Disk)
  pub happens : IsHistory device three history
  pub one : PrintsKnown history 1 bag
  pub two : PrintsKnown history 2 bag
  pub three : PrintsKnown history 3 bag

abbrev pub ThreeSitesAgree : Type 0
ThreeSitesAgree = (bag : BagId) → Request three.federation a bag → Agree bag

-- ---- a kill between the record and the datagrams

abbrev pub on_record : Entry → Record
on_record said = record { slot = a; body = said }

-- the datagram to a site, which has the address of its number, that says what a site has voted for
abbrev pub says_vote : (to from : ℕ) → BagId → Post
says_vote to from bag =
    (to, datagram_of three.federation (record { slot = a; body = Accepted from (vote bag) }))

-- Site 2 is killed in the call in which it votes. It would have said its vote to site 3. Its cell
-- recovers to these records, and nothing was handed out.
pub record DiesVoting (bag : BagId) (records : List Record) : Type 0 where
  pub before : List (Happening Disk)
  pub step : Step Disk
  pub happens : IsHistory device three (before ++ Dies 2 step records ∷ [])
  pub would_say : Has (says_vote 3 2 bag) step.turn.done.posts
  pub down : (after_all new_federation (before ++ Dies 2 step records ∷ [])).members 2
      ≡ Down records
  pub nothing : (after_all new_federation (before ++ Dies 2 step records ∷ [])).handed
      ≡ (after_all new_federation before).handed

-- its vote is lost, or on record
abbrev pub KilledInAVote : Type 0
KilledInAVote =
    (bag : BagId) → Request three.federation a bag
    → DiesVoting bag (on_record (entry.Promise ballot) ∷ [])
    × DiesVoting bag
    (on_record (entry.Promise ballot) ∷ on_record (entry.Vote (vote bag)) ∷ [])

-- ---- a vote that is said again

abbrev pub nothing_done : Done
nothing_done = record { posts = []; notices = [] }

-- Site 3 hears that site 1 has voted, and hears it again: it counts once, so no bag is known. When
-- it hears of site 2's vote too, the bag is known. And of site 1's vote, which comes again then,
-- nothing comes.
pub record CountsOnce (bag : BagId) : Type 0 where
  pub before : List (Happening Disk)
  pub first : Step Disk
  pub again : Step Disk
  pub other : Step Disk
  pub late : Step Disk
  pub happens : IsHistory device three
      (before ++ Turns 3 first 0 0 ∷ Turns 3 again 0 0 ∷ Turns 3 other 0 1 ∷ Turns 3 late 0 0 ∷ [])
  pub one : first.turn.took ≡ From 0 (says_vote 3 1 bag).1
  pub same : again.turn.took ≡ first.turn.took
  pub two : other.turn.took ≡ From 0 (says_vote 3 2 bag).1
  pub same_late : late.turn.took ≡ first.turn.took
  pub quiet : again.turn.done ≡ nothing_done
  pub unknown : known_of a again.next.site.book.records ≡ None
  pub known : Has (Learned 3 a bag) other.turn.done.notices
  pub quiet_late : late.turn.done ≡ nothing_done
  pub kept : late.next.site.book ≡ other.next.site.book

abbrev pub ARepeatedVote : Type 0
ARepeatedVote = (bag : BagId) → Request three.federation a bag → CountsOnce bag
