-- Over tapes calls that may answer are answered; so what is within reach comes about.
use Rattle.std.proofs.Common.{ℕ, ◌≡◌, refl, sym, subst, List, [], length, drop}
use Rattle.fed_types.specs.Lists.{Has}
use Rattle.fed_types.specs.Sites.{Membership, members_of}
use Rattle.fed_types.specs.Slots.{SlotName}
use Rattle.fed_types.specs.Laws.Lists.{map_has, has_drop}
use Rattle.cell_device.specs.Images.{at_rest}
use Rattle.records.specs.declared.owner.Owner.{Owner}
use Rattle.records.specs.declared.record.Record.{Record}
use Rattle.records.specs.Records.{AreRecords}
use Rattle.site.specs.Contents.{Contents}
use Rattle.world_law.specs.Networks.{SiteState, new_network, volatile_in}
use Rattle.udp_site.specs.Requests as requests
use Rattle.udp_site.specs.Requests.{Request, request_of}
use Rattle.udp_site.specs.Served.{text_of}
use Rattle.udp_site.specs.Traffic.{Post, Taken, Nothing, From}
use Rattle.udp_site.specs.Turns.{Serving}
use Rattle.serving_law.specs.Federations.{Member, Serves, Down, Federation, Step, Happening, Turns}
use Rattle.serving_law.specs.Federations.{Starts, new_federation, after_all}
use Rattle.serving_law.specs.Disks.{journal}
use Rattle.serving_law.specs.Rules.{owner_of, MayCome, May, IsHistory}
use Rattle.serving_law.proofs.DiskCalls.{no_folders}
use Rattle.serving_law.proofs.DiskJournals.{says}
use Rattle.serving_law.proofs.Networks.{serving, is_serving, IsServed, IsMember}
use Rattle.serving_law.proofs.Requests.{query_is_slot, recover_is_slot, says_is_message}
use Rattle.serving_reach_law.specs.Acts as acts
use Rattle.serving_reach_law.specs.Acts.{Comes, IsOf, Does}
use Rattle.serving_reach_law.specs.Laws.{AreRunning}
use Rattle.serving_reach_law.specs.Tapes.{Tape, device, TapesAnswer, ADecisionComesAbout}
use Rattle.serving_reach_law.proofs.Answered.{comes_about}
use Rattle.serving_reach_law.proofs.Reached.{Walked, from_new}
use Rattle.serving_reach_law.proofs.Reaching.{a_decision}
use Rattle.serving_reach_law.proofs.Rows.{IsSupported}
use Rattle.serving_reach_law.proofs.TapeJournals.{only_now, with_journal, a_book, opens}
use Rattle.serving_reach_law.proofs.TapeTurns.{Turn, hears_turn, recovers_turn, queries_turn}

module _ (members : Membership) (addresses running : List ℕ) (are : AreRunning members addresses
    running)
    (history : List (Happening Tape)) (may : IsHistory device members history) where
  abbrev f : Federation Tape
  f = after_all new_federation history

  walk : Walked device members are.membership only_now new_federation new_network history
  walk = from_new device members are.membership only_now history may

  -- something does it
  abbrev CanBeDone : acts.Act → Type 0
  CanBeDone act = (h : Happening Tape) × May device members f h × Does addresses act h

  -- ---- a member is started

  abbrev no_tables : Contents
  no_tables = record {
    deposits = [];
    spare = 0;
    depositing = [];
    acceptor = [];
    proposer = record { members = members; site = 0; rows = [] };
    learner = record { members = members; rows = [] };
  }

  module _ (n : ℕ) (runs : Has n running) where
    abbrev own : Owner
    own = owner_of device members n

    member : Has n (members_of members)
    member = are.are_members n runs

    module _ (records : List Record) (down : f.members n ≡ Down records) where
      formed : AreRecords records
      formed =
          subst AreRecords
          (sym (subst (λ (m : Member Tape). IsMember device members n m (walk.x.sites n)) down
          (walk.stands.is n)))
          (walk.stands.formed.records n)

      abbrev tape : Tape
      tape = with_journal own are.membership.1 records

      starts : CanBeDone (acts.Start n)
      starts = (
        Starts n tape (record {
          book = a_book own are.membership.1 tape records;
          tables = no_tables;
        }),
        (
          member,
          (
            records,
            down,
            record {
              image = at_rest (journal own records);
              told = refl;
              says = says own are.membership.1 records formed;
            },
          ),
          opens own are.membership.1 records formed,
        ),
        refl,
      )

    -- ---- a member takes something in

    module _ (old : Serving Tape) (serves : f.members n ≡ Serves old) where
      abbrev site : SiteState
      site = walk.x.sites n

      served : IsServed device members n old site
      served =
          subst (λ (m : Member Tape). IsMember device members n m (walk.x.sites n)) serves
          (walk.stands.is n)

      abbrev canonical : Serving Tape
      canonical =
          serving device members n site.records (volatile_in site.mode) old.site.book.cell
          old.site.tables old.idle old.tried

      supported : IsSupported site.records (volatile_in site.mode)
      supported = record {
        on_record = λ s c e.
            map_has (λ (r : Record). r.slot) ((walk.stands.kept.volatiles n).current s c e).issued;
        within = λ s c e. ((walk.stands.kept.volatiles n).current s c e).within;
      }

      turn_for : (slot : SlotName) (took : Taken) → MayCome members f.handed took
          → (bytes : List ℕ) (r : Request) → request_of members.federation took ≡ r
          → IsOf members addresses f.handed n slot bytes r → Turn addresses canonical r
      turn_for slot took may_come bytes (requests.Says m) e for =
          hears_turn members are.membership addresses n member site.records
          (walk.stands.formed.records n) (volatile_in site.mode) (walk.stands.formed.heard n)
          supported old.site.book.cell served.recovers old.site.tables old.idle old.tried m
          (says_is_message members f.handed took may_come m e)
      turn_for slot took may_come bytes (requests.Queries port s) e for =
          queries_turn members are.membership addresses n member site.records
          (walk.stands.formed.records n) (volatile_in site.mode) (walk.stands.formed.heard n)
          supported old.site.book.cell served.recovers old.site.tables old.idle old.tried s
          (query_is_slot members f.handed took may_come port s e) port
      turn_for slot took may_come bytes (requests.Recovers s) e for =
          recovers_turn members are.membership addresses n member site.records
          (walk.stands.formed.records n) (volatile_in site.mode) (walk.stands.formed.heard n)
          supported old.site.book.cell served.recovers old.site.tables old.idle old.tried s
          (recover_is_slot members f.handed took may_come s e)
      turn_for slot took may_come bytes (requests.Deposits port s path) e for = absurd for
      turn_for slot took may_come bytes requests.Waits e for = absurd for
      turn_for slot took may_come bytes requests.Noise e for = absurd for

      done_by : (took : Taken) → MayCome members f.handed took
          → Turn addresses canonical (request_of members.federation took)
          → CanBeDone (acts.Take n took)
      done_by took may_come t = (
        Turns n step (length t.done.posts) (length (text_of step.turn)),
        (
          old,
          (member, serves),
          record {
            may_come = may_come;
            comes = rw (is_serving device members n old site served) t.comes;
          },
          t.opened,
        ),
        (
          refl,
          refl,
          refl,
          record { not_the_last = t.not_the_last; has_memory = t.has_memory },
          refl,
          refl,
        ),
      )
        where
          step : Step Tape
          step = record {
            addresses = addresses;
            folders = no_folders;
            turn = record { took = took; done = t.done };
            next = t.next;
          }

      takes : (slot : SlotName) (took : Taken) → MayCome members f.handed took
          → Comes members addresses f.handed n slot took → CanBeDone (acts.Take n took)
      takes slot Nothing may_come comes = absurd comes
      takes slot (From port bytes) may_come comes =
          done_by (From port bytes) may_come
          (turn_for slot (From port bytes) may_come bytes
          (request_of members.federation (From port bytes)) refl comes)

-- what comes of a part of what was handed out comes of all
module _ (members : Membership) (addresses : List ℕ) (before : ℕ) (posts : List Post) (n : ℕ)
    (slot : SlotName) where
  of_all : (bytes : List ℕ) (r : Request) → IsOf members addresses (drop before posts) n slot bytes
      r
      → IsOf members addresses posts n slot bytes r
  of_all bytes (requests.Says message) a = (a.0, a.1, has_drop before posts a.2)
  of_all bytes (requests.Queries port asked) a = a
  of_all bytes (requests.Recovers asked) a = a
  of_all bytes (requests.Deposits port asked path) a = a
  of_all bytes requests.Waits a = a
  of_all bytes requests.Noise a = a

  comes_of_all : (took : Taken) → Comes members addresses (drop before posts) n slot took
      → Comes members addresses posts n slot took
  comes_of_all Nothing a = a
  comes_of_all (From port bytes) a =
      of_all bytes (request_of members.federation (From port bytes)) a

pub tapes_answer : TapesAnswer
tapes_answer members addresses running slot are history before (acts.Start n) may
    (runs, (records, down)) =
    starts members addresses running are history may n runs records down
tapes_answer members addresses running slot are history before (acts.Take n took) may
    (runs, (old, serves), may_come, comes) =
    takes members addresses running are history may n runs old serves slot took may_come
    (comes_of_all members addresses before (after_all new_federation history).handed n slot took
    comes)

pub a_decision_comes_about : ADecisionComesAbout
a_decision_comes_about members addresses running history slot are may can =
    comes_about device members addresses running history slot
    (tapes_answer members addresses running slot are) may
    (a_decision device members only_now addresses running history slot are may can)
