-- A site over a disk of which all is known is called, and takes a turn.
use Rattle.std.proofs.Common.{ℕ, ◌≡◌, ◌<◌, ◌^◌, inr, refl, List, [], ◌∷◌, ◌++◌, length, Option}
use Rattle.std.proofs.Common.{None, Some}
use Rattle.std.specs.Bool.{⊤}
use Rattle.std.specs.Prelude.{Result, Ok, Err}
use Rattle.bag_tree.specs.declared.fault.TreeFault.{TreeFault}
use Rattle.bag_tree.specs.declared.fault.TreeFault.TheVariants as trees
use Rattle.bag_tree.specs.Facts.{TreeFacts}
use Rattle.fed_types.specs.Sites.{Membership}
use Rattle.fed_types.specs.Values.{IsMembership}
use Rattle.records.specs.declared.owner.Owner.{Owner}
use Rattle.records.specs.declared.record.Record.{Record}
use Rattle.records.specs.Records.{IsRecord, AreRecords}
use Rattle.dgram.specs.declared.message.Message.{Message}
use Rattle.dgram.specs.Encoding.{datagram_of}
use Rattle.dgram.specs.Messages.{IsMessage}
use Rattle.dgram.proofs.MessageOf.{message_of-again}
use Rattle.proposer.specs.VolatileStates.{VolatileState}
use Rattle.proposer.specs.UnderWay.{UnderWay}
use Rattle.site.specs.declared.answer.Answer.{Answer}
use Rattle.site.specs.declared.answer.Line.{Line}
use Rattle.site.specs.declared.fault.SiteFault.{SiteFault}
use Rattle.site.specs.Answered.{Keeps}
use Rattle.site.specs.Calls.{Input}
use Rattle.site.specs.Calls as calls
use Rattle.site.specs.Effects.{Effect}
use Rattle.site.specs.Sites.{effect}
use Rattle.site.specs.Contents.{Contents, Represents}
use Rattle.udp_site.specs.Traffic.{Taken, From}
use Rattle.udp_site.specs.Requests as requests
use Rattle.udp_site.specs.Turns.{Serving, Done, IsCalled, turn_of, notices_of, posts_of}
use Rattle.serving_law.specs.Disks.{Disk, device}
use Rattle.serving_law.specs.Federations.{Step}
use Rattle.serving_law.proofs.DiskJournals.{holds, commits}
use Rattle.serving_law.proofs.Answers.{AreMessages, seals, seals_are, answer_of}

-- a call says this
abbrev pub said : Option Line → Result (Option Line) SiteFault
said line = Ok line

-- the records after a call
abbrev pub kept : List Record → Option Record → List Record
kept records None = records
kept records (Some r) = records ++ r ∷ []

abbrev pub IsKept : Option Record → Type 0
IsKept None = ⊤
IsKept (Some r) = IsRecord r

-- a datagram comes, and it isn't known what folders give
abbrev pub no_folders : List ℕ → Result TreeFacts TreeFault
no_folders path = Err trees.Memory

module _ (members : Membership) (is_membership : IsMembership members) (n : ℕ) where
  abbrev pub owner : Owner
  owner = record { members = members; site = n }

  abbrev pub serving : List Record → Contents → VolatileState → (idle tried : ℕ) → Serving Disk
  serving records tables volatile idle tried = record {
    site = record { book = holds owner records; tables = tables };
    volatile = volatile;
    idle = idle;
    tried = tried;
  }

  keeps : (records : List Record) → AreRecords records → (c : Option Record) → IsKept c
      → (answer : Answer)
      → Keeps device c (Ok answer) (holds owner records) (holds owner (kept records c))
  keeps records are None is answer = refl
  keeps records are (Some r) is answer = inr (commits owner is_membership.1 records are r is)

  -- a call answers as the definitions say
  module _ (records : List Record) (are : AreRecords records) (tables then : Contents)
      (volatile : VolatileState) (idle tried : ℕ) (input : Input) (e : Effect) (line : Option Line)
      (is : effect (serving records tables volatile idle tried).site volatile input ≡ e)
      (says : e.says ≡ said line) (keep : IsKept e.commits) (ms : AreMessages e.sends)
      (few : length (seals members.federation e.sends ms) < 2 ^ 63)
      (under : UnderWay) (stands : Represents then (kept records e.commits) e.volatile under) where
    abbrev old : Serving Disk
    old = serving records tables volatile idle tried

    abbrev new : Serving Disk
    new = serving (kept records e.commits) then e.volatile idle tried

    abbrev answer : Answer
    answer = answer_of line (seals members.federation e.sends ms) few

    pub called : IsCalled device old input (Ok answer) new
    called = record {
      answered = λ opened.
          rw is (record {
            keeps = keeps records are e.commits keep answer;
            gives = (says, seals_are members.federation e.sends ms, (under, stands));
          });
      refused = λ needs. absurd (cc needs);
      volatile = rw is refl;
      idle = refl;
      tried = refl;
    }

  -- ---- a turn in which a message comes

  abbrev pub from_site : Message → Taken
  from_site m = From 0 (datagram_of members.federation m)

  abbrev pub heard_done : List ℕ → Message → Answer → Done
  heard_done addresses m answer = record {
    posts = posts_of addresses (Ok answer);
    notices = notices_of n (calls.Arrives (Some m)) (Ok answer);
  }

  abbrev pub heard_step : List ℕ → Message → Answer → Serving Disk → Step Disk
  heard_step addresses m answer next = record {
    addresses = addresses;
    folders = no_folders;
    turn = record { took = from_site m; done = heard_done addresses m answer };
    next = next;
  }

  pub hears : (addresses : List ℕ) (records : List Record) (tables : Contents)
      (volatile : VolatileState) (idle tried : ℕ) (next : Serving Disk) (m : Message) → IsMessage m
      → requests.request_by 0 m m.body ≡ requests.Says m → (answer : Answer)
      → IsCalled device (serving records tables volatile idle tried) (calls.Arrives (Some m))
      (Ok answer) next
      → turn_of device addresses (Some no_folders) (serving records tables volatile idle tried)
      (from_site m) (heard_done addresses m answer) next
  hears addresses records tables volatile idle tried next m is says answer call =
      rw (message_of-again members.federation m is, says) (Ok answer, call, refl)
