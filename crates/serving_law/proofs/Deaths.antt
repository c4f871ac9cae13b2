-- A site dies in the call of a deposit.
use Rattle.std.proofs.Common.{ℕ, ◌≡◌, ◌≤◌, refl, sym, List, [], ◌∷◌, ◌++◌, None, Some, arith}
use Rattle.std.specs.Prelude.{Ok}
use Rattle.fed_types.specs.declared.bag_id.BagId.{BagId}
use Rattle.fed_types.specs.Lists.{Has}
use Rattle.fed_types.specs.Sites.{Membership, members_of, count_of}
use Rattle.fed_types.specs.Slots.{SlotName}
use Rattle.fed_types.specs.Values.{IsMembership}
use Rattle.fed_types.specs.Laws.Sites.{sites_to_has}
use Rattle.bag_check.specs.Check.{check_of}
use Rattle.records.specs.declared.entry.Entry.TheVariants as entry
use Rattle.records.specs.declared.record.Record.{Record}
use Rattle.records.specs.Records.{IsRecord, AreRecords}
use Rattle.records.specs.SlotStates.{known_of, deposit_of}
use Rattle.records.proofs.SlotStates.{known-push}
use Rattle.dgram.specs.Heard.{bodies_of, floor_of, voters_for}
use Rattle.learner.specs.declared.row.Row.TheVariants as rows
use Rattle.proposer.specs.Rows.{empty_row}
use Rattle.proposer.specs.VolatileStates.{new_volatile}
use Rattle.proposer.specs.UnderWay.{nothing}
use Rattle.site.specs.declared.answer.Answer.{Answer}
use Rattle.site.specs.declared.answer.Line.TheVariants as site_lines
use Rattle.site.specs.Calls.{on_deposit}
use Rattle.site.specs.Calls as calls
use Rattle.site.specs.Effects.{Effect}
use Rattle.site.specs.Sites.{effect}
use Rattle.site.specs.Contents.{Contents, Represents}
use Rattle.udp_site.specs.Traffic.{From}
use Rattle.udp_site.specs.Replies.{deposit_answer}
use Rattle.udp_site.specs.Turns.{Serving, Done, turn_of, notices_of, deposit_replies}
use Rattle.serving_law.specs.Disks.{Disk, Holds, bytes_at, journal, device}
use Rattle.serving_law.specs.Examples.{recorded, Request}
use Rattle.serving_law.specs.Federations.{Step, Happening, Dies, new_federation}
use Rattle.serving_law.specs.Rules.{MayAll, MayCome, IsHistory}
use Rattle.serving_law.proofs.DiskCalls.{owner, serving, called}
use Rattle.serving_law.proofs.Answers.{answer_of}
use Rattle.serving_law.proofs.DiskJournals.{says}
use Rattle.serving_law.proofs.Replies.{checked_is}
use Rattle.serving_law.proofs.Requests.{deposit_is_slot}
use Rattle.serving_law.proofs.Tables.{itself, records_of, tables, stands, used_by_none}
use Rattle.serving_law.proofs.NewSites.{starts_new, may_start}

module _ (members : Membership) (is_membership : IsMembership members) (slot : SlotName)
    (bag : BagId) where
  abbrev pub r : Record
  r = recorded slot bag

  -- ---- the tables: nothing was heard, and no ballot was issued

  abbrev pub its_tables : Contents
  its_tables = tables slot members 1 (record { own = empty_row; heard = rows.Unheard })

  none_known : known_of slot (r ∷ []) ≡ None
  unfolding known_of
  none_known = rw (known-push slot [] r, itself slot) refl

  pub it_stands : Represents its_tables (records_of slot (entry.Deposit bag ∷ [])) new_volatile
      nothing
  unfolding floor_of bodies_of voters_for
  it_stands =
      stands slot members 1 (entry.Deposit bag ∷ []) [] new_volatile refl (λ s f. refl)
      (record { own = empty_row; heard = rows.Unheard })
      (record {
        used = sym (used_by_none slot (entry.Deposit bag) refl);
        floor = refl;
        begun = refl;
        current = tt;
        waiting = refl;
      })
      (sym none_known) (λ none vote n. refl)

  -- ---- the call

  abbrev pub registering : Effect
  registering = record {
    commits = Some r;
    sends = [];
    says = Ok (Some (site_lines.Registered bag));
    volatile = new_volatile;
  }

  is_registering : on_deposit [] new_volatile slot (Ok bag) ≡ registering
  unfolding on_deposit deposit_of known_of
  is_registering = refl

  abbrev pub old : Serving Disk
  old = serving members is_membership 1 [] its_tables new_volatile 0 0

  abbrev pub new : Serving Disk
  new = serving members is_membership 1 (r ∷ []) its_tables new_volatile 0 0

  abbrev pub answer : Answer
  answer = answer_of (Some (site_lines.Registered bag)) [] (omega arith)

  module _ (request : Request members.federation slot bag) where
    pub effect_is : effect old.site new_volatile (calls.Deposits slot (check_of request.facts))
        ≡ registering
    effect_is =
        rw request.checked is_registering

    abbrev pub done : Done
    done = record {
      posts =
          deposit_replies members.federation 1 request.address slot (deposit_answer (Ok answer));
      notices = notices_of 1 (calls.Deposits slot (check_of request.facts)) (Ok answer);
    }

    abbrev pub step : Step Disk
    step = record {
      addresses = [];
      folders = λ path. Ok request.facts;
      turn = record { took = From request.address request.bytes; done = done };
      next = new;
    }

    pub come : MayCome members [] (From request.address request.bytes)
    come = (request.are_bytes, λ message e is. absurd (cc request.asked))

    pub is_record : IsRecord r
    is_record = (
      deposit_is_slot members [] (From request.address request.bytes) come request.address slot
          request.path request.asked,
      checked_is request.facts bag request.checked,
    )

    pub comes : turn_of device [] (Some step.folders) old (From request.address request.bytes) done
        new
    comes =
        rw request.asked (
          Ok request.facts,
          refl,
          (
            Ok answer,
            called members is_membership 1 [] tt its_tables its_tables new_volatile 0 0
                (calls.Deposits slot (check_of request.facts)) registering
                (Some (site_lines.Registered bag)) effect_is refl is_record tt (omega arith)
                nothing it_stands,
            refl,
          ),
        )

    -- ---- the histories

    pub one : Has 1 (members_of members)
    one = sites_to_has (count_of members) 1 (omega arith) is_membership.1.0.0

    abbrev pub before : List (Happening Disk)
    before = starts_new members is_membership 1 its_tables ∷ []

    abbrev pub dies : List Record → Happening Disk
    dies records = Dies 1 step records

    pub may_die : (records : List Record) → AreRecords records → (k : ℕ) → 1 ≤ k → k ≤ 2
        → journal (owner members is_membership 1) records
        ≡ bytes_at (Holds (owner members is_membership 1) (r ∷ [])) k
        → IsHistory device members (before ++ dies records ∷ [])
    unfolding MayAll new_federation
    may_die records are k from to is = (
      may_start members is_membership 1 its_tables new_federation one refl,
      (
        (
          old,
          (one, refl),
          record { may_come = come; comes = comes },
          record {
            told = refl;
            bytes = journal (owner members is_membership 1) records;
            left = (k, from, to, is);
            says = says (owner members is_membership 1) is_membership.1 records are;
          },
        ),
        tt,
      ),
    )
