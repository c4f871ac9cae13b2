-- What the definitions take in: replies, deposits, and what is dropped.
use Rattle.std.proofs.Common.{ℕ, ◌≡◌, inl, inr, refl, sym, ap, List, [], None, Some, take, arith}
use Rattle.std.proofs.Common.{false}
use Rattle.fed_types.specs.declared.bag_id.BagId.{BagId}
use Rattle.fed_types.specs.Lists.{Has, here, is_in}
use Rattle.fed_types.specs.Sites.{IsSiteNumber, members_of, sites_to}
use Rattle.fed_types.specs.Slots.{SlotName, same_slot}
use Rattle.fed_types.specs.Laws.Sites.{sites_to_has}
use Rattle.fed_types.specs.Laws.Lists.{is_in_decides}
use Rattle.fields.specs.Encoding.{slot_bytes}
use Rattle.records.specs.SlotStates.{known_of, used_of}
use Rattle.dgram.specs.declared.answers.DepositAnswer.TheVariants as deposit
use Rattle.dgram.specs.declared.answers.QueryAnswer.TheVariants as query
use Rattle.dgram.specs.declared.body.Body.{Body}
use Rattle.dgram.specs.declared.body.Body.TheVariants.{DepositReply, QueryReply, Known}
use Rattle.dgram.specs.declared.message.Message.{Message}
use Rattle.dgram.specs.Encoding.{datagram_of}
use Rattle.dgram.specs.Heard.{bodies_of, floor_of, voters_for}
use Rattle.dgram.specs.Messages.{IsMessage}
use Rattle.dgram.proofs.MessageOf.{message_of-again}
use Rattle.learner.specs.declared.row.Row.TheVariants as rows
use Rattle.lines.specs.declared.notice.Notice.TheVariants.{Learned}
use Rattle.site.specs.declared.answer.Answer.{Answer}
use Rattle.site.specs.declared.answer.Line.TheVariants as site_lines
use Rattle.site.specs.Arrivals.{on_arrival}
use Rattle.site.specs.Calls as calls
use Rattle.site.specs.Effects.{Effect, only_says}
use Rattle.site.specs.Sites.{effect}
use Rattle.site.specs.Contents.{Contents, Represents}
use Rattle.world_law.proofs.Deeds.{some_same}
use Rattle.proposer.specs.UnderWay.{nothing}
use Rattle.udp_site.specs.Requests as requests
use Rattle.udp_site.specs.Requests.{request_of}
use Rattle.udp_site.specs.Traffic.{From}
use Rattle.udp_site.specs.Turns.{Serving, turn_of}
use Rattle.serving_law.specs.Disks.{Disk, device}
use Rattle.serving_law.specs.Examples.{Request}
use Rattle.serving_law.specs.ExamplesAgreed.{three, a}
use Rattle.serving_law.specs.ExamplesShown.{Replies, RepliesAreReports, drops, DropsBoth}
use Rattle.serving_law.specs.ExamplesShown.{DepositsAreValid, NoiseIsDropped}
use Rattle.serving_law.specs.Federations.{Step, new_federation}
use Rattle.serving_law.specs.Reports.{Showing, IsPrinted, IsTold}
use Rattle.serving_law.specs.Rules.{AreBytes, IsOfMember, MayAll}
use Rattle.serving_law.proofs.AgreedMessages.{is_slot, is_bag}
use Rattle.serving_law.proofs.Agreement.{three_are}
use Rattle.serving_law.proofs.Answers.{answer_of}
use Rattle.serving_law.proofs.DatagramBytes.{Bytes, of_message, of_bag, of_number}
use Rattle.serving_law.proofs.DiskCalls.{serving, called, hears, heard_step, no_folders}
use Rattle.serving_law.proofs.NewSites.{starts_new, may_start}
use Rattle.serving_law.proofs.Sites.{volatile_of, no_ballot, stands_idle}
use Rattle.serving_law.proofs.Tables.{tables}

-- ---- replies

-- what is handed out is told
told : (federation : ℕ) (step : Step Disk) (slot : SlotName) (body : Body)
    → IsMessage (record { slot = slot; body = body }) → Replies federation step slot body
    → IsTold federation (record { turn = step.turn; handed = 1; written = 0 })
    (record { slot = slot; body = body })
told federation step slot body is (port, rest, posts_are) = record {
  address = port;
  bytes = datagram_of federation (record { slot = slot; body = body });
  handed = rw posts_are (here refl);
  reads = message_of-again federation (record { slot = slot; body = body }) is;
}

abbrev shown : Step Disk → Showing
shown step = record { turn = step.turn; handed = 1; written = 0 }

pub replies_are_reports : RepliesAreReports
replies_are_reports federation step slot bag is_slot is_bag = record {
  queried = λ replies.
      let it = told federation step slot (QueryReply 1 (query.Known bag)) (is_slot, (one, is_bag))
      replies in (
        inr (QueryReply 1 (query.Known bag), (shown step, refl, it), refl),
        inr (inr (inl (shown step, refl, it))),
      );
  refused = λ replies.
      let it = told federation step slot (DepositReply 1 (deposit.OtherKnown bag))
      (is_slot, (one, is_bag)) replies in (
        inr (DepositReply 1 (deposit.OtherKnown bag), (shown step, refl, it), refl),
        inr (inr (inr (shown step, refl, it))),
      );
  registered = λ replies.
      inr (
        shown step,
        refl,
        told federation step slot (DepositReply 1 (deposit.Registered bag))
            (is_slot, (one, is_bag)) replies,
      );
  printed = λ notices.
      let begun : IsPrinted one_byte (Learned 1 slot bag) = record {
        before = [];
        later = [];
        split = notices;
        begun = omega arith;
      } in (inl (Learned 1 slot bag, (one_byte, refl, begun), refl), inl (one_byte, refl, begun));
}
  where
    one_byte : Showing
    one_byte = record { turn = step.turn; handed = 0; written = 1 }

    one : IsSiteNumber 1
    one = (omega arith, omega arith)

-- ---- deposits

pub deposits_are_valid : DepositsAreValid
deposits_are_valid federation f n step handed written port path facts slot bag asked read d =
    let same : ◌≡◌ {A = ℕ × Step Disk} (d.member, d.step) (n, step) = some_same (sym d.takes) in
    let member_is : d.member ≡ n = ap (λ (it : ℕ × Step Disk). it.0) same in
    let step_is : d.step ≡ step = ap (λ (it : ℕ × Step Disk). it.1) same in
    let its_asked = rw step_is at d.asked in
    let path_is : d.path ≡ path = cc in
    let its_read = rw (step_is, path_is) at d.read in
    let facts_are : d.facts ≡ facts = cc in
    (rw facts_are at d.valid, rw facts_are at d.identity, rw member_is at d.on_record)

-- ---- what is dropped

module _ (bytes : List ℕ) (bag : BagId) (fits : AreBytes bytes)
    (noise : request_of three.federation (From 0 bytes) ≡ requests.Noise)
    (request : Request three.federation a bag) where
  abbrev its_tables : Contents
  its_tables = tables a three 1 (record { own = no_ballot; heard = rows.Unheard })

  its_stand : Represents its_tables [] (volatile_of [] None) nothing
  unfolding known_of used_of voters_for bodies_of floor_of is_in same_slot
  its_stand = stands_idle 1 [] [] rows.Unheard refl (λ none u k. refl) refl refl

  abbrev site : Serving Disk
  site = serving three three_are 1 [] its_tables (volatile_of [] None) 0 0

  one : Has 1 (members_of three)
  one = sites_to_has 3 1 (omega arith) (omega arith)

  -- ---- no message

  abbrev noise_step : Step Disk
  noise_step = record { addresses = []; folders = no_folders; turn = drops bytes; next = site }

  noise_comes : turn_of device [] (Some no_folders) site (From 0 bytes) (drops bytes).done site
  noise_comes =
      rw noise (refl, refl)

  -- ---- a message of no member

  abbrev m : Message
  m = record { slot = a; body = Known 4 bag }

  is_message : IsMessage m
  is_message = (is_slot bag request, ((omega arith, omega arith), is_bag bag request))

  m_fits : AreBytes (datagram_of 7 m)
  m_fits =
      of_message 7 m (omega arith) (omega arith) slot_fits
      (of_bag request.facts bag request.checked)
    where
      slot_fits : Bytes (slot_bytes a)
      slot_fits = (omega arith, (omega arith, of_number 4 1))

  no_member : is_in (members_of three) 4 ≡ false
  unfolding is_in sites_to
  no_member = refl

  stranger : (message : Message) → request_of 7 (From 0 (datagram_of 7 m)) ≡ requests.Says message
      → IsOfMember three message → ⊥
  stranger message e (k, named, has) =
      let says = rw (message_of-again 7 m is_message) at e in
      let same : m ≡ message = cc says in
      let its = rw (← same) at named in
      let four : 4 ≡ k = cc its in
      let among = (is_in_decides (members_of three) k).1 has in
      cc (no_member, four, among)

  abbrev dropping : Effect
  dropping = only_says site_lines.Dropped (volatile_of [] None)

  effect_is : effect site.site (volatile_of [] None) (calls.Arrives (Some m)) ≡ dropping
  unfolding on_arrival is_in sites_to
  effect_is = refl

  abbrev answer : Answer
  answer = answer_of (Some site_lines.Dropped) [] (omega arith)

  abbrev stranger_step : Step Disk
  stranger_step = heard_step three three_are 1 [] m answer site

  stranger_comes : turn_of device [] (Some no_folders) site (From 0 (datagram_of 7 m))
      stranger_step.turn.done site
  stranger_comes =
      hears three three_are 1 [] [] its_tables (volatile_of [] None) 0 0 site m is_message refl
      answer (called three three_are 1 [] tt its_tables its_tables (volatile_of [] None) 0 0
      (calls.Arrives (Some m)) dropping (Some site_lines.Dropped) effect_is refl tt tt (omega arith)
      nothing its_stand)

  -- ---- the history

  pub drops_both : DropsBoth bytes bag
  unfolding MayAll new_federation
  drops_both = record {
    start = starts_new three three_are 1 its_tables;
    noise = noise_step;
    stranger = stranger_step;
    happens = (
      may_start three three_are 1 its_tables new_federation one refl,
      (
        (
          site,
          (one, refl),
          record { may_come = (fits, λ message e its. absurd (cc noise)); comes = noise_comes },
          refl,
        ),
        (
          (
            site,
            (one, refl),
            record {
              may_come = (m_fits, λ message e its. absurd (stranger message e its));
              comes = stranger_comes;
            },
            refl,
          ),
          tt,
        ),
      ),
    );
    noise_is = refl;
    stranger_is = refl;
    unchanged = refl;
  }

pub noise_is_dropped : NoiseIsDropped
noise_is_dropped bytes bag fits noise request = drops_both bytes bag fits noise request
