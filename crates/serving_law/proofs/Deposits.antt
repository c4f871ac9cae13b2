-- A turn in which a site that serves is asked to deposit a folder.
use Rattle.std.proofs.Common.{ℕ, ◌≡◌, inr, refl, sym, ap, List, Option, None, Some}
use Rattle.std.specs.Prelude.{Result, Ok, Err, IfOk}
use Rattle.fed_types.specs.declared.bag_id.BagId.{BagId}
use Rattle.fed_types.specs.Lists.{Has}
use Rattle.fed_types.specs.Quorums.{QuorumSystem}
use Rattle.fed_types.specs.Sites.{Membership, IsSiteNumber}
use Rattle.fed_types.specs.Slots.{SlotName}
use Rattle.fed_types.specs.Values.{IsSlot, IsBag}
use Rattle.fed_types.specs.Laws.Lists.{has_none, has_one}
use Rattle.cell_device.specs.Devices.{Device}
use Rattle.bag_tree.specs.declared.fault.TreeFault.{TreeFault}
use Rattle.bag_tree.specs.declared.fault.TreeFault.TheVariants as trees
use Rattle.bag_tree.specs.Facts.{TreeFacts}
use Rattle.bag_check.specs.declared.fault.BagFault.TheVariants as bags
use Rattle.bag_check.specs.Check.{check_of}
use Rattle.dgram.specs.declared.answers.DepositAnswer.{DepositAnswer}
use Rattle.dgram.specs.declared.answers.DepositAnswer.TheVariants as deposit
use Rattle.dgram.specs.declared.body.Body.TheVariants.{DepositReply}
use Rattle.dgram.specs.Messages.{IsDepositAnswer}
use Rattle.site.specs.declared.answer.Answer.{Answer}
use Rattle.site.specs.declared.answer.Line.{Line}
use Rattle.site.specs.declared.answer.Line.TheVariants as site_lines
use Rattle.site.specs.declared.fault.SiteFault.{SiteFault}
use Rattle.site.specs.declared.fault.SiteFault.TheVariants as faults
use Rattle.site.specs.Answered.{Gives}
use Rattle.site.specs.Calls.{Input, Deposits, effect_of}
use Rattle.site.specs.Effects.{Effect}
use Rattle.world_law.specs.Networks.{Network, volatile_in}
use Rattle.world_law.specs.WellFormed.{IsWellFormed}
use Rattle.world_law.proofs.Calls.{deposit_deed}
use Rattle.world_law.proofs.Deeds.{Deed, MayDeposit, some_same}
use Rattle.world_law.proofs.WellFormedCalls.{effect_is}
use Rattle.world_law.proofs.WellFormedEffects.{IsWellFormedEffect}
use Rattle.udp_site.specs.Replies.{deposit_answer, tree_answer, fault_answer, line_answer}
use Rattle.udp_site.specs.Turns.{Serving, Done, IsCalled, notices_of, deposit_replies, takes_tree}
use Rattle.serving_law.specs.Reports.{known_told}
use Rattle.serving_law.proofs.Registrations.{other_known_is, other_deposit_is}
use Rattle.serving_law.proofs.Replies.{tree_answer_is, bag_answer_is, checked_is}
use Rattle.serving_law.proofs.Scene.{Scene}
use Rattle.serving_law.proofs.Networks.{quorums, IsPost, HasDeposit, HasKnown, May}
use Rattle.serving_law.proofs.Calls as calling
use Rattle.serving_law.proofs.Turns as turning

if_ok : {X E : Type 0} (P : X → Type 0) (r : Result X E) → ((x : X) → r ≡ Ok x → P x) → IfOk r P
if_ok P (Ok x) each = each x refl
if_ok P (Err e) each = tt

told : (n : ℕ) (answer : DepositAnswer) (bag : BagId)
    → known_told (DepositReply n answer) ≡ Some bag → answer ≡ deposit.OtherKnown bag
told n (deposit.OtherKnown b) bag e = ap deposit.OtherKnown (some_same e)
told n _ bag e = absurd (cc e)

module _ {C : Type 0} {device : C → Device} {members : Membership} (s : Scene device members) where
  open s use {w, inv, formed, n, member, cell, tables, recovers, is_membership, only_now}

  abbrev q : QuorumSystem
  q = quorums device members

  -- a bag that is called known was chosen; and one that is called registered is on record
  record IsRight (x : Network) (slot : SlotName) (answer : DepositAnswer) : Type 0 where
    is : IsDepositAnswer answer
    known : (bag : BagId) → answer ≡ deposit.OtherKnown bag → HasKnown w n slot bag
    registered : (bag : BagId) → answer ≡ deposit.Registered bag → HasDeposit x n slot bag

  -- an answer that names neither
  abbrev NamesNeither : DepositAnswer → Type 0
  NamesNeither (deposit.OtherKnown bag) = ⊥
  NamesNeither (deposit.Registered bag) = ⊥
  NamesNeither _ = Unit {0}

  neither_right : (x : Network) (slot : SlotName) (answer : DepositAnswer)
      → IsDepositAnswer answer → NamesNeither answer → IsRight x slot answer
  neither_right x slot answer is neither = record {
    is = is;
    known = λ bag e. absurd (rw e at neither);
    registered = λ bag e. absurd (rw e at neither);
  }

  module _ (slot : SlotName) (is_slot : IsSlot slot) where
    site_number : IsSiteNumber n
    site_number = turning.is_site s

    reply_posts : (x : Network) (port : ℕ) (o : Option DepositAnswer)
        → ((answer : DepositAnswer) → o ≡ Some answer → IsRight x slot answer)
        → (to : ℕ) (bytes : List ℕ)
        → Has (to, bytes) (deposit_replies members.federation n port slot o)
        → IsPost device members w x bytes
    reply_posts x port None each to bytes h = absurd (has_none h)
    reply_posts x port (Some answer) each to bytes h = inr (
      record { slot = slot; body = DepositReply n answer },
      record {
        is = (is_slot, (site_number, (each answer refl).is));
        bytes_are = ap (λ (p : ℕ × List ℕ). p.1) (sym (has_one h));
        replies = tt;
      },
      record {
        known = λ bag e.
            turning.known_chosen s slot bag ((each answer refl).known bag (told n answer bag e));
        registered = λ k bag e.
            let place : n ≡ k = cc in
            rw (← place) ((each answer refl).registered bag (cc e));
        refused = λ k bag e.
            let place : n ≡ k = cc in
            rw (← place) ((each answer refl).known bag (cc e));
        queried = λ k bag e. absurd (cc e);
      },
    )

    tree_right : (fault : TreeFault) (x : Network) (answer : DepositAnswer)
        → tree_answer fault ≡ Some answer → IsRight x slot answer
    tree_right trees.Memory x answer e =
        rw (← some_same e) (neither_right x slot deposit.Memory tt tt)
    tree_right trees.BadPath x answer e = absurd (cc e)
    tree_right fault x answer e =
        rw (← some_same e) (neither_right x slot (deposit.Tree _) (tree_answer_is fault) tt)

    -- ---- the tree was read

    module _ (idle tried : ℕ) (facts : TreeFacts) (D : May)
        (may : (bag : BagId) → check_of facts ≡ Ok bag → D slot bag) where
      abbrev old : Serving C
      old = turning.old s idle tried

      abbrev input : Input
      input = Deposits slot (check_of facts)

      abbrev e : Effect
      e = effect_of q n (w.sites n).records (volatile_in (w.sites n).mode) input

      deed : Deed q w n input e
      deed = deposit_deed q (turning.laws s) w inv n slot (check_of facts)

      effect_formed : IsWellFormedEffect e
      effect_formed = effect_is q (turning.sites s) n site_number (w.sites n).records
          (formed.records n) (volatile_in (w.sites n).mode) (formed.heard n) input
          (is_slot, if_ok IsBag (check_of facts) (λ bag f. checked_is facts bag f))

      allowed : (s : SlotName) (bag : BagId) → MayDeposit input s bag → D s bag
      allowed s bag m = rw (← m.0) (may bag m.1)

      abbrev called : Network
      called = calling.called s idle tried input

      line_right : IsWellFormed called → (line : Option Line) → e.says ≡ Ok line
          → (answer : DepositAnswer) → line_answer line ≡ Some answer → IsRight called slot answer
      line_right is None says answer f = absurd (cc f)
      line_right is (Some (site_lines.Known s bag)) says answer f = absurd (cc f)
      line_right is (Some site_lines.Dropped) says answer f = absurd (cc f)
      line_right is (Some (site_lines.Registered bag)) says answer f =
          let on_record = calling.deposit_kept s idle tried input deed effect_formed slot
          (check_of facts) bag refl says in
          rw (← some_same f) (record {
            is = turning.deposit_is_bag s called is slot bag on_record;
            known = λ b g. absurd (cc g);
            registered = λ b g. let same : bag ≡ b = cc in rw (← same) on_record;
          })

      other_known : (x : Network) (bag : BagId) → e.says ≡ Err (faults.OtherKnown bag)
          → IsRight x slot (deposit.OtherKnown bag)
      other_known x bag says =
          let on_record = other_known_is slot (w.sites n).records (volatile_in (w.sites n).mode)
          (check_of facts) bag says in
          record {
            is = turning.bag_is s slot bag on_record;
            known = λ b g. let same : bag ≡ b = cc in rw (← same) on_record;
            registered = λ b g. absurd (cc g);
          }

      other_deposit : (x : Network) (bag : BagId) → e.says ≡ Err (faults.OtherDeposit bag)
          → IsRight x slot (deposit.OtherDeposit bag)
      other_deposit x bag says =
          neither_right x slot (deposit.OtherDeposit bag)
          (turning.deposit_is_bag s w formed slot bag
          (other_deposit_is slot (w.sites n).records (volatile_in (w.sites n).mode)
          (check_of facts) bag says)) tt

      -- the answer that a refusal gives
      fault_right : (fault : SiteFault) (new : Serving C)
          → Gives old.site new.site old.volatile e (Err fault) → (x : Network)
          → (answer : DepositAnswer) → fault_answer fault ≡ Some answer → IsRight x slot answer
      fault_right (faults.InvalidBag bags.Memory) new gives x answer f = absurd (cc f)
      fault_right (faults.InvalidBag fault) new gives x answer f =
          rw (← some_same f) (neither_right x slot (deposit.Bag _) (bag_answer_is fault) tt)
      fault_right (faults.OtherDeposit bag) new gives x answer f =
          rw (← some_same f) (other_deposit x bag gives.0)
      fault_right (faults.OtherKnown bag) new gives x answer f =
          rw (← some_same f) (other_known x bag gives.0)
      fault_right faults.Device new gives x answer f =
          rw (← some_same f) (neither_right x slot deposit.Device tt tt)
      fault_right faults.Memory new gives x answer f =
          rw (← some_same f) (neither_right x slot deposit.Memory tt tt)
      fault_right faults.NeedsOpen new gives x answer f = absurd gives
      fault_right _ new gives x answer f = absurd (cc f)

      call_ends : (result : Result Answer SiteFault) (new : Serving C)
          → IsCalled device old input result new → (port : ℕ)
          → turning.Ends s (record {
            posts = deposit_replies members.federation n port slot (deposit_answer result);
            notices = notices_of n input result;
          }) new D
      call_ends (Ok answer) new c port =
          turning.ok_ends s idle tried input deed effect_formed D allowed answer new c _
          (reply_posts called port (line_answer answer.line)
          (line_right moved answer.line (c.answered refl).gives.0)) (λ notice h. h)
        where
          moved : IsWellFormed called
          moved = (calling.ok_moves s idle tried input deed effect_formed answer new c).formed
      call_ends (Err fault) new c port =
          turning.err_ends s idle tried input deed effect_formed D allowed fault new c _
          (λ x to bytes h. reply_posts x port (fault_answer fault)
          (fault_right fault new (c.answered refl).gives x) to bytes h) (λ notice h. h)
          (λ f. rw f refl)

    -- ---- a folder that was read, or not

    pub tree_ends : (idle tried port : ℕ) (read : Result TreeFacts TreeFault) (D : May)
        → ((facts : TreeFacts) (bag : BagId) → read ≡ Ok facts → check_of facts ≡ Ok bag
        → D slot bag) → (done : Done) (new : Serving C)
        → takes_tree device (turning.old s idle tried) port slot read done new
        → turning.Ends s done new D
    tree_ends idle tried port (Err fault) D may done new t =
        rw t.0 (turning.quiet_ends s idle tried new t.1 _ D
        (λ to bytes h. reply_posts w port (tree_answer fault) (tree_right fault w) to bytes h)
        (λ notice h. absurd (has_none h)))
    tree_ends idle tried port (Ok facts) D may done new t =
        rw t.2 (call_ends idle tried facts D (λ bag e. may facts bag refl e) t.0 new t.1 port)
