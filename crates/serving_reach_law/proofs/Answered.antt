-- What is within reach comes about, where calls that may answer are answered.
use Rattle.std.proofs.Common.{ℕ, zero, suc, ◌+◌, ◌*◌, ◌≡◌, ◌≤◌, inl, inr, refl, ap, ◌∙◌, List, []}
use Rattle.std.proofs.Common.{◌∷◌, ◌++◌, length, arith}
use Rattle.fed_types.specs.Sites.{Membership}
use Rattle.fed_types.specs.Slots.{SlotName}
use Rattle.cell_device.specs.Devices.{Device}
use Rattle.serving_law.specs.Federations.{Federation, Happening, new_federation, after, after_all}
use Rattle.serving_law.specs.Rules.{May, IsHistory}
use Rattle.serving_reach_law.specs.Acts.{Act, MayDo, Does}
use Rattle.serving_reach_law.specs.Answering.{AreAnswered, AreDone}
use Rattle.serving_reach_law.specs.Laws.{WhatIsWithinReachComesAbout}
use Rattle.serving_reach_law.specs.Reach.{Agree, AgreeIn}
use Rattle.serving_reach_law.proofs.Reached.{one_more}

module _ {C : Type 0} (device : C → Device) (members : Membership) (addresses : List ℕ)
    (running : List ℕ) (slot : SlotName)
    (answered : AreAnswered device members addresses running slot) (history : List (Happening C))
    (before : ℕ) where
  -- a history leads to it
  record IsReached (f : Federation C) : Type 0 where
    all : List (Happening C)
    may : IsHistory device members all
    is : after_all new_federation all ≡ f

  reached_then : (f : Federation C) (h : Happening C) → IsReached f → May device members f h
      → IsReached (after f h)
  reached_then f h r may =
      let more =
      one_more device members r.all new_federation h r.may
      (rw r.is may) in
      record {
        all = r.all ++ h ∷ [];
        may = more.0;
        is = more.1 ∙ ap (λ (f : Federation C). after f h) r.is;
      }

  -- something does it
  abbrev CanBeDone : Act → Federation C → Type 0
  CanBeDone act f = (h : Happening C) × May device members f h × Does addresses act h

  can_be_done : (f : Federation C) (act : Act) → IsReached f
      → MayDo members addresses running slot before f act → CanBeDone act f
  can_be_done f act r = rw (← r.is) (λ may. answered r.all before act r.may may)

  record Comes (most : ℕ) (f : Federation C) : Type 0 where
    acts : List Act
    later : List (Happening C)
    few : length acts ≤ most
    done : AreDone device members addresses running slot before f acts later
    agree : Agree members.federation history running slot (after_all f later)

  none : (most : ℕ) (f : Federation C) → Agree members.federation history running slot f
      → Comes most f
  unfolding after_all AreDone
  none most f agree = record { acts = []; later = []; few = omega arith; done = tt; agree = agree }

  first : (most : ℕ) (f : Federation C) (act : Act) (h : Happening C)
      → MayDo members addresses running slot before f act → May device members f h
      → Does addresses act h → Comes most (after f h) → Comes (suc most) f
  unfolding after_all AreDone
  first most f act h may happens does rest = record {
    acts = act ∷ rest.acts;
    later = h ∷ rest.later;
    few = let few = rest.few in omega (arith, few);
    done = (may, happens, does, rest.done);
    agree = rest.agree;
  }

  comes : (most : ℕ) (f : Federation C) → IsReached f
      → AgreeIn device members addresses history running slot before most f → Comes most f
  unfolding AgreeIn
  comes zero f r agree = none zero f agree
  comes (suc most) f r (inl agree) = none (suc most) f agree
  comes (suc most) f r (inr (act, may, each)) =
      let can = can_be_done f act r may in
      first most f act can.0 may can.1 can.2
      (comes most (after f can.0) (reached_then f can.0 r can.1) (each can.0 can.1 can.2))

module _ {C : Type 0} (device : C → Device) (members : Membership) where
  pub comes_about : WhatIsWithinReachComesAbout device members
  comes_about addresses running history slot answered may within =
      let c =
      comes device members addresses running slot answered history
      (length (after_all new_federation history).handed)
      (10 * length running + 2) (after_all new_federation history)
      (record { all = history; may = may; is = refl }) within in
      record {
        acts = c.acts;
        later = c.later;
        few = c.few;
        done = c.done;
        agree = c.agree;
      }
