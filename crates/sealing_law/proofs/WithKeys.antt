-- Histories of sites with keys are histories, and each history is one.
use Rattle.std.proofs.Common.{ℕ, List, [], ◌∷◌, Option, Some, None}
use Rattle.std.specs.Prelude.{IfSome}
use Rattle.fed_types.specs.Lists.{Has}
use Rattle.fed_types.specs.Sites.{Membership}
use Rattle.cell_device.specs.Devices.{Device}
use Rattle.tags.specs.Rings.{Ring}
use Rattle.serving_law.specs.Federations.{Federation, new_federation, Step, Happening, after}
use Rattle.serving_law.specs.Federations.{Turns, Fails, Dies, Ends, Renews, Starts}
use Rattle.serving_law.specs.Laws.{ReportsAgree, TurnsMayHappen}
use Rattle.serving_law.specs.Reports.{step_of}
use Rattle.serving_law.specs.Rules.{MayCome, May, MayAll}
use Rattle.sealing_law.specs.Histories.{MayAllWithKeys}
use Rattle.sealing_law.specs.Laws.{WithKeysAreHistories, HistoriesMayHaveKeys}
use Rattle.sealing_law.specs.Laws.{ReportsAgreeWithKeys, TurnsWithKeysMayHappen}
use Rattle.sealing_law.specs.Sealing.{IsHandedOn}
use Rattle.sealing_law.proofs.HandedOn.{handed_on_may_come, may_be_handed_on}

module _ {C : Type 0} (device : C → Device) (members : Membership) (rings : List Ring) where
  -- what is handed on may come, in a turn
  comes : (f : Federation C) (o : Option (ℕ × Step C))
      → IfSome o (λ s. IsHandedOn members rings f.handed s.1.turn.took)
      → IfSome o (λ s. MayCome members f.handed s.1.turn.took)
  comes f None is = tt
  comes f (Some s) is = handed_on_may_come members rings f.handed s.1.turn.took is

  all_may : (f : Federation C) (history : List (Happening C))
      → MayAllWithKeys device members rings f history → MayAll device members f history
  unfolding MayAll MayAllWithKeys
  all_may f [] all = tt
  all_may f (h ∷ history) ((handed, may), all) =
      (may (comes f (step_of h) handed), all_may (after f h) history all)

  -- what was taken in could come
  came : (f : Federation C) (h : Happening C) → May device members f h
      → IfSome (step_of h) (λ s. MayCome members f.handed s.1.turn.took)
  came f (Turns n step handed written) (old, serving, takes, on) = takes.may_come
  came f (Fails n step handed written records) (old, serving, takes, on, left) = takes.may_come
  came f (Dies n step records) (old, serving, takes, left) = takes.may_come
  came f (Ends n records) may = tt
  came f (Renews n) may = tt
  came f (Starts n cell site) may = tt

  module _ (ring : Ring) (site client : List ℕ) (has_ring : Has ring rings)
      (a_site : Has site ring.sites) (a_client : Has client ring.clients)
    where
      hands_on : (f : Federation C) (o : Option (ℕ × Step C))
          → IfSome o (λ s. MayCome members f.handed s.1.turn.took)
          → IfSome o (λ s. IsHandedOn members rings f.handed s.1.turn.took)
      hands_on f None is = tt
      hands_on f (Some s) is =
          may_be_handed_on rings ring site client has_ring a_site a_client members f.handed
          s.1.turn.took is

      all_with_keys : (f : Federation C) (history : List (Happening C))
          → MayAll device members f history → MayAllWithKeys device members rings f history
      unfolding MayAll MayAllWithKeys
      all_with_keys f [] all = tt
      all_with_keys f (h ∷ history) (may, all) = (
        (hands_on f (step_of h) (came f h may), λ comes. may),
        all_with_keys (after f h) history all,
      )

-- ---- the laws

module _ {C : Type 0} (device : C → Device) where
  pub with_keys_are_histories : WithKeysAreHistories device
  with_keys_are_histories members rings f history all = all_may device members rings f history all

  pub histories_may_have_keys : HistoriesMayHaveKeys device
  histories_may_have_keys members rings ring site client f history has_ring a_site a_client all =
      all_with_keys device members rings ring site client has_ring a_site a_client f history all

  pub reports_agree_with_keys : ((members : Membership) → ReportsAgree device members)
      → ReportsAgreeWithKeys device
  reports_agree_with_keys agree members rings history g h slot u v is all =
      agree members history g h slot u v is
      (with_keys_are_histories members rings new_federation history all)

  pub turns_with_keys_may_happen : ((members : Membership) → TurnsMayHappen device members)
      → TurnsWithKeysMayHappen device
  turns_with_keys_may_happen may_happen members rings history n old next addresses gives turn is all
      serving handed =
      may_happen members history n old next addresses gives turn is
      (with_keys_are_histories members rings new_federation history all) serving
      (handed_on_may_come members rings _ turn.took handed)
