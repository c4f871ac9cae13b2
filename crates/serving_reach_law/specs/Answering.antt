-- That what is within reach comes about, where calls that may answer are answered: by the rules of
-- turns any call may say that memory ran out, or that its device failed.
use Rattle.std.specs.Prelude.{◌≤◌, ◌+◌, ◌*◌, ⊤, ℕ, List, [], ◌∷◌, length}
use Rattle.fed_types.specs.Sites.{Membership}
use Rattle.fed_types.specs.Slots.{SlotName}
use Rattle.cell_device.specs.Devices.{Device}
use Rattle.serving_law.specs.Federations.{Federation, Happening, new_federation, after, after_all}
use Rattle.serving_law.specs.Rules.{May, IsHistory}
use Rattle.serving_reach_law.specs.Acts.{Act, MayDo, Does}
use Rattle.serving_reach_law.specs.Reach.{Agree}

module _ {C : Type 0} (device : C → Device) (members : Membership) (addresses : List ℕ)
    (running : List ℕ) (slot : SlotName) where
  -- after every history, whatever may be done can be done so that nothing fails
  abbrev pub AreAnswered : Type 0
  AreAnswered =
      (history : List (Happening C)) (before : ℕ) (act : Act)
      → IsHistory device members history
      → MayDo members addresses running slot before (after_all new_federation history) act
      → (h : Happening C) × May device members (after_all new_federation history) h
      × Does addresses act h

  -- these acts may be done, and these happenings do them, one after another
  unfoldable pub AreDone : (before : ℕ) → Federation C → List Act → List (Happening C) → Type 0
  AreDone before f [] [] = ⊤
  AreDone before f (act ∷ acts) (h ∷ later) =
      MayDo members addresses running slot before f act × May device members f h × Does addresses
      act h
      × AreDone before (after f h) acts later
  AreDone before f acts later = ⊥

  -- after the history such happenings lead to where all that run agree
  pub record ComesAbout (history : List (Happening C)) : Type 0 where
    pub acts : List Act
    pub later : List (Happening C)
    pub few : length acts ≤ 10 * length running + 2
    pub done : AreDone (length (after_all new_federation history).handed)
        (after_all new_federation history) acts later
    pub agree : Agree members.federation history running slot
        (after_all (after_all new_federation history) later)
