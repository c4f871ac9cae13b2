-- What may happen to a federation of sites that serve with keys.
use Rattle.std.specs.Prelude.{⊤, List, [], ◌∷◌, IfSome}
use Rattle.fed_types.specs.Sites.{Membership}
use Rattle.cell_device.specs.Devices.{Device}
use Rattle.tags.specs.Rings.{Ring}
use Rattle.serving_law.specs.Federations.{Federation, new_federation, Happening, after}
use Rattle.serving_law.specs.Reports.{step_of}
use Rattle.serving_law.specs.Rules.{MayCome, May}
use Rattle.sealing_law.specs.Sealing.{IsHandedOn}

module _ {C : Type 0} (device : C → Device) (members : Membership) (rings : List Ring) where
  -- What it takes in is handed on by a port with keys. And by all other rules it may happen: it
  -- may, if what it takes in may come.
  abbrev pub MayWithKeys : Federation C → Happening C → Type 0
  MayWithKeys f h =
      IfSome (step_of h) (λ s. IsHandedOn members rings f.handed s.1.turn.took)
      × (IfSome (step_of h) (λ s. MayCome members f.handed s.1.turn.took) → May device members f h)

  -- all of these happen, one after another
  unfoldable pub MayAllWithKeys : Federation C → List (Happening C) → Type 0
  MayAllWithKeys f [] = ⊤
  MayAllWithKeys f (h ∷ history) = MayWithKeys f h × MayAllWithKeys (after f h) history

  -- they happen to a federation of new cells
  abbrev pub IsHistoryWithKeys : List (Happening C) → Type 0
  IsHistoryWithKeys history = MayAllWithKeys new_federation history
