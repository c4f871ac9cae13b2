-- What makes the premises of the laws true: there is a valid bag, and a request to deposit it; and
-- a history, computed, in which the register of a slot is open at first, and then decided for the
-- bag, which is reported.
use Rattle.std.specs.Prelude.{[], ◌∷◌, ◌++◌, List}
use Rattle.fed_types.specs.declared.bag_id.BagId.{BagId}
use Rattle.serving_law.specs.Disks.{Disk, device}
use Rattle.serving_law.specs.Examples.{Request}
use Rattle.serving_law.specs.ExamplesAgreed.{three, a}
use Rattle.serving_law.specs.Federations.{Happening}
use Rattle.serving_law.specs.Reports.{Reports}
use Rattle.register_law.specs.Carried.{IsHistoryAfter, now}
use Rattle.register_law.specs.Registers.{Open, Decided, Keeps}

-- a client asks for the deposit of a folder that is a valid bag
abbrev pub ABagIsDeposited : Type 0
ABagIsDeposited = (bag : BagId) × Request three.federation a bag

-- at first it is open; before this happening it is decided for the bag, which is reported then
pub record IsDecidedOnce (bag : BagId) : Type 0 where
  pub before : List (Happening Disk)
  pub h : Happening Disk
  pub later : List (Happening Disk)
  pub happens : IsHistoryAfter device three [] (before ++ h ∷ later)
  pub at_first : Keeps {C = Disk} three (now three [] []) a Open
  pub decided : Keeps three (now three [] before) a (Decided bag)
  pub reports : Reports three.federation h a bag

abbrev pub ARegisterIsDecided : Type 0
ARegisterIsDecided = (bag : BagId) → Request three.federation a bag → IsDecidedOnce bag
