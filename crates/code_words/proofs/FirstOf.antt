-- The first of a list that passes a test, where each stands for another.
use Rattle.std.proofs.Common.{◌≡◌, refl, Bool, true, false, List, [], ◌∷◌, map, option_map}
use Rattle.std.specs.Prelude.{Option, Some, if◌then◌else◌}
use Rattle.std.specs.List.{find}

-- what is chosen stands for what is chosen
choice : {A B : Type 0} (is : Bool) (shows : A → B) (it : A) (other : Option A) (shown : Option B)
    → option_map shows other ≡ shown
    → option_map shows (if is then Some it else other) ≡ (if is then Some (shows it) else shown)
choice true shows it other shown e = refl
choice false shows it other shown e = e

pub first_of_map : {A B : Type 0} (test : B → Bool) (shows : A → B) (all : List A)
    → option_map shows (find (λ it. test (shows it)) all) ≡ find test (map shows all)
first_of_map test shows [] = refl
first_of_map test shows (it ∷ all) =
    choice (test (shows it)) shows it _ _ (first_of_map test shows all)
