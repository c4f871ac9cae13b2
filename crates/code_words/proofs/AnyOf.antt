-- Whether one of a list passes a test, where each stands for another.
use Rattle.std.proofs.Common.{◌≡◌, refl, Bool, List, [], ◌∷◌, map}
use Rattle.std.specs.List.{list_any}

pub any_of_map : {A B : Type 0} (test : B → Bool) (shows : A → B) (all : List A)
    → list_any (λ it. test (shows it)) all ≡ list_any test (map shows all)
any_of_map test shows [] = refl
any_of_map test shows (it ∷ all) = rw (any_of_map test shows all)
