-- What is noted of folders that are read.
use Rattle.std.specs.Prelude.{◌≡◌, ℕ, List}
use Rattle.registered_checks.specs.Held.{Given, Held, held_of}

-- these are the bags that the folders of these paths hold
abbrev pub AreHeld : Given → (paths : List (List ℕ)) → List Held → Type 0
AreHeld gives paths held = held ≡ held_of gives paths
