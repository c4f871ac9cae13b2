-- What a call does that appends to a text.
use Rattle.std.specs.Prelude.{◌≡◌, ℕ, List, ◌++◌, Result, OnOk, String}
use Rattle.std.specs.Global.{Global}
use Rattle.std.specs.String.{string_bytes}

-- if the call succeeds, it appended these bytes
abbrev pub Pushes : {X E : Type 0} → Result X E → String Global → String Global → List ℕ → Type 0
Pushes result old new bytes = OnOk result (string_bytes new ≡ string_bytes old ++ bytes)
