-- The line of a source that knows nothing.
use Rattle.std.specs.Prelude.{Result, Ok, Err, String, string_bytes}
use Rattle.std.specs.Global.{Global}
use Rattle.outcomes.specs.Outcomes.{Outcome, no_memory}

-- what is written, with the status 1: this line, or that there was no memory for it
abbrev pub IsWritten : {E : Type 0} → Result (String Global) E → (Outcome → Type 0) → Type 0
IsWritten (Ok line) P = P (record { status = 1; text = string_bytes line })
IsWritten (Err e) P = P no_memory
