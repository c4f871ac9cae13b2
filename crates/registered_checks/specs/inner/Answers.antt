-- The answer of a comparison.
use Rattle.std.specs.Prelude.{◌≡◌, ℕ, List, [], Option, Some, None, string_bytes}
use Rattle.std.specs.Io.KnownBytes.{Appends}
use Rattle.known_bags.specs.declared.known_bag.KnownBag.{KnownBag}
use Rattle.outcomes.specs.declared.program_output.ProgramOutput.{ProgramOutput}
use Rattle.outcomes.specs.Outcomes.{no_memory}
use Rattle.registered_checks.specs.Held.{Held}
use Rattle.registered_checks.specs.Comparisons.{comparison_text}
use Rattle.registered_checks.specs.Checks.{status_of}

-- it is that of these bags, after a check that alone has this status
abbrev pub IsComparison : List Held → List KnownBag → (alone : ℕ) → ProgramOutput → Type 0
IsComparison held known alone answer =
    (answer.status ≡ status_of held known alone)
    × (string_bytes answer.text ≡ comparison_text held known)

-- it is this one, and nothing is written; or there is none, and the line that memory ran out is
-- written
abbrev pub IsOrMemory :
    Option ProgramOutput → Option (List ℕ) → Option (List ℕ) → ProgramOutput → Type 0
IsOrMemory (Some known) old new answer = (answer ≡ known) × (new ≡ old)
IsOrMemory None old new answer =
    (answer.status ≡ no_memory.status) × (string_bytes answer.text ≡ [])
    × Appends old new no_memory.text
