-- The rows of the tables of codes.
use Rattle.std.specs.Prelude.{ℕ, ◌-◌, ◌==◌, if◌then◌else◌, List, Option, None, slice_get}
use Rattle.code_words.specs.declared.meaning.Meaning.{Meaning}

-- what is in the row of a number that counts from 1, if there is such a row
abbrev pub row : {X : Type 0} → List X → ℕ → Option X
row table number = if number == 0 then None else slice_get table (number - 1)

-- the code of a row
abbrev pub code_of : Meaning → List ℕ
code_of m = m.code.now
