-- Spaces and tabs, which separate the parts of a line.
use Rattle.std.specs.Prelude.{ℕ, ◌<◌, Bool, false, not, ◌==◌, ◌||◌, List, [], ◌∷◌, length, IsTrue}
use Rattle.std.specs.List.{list_all}

-- a space or a tab
abbrev pub is_blank : ℕ → Bool
is_blank byte = byte == 32 || byte == 9

-- spaces and tabs alone, or nothing
abbrev pub IsBlank : List ℕ → Type 0
IsBlank bytes = IsTrue (list_all is_blank bytes)

-- one or more spaces or tabs
abbrev pub IsGap : List ℕ → Type 0
IsGap gap = (0 < length gap) × IsBlank gap

-- whether the first byte is there and is neither a space nor a tab
abbrev pub starts_nonblank : List ℕ → Bool
starts_nonblank [] = false
starts_nonblank (byte ∷ rest) = not (is_blank byte)
