-- What a text starts with.
use Rattle.std.specs.Prelude.{ℕ, Bool, false, List, [], ◌∷◌, Option, None}
use Rattle.bag_text.specs.Lines.{is_line_end}
use Rattle.bag_text.specs.Paths.{escaped_byte}

abbrev pub starts_with_line_end : List ℕ → Bool
starts_with_line_end [] = false
starts_with_line_end (byte ∷ rest) = is_line_end byte

-- what the escape at the start stands for, where there is one
abbrev pub escape_at : List ℕ → Option ℕ
escape_at [] = None
escape_at (a ∷ []) = None
escape_at (a ∷ b ∷ []) = None
escape_at (a ∷ b ∷ c ∷ rest) = escaped_byte a b c
