-- How a manifest writes a path (RFC 8493, 2.1.3).
use Rattle.std.specs.Prelude.{ℕ, ◌==◌, ◌&&◌, ◌||◌, if◌then◌else◌, List, [], ◌∷◌, codes, Option}
use Rattle.std.specs.Prelude.{Some, None}
use Rattle.std.specs.List.{flat_map}

-- What the escape of these three bytes stands for: `%0A`, `%0D` and `%25` are LF, CR and `%`, with
-- the letter
-- in either case. No other bytes are an escape.
abbrev pub escaped_byte : ℕ → ℕ → ℕ → Option ℕ
escaped_byte sign high low =
    if sign == 37 && high == 48 && (low == 65 || low == 97) then Some 10
    else if sign == 37 && high == 48 && (low == 68 || low == 100) then Some 13
    else if sign == 37 && high == 50 && low == 53 then Some 37
    else None

-- an escape's byte before what follows the escape, or what there is where there is no escape
abbrev pub put_or : Option ℕ → List ℕ → List ℕ → List ℕ
put_or (Some byte) after other = byte ∷ after
put_or None after other = other

-- The text with its escapes undone, from left to right: what an escape made isn't read again. All
-- other bytes
-- are themselves.
unfoldable pub unescaped : List ℕ → List ℕ
unescaped [] = []
unescaped (last ∷ []) = last ∷ []
unescaped (a ∷ last ∷ []) = a ∷ last ∷ []
unescaped (a ∷ b ∷ c ∷ rest) =
    put_or (escaped_byte a b c) (unescaped rest) (a ∷ unescaped (b ∷ c ∷ rest))

-- a byte of a path, with an escape for LF, CR and `%`
abbrev pub escape_of : ℕ → List ℕ
escape_of byte =
    if byte == 10 then codes "%0A"
    else if byte == 13 then codes "%0D"
    else if byte == 37 then codes "%25"
    else byte ∷ []

-- how RFC 8493 writes a path
abbrev pub escaped : List ℕ → List ℕ
escaped path = flat_map escape_of path

-- the text without one `*` at its start, where there is one
abbrev pub without_star : List ℕ → List ℕ
without_star [] = []
without_star (byte ∷ rest) = if byte == 42 then rest else byte ∷ rest

-- the text without one `./` at its start, where there is one
abbrev pub without_dot_slash : List ℕ → List ℕ
without_dot_slash [] = []
without_dot_slash (byte ∷ []) = byte ∷ []
without_dot_slash (a ∷ b ∷ rest) = if a == 46 && b == 47 then rest else a ∷ b ∷ rest

-- The path that a manifest writes in this way: one `*` at the start is dropped, then one `./`, and
-- then the escapes are undone.
abbrev pub path_of : List ℕ → List ℕ
path_of written = unescaped (without_dot_slash (without_star written))
