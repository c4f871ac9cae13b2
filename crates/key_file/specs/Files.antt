-- Key files: what one says, and the first line at fault of any other text. A text's lines and a
-- line's words are those of a schedule.
use Rattle.std.specs.Prelude.{ℕ, ◌+◌, ◌==◌, nat_lt, Bool, true, false, not, if◌then◌else◌}
use Rattle.std.specs.Prelude.{List, [], ◌∷◌, ◌++◌, length, map, filter, Option, Some, None}
use Rattle.std.specs.Prelude.{Result, Ok, Err}
use Rattle.std.specs.Str.Lines.{lines}
use Rattle.tags.specs.Hmac.{key_block}
use Rattle.tags.specs.Rings.{Ring, ring_of}
use Rattle.tokens.specs.Words.{◌>>=◌, words_of}
use Rattle.key_file.specs.declared.key_line.KeyKind.{KeyKind}
use Rattle.key_file.specs.declared.key_line.KeyKind.TheVariants.{Sites, Clients}
use Rattle.key_file.specs.declared.key_line.KeyLine.{KeyLine}
use Rattle.key_file.specs.Lines.{line_in}

-- the most keys of a kind: one to send with, and one that is taken too
abbrev pub MOST_KEYS : ℕ
MOST_KEYS = 2

abbrev pub same_kind : KeyKind → KeyKind → Bool
same_kind Sites Sites = true
same_kind Sites Clients = false
same_kind Clients Sites = false
same_kind Clients Clients = true

-- those of a kind
abbrev pub of_kind : KeyKind → List KeyLine → List KeyLine
of_kind kind keys = filter (λ it. same_kind it.kind kind) keys

-- the next key, after these, by the words of its line: one of its kind may be there already
unfoldable pub next_key : List KeyLine → List (List ℕ) → Option KeyLine
next_key before words = do
  key ← line_in words
  if nat_lt (length (of_kind key.kind before)) MOST_KEYS then Some key else None

-- what comes of a key, or the number of the line that isn't one
abbrev pub or_fault :
    ℕ → Option KeyLine → (KeyLine → Result (List KeyLine) ℕ) → Result (List KeyLine) ℕ
or_fault number None go = Err number
or_fault number (Some key) go = go key

-- The keys of a file, of which these are read, with these lines left; or the number of the first
-- line at fault. Each line is a key's, and there is one of clients; where it is missing, the line
-- after the last is at fault.
unfoldable pub keys_after : List KeyLine → List (List ℕ) → Result (List KeyLine) ℕ
keys_after before [] =
    if length (of_kind Clients before) == 0 then Err (length before + 1) else Ok before
keys_after before (line ∷ later) =
    or_fault (length before + 1) (next_key before (words_of line))
    (λ key. keys_after (before ++ key ∷ []) later)

-- the keys of a text, or the number of its first line at fault
unfoldable pub keys_in : List ℕ → Result (List KeyLine) ℕ
keys_in text = keys_after [] (lines text)

-- the blocks of the keys of a kind
abbrev pub blocks_of : KeyKind → List KeyLine → List (List ℕ)
blocks_of kind keys = map (λ it. key_block it.key) (of_kind kind keys)

-- the ring of these keys
abbrev pub ring_with : List KeyLine → Ring
ring_with keys = ring_of (blocks_of Sites keys) (blocks_of Clients keys)
