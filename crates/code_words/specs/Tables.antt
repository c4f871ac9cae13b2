-- The lines of codes in a table, as a text.
use Rattle.std.specs.Prelude.{◌≡◌, ℕ, ◌==◌, ◌-◌, ◌^◌, if◌then◌else◌, List, [], ◌∷◌, ◌++◌, length}
use Rattle.std.specs.Prelude.{map, codes}
use Rattle.std.specs.Fmt.{format_spec, padded}
use Rattle.std.specs.List.{flat_map}
use Rattle.code_words.specs.declared.meaning.Meaning.{Meaning}
use Rattle.code_words.specs.Rows.{code_of}

-- a word, filled up with blanks to 23 characters
abbrev pub column : List ℕ → List ℕ
column word = padded (format_spec 32 1 0 23 (2 ^ 64 - 1)) word

-- a code, and what it says
abbrev pub words_line : Meaning → List ℕ
words_line m = codes "  " ++ (column m.code.now ++ (32 ∷ (m.words.now ++ 10 ∷ [])))

-- what to do, if anything is to be done
abbrev pub to_do_line : Meaning → List ℕ
to_do_line m =
    if length m.advice.now == 0
    then [] else codes "  " ++ (column [] ++ (codes " to do: " ++ (m.advice.now ++ 10 ∷ [])))

-- the lines of a code
unfoldable pub row_text : Meaning → List ℕ
row_text m = words_line m ++ to_do_line m

-- codes of a kind, below a heading
abbrev pub part_text : (heading : List ℕ) → List Meaning → List ℕ
part_text heading rows = heading ++ flat_map row_text rows

-- a heading, and the codes below it
abbrev pub Kind : Type 0
Kind = List ℕ × List (List ℕ)

-- the codes of a kind were appended, with what each says, below the heading
abbrev pub AppendsPart : Kind → (old new : List ℕ) → Type 0
AppendsPart kind old new =
    (rows : List Meaning) × (map code_of rows ≡ kind.1) × (new ≡ old ++ part_text kind.0 rows)

-- those of these kinds were, one kind after the other
abbrev pub AppendsParts : List Kind → (old new : List ℕ) → Type 0
AppendsParts [] old new = new ≡ old
AppendsParts (kind ∷ kinds) old new =
    (mid : List ℕ) × AppendsPart kind old mid × AppendsParts kinds mid new
