-- The bag declaration, which is the text of `bagit.txt` (RFC 8493, 2.1.1).
use Rattle.std.specs.Prelude.{◌≡◌, ℕ, ◌<◌, Bool, ◌&&◌, nat_le, ◌⊎◌, List, [], ◌∷◌, ◌++◌, length}
use Rattle.std.specs.Prelude.{codes, IsTrue}
use Rattle.std.specs.List.{list_all}
use Rattle.std.specs.Char.{is_ascii_digit}
use Rattle.bag_text.specs.Lines.{lines_of}
use Rattle.bag_text.specs.Blanks.{IsBlank, IsGap}

abbrev pub version_label : List ℕ
version_label = codes "BagIt-Version:"

abbrev pub encoding_label : List ℕ
encoding_label = codes "Tag-File-Character-Encoding:"

-- The line is the label, spaces and tabs, the value, and maybe spaces and tabs at its end.
abbrev pub IsField : List ℕ → List ℕ → List ℕ → Type 0
IsField label line value =
    (gap : List ℕ) × (ending : List ℕ) × (line ≡ label ++ (gap ++ (value ++ ending))) × IsGap gap
    × IsBlank ending

-- one or more ASCII digits
abbrev pub IsNumber : List ℕ → Type 0
IsNumber digits = (0 < length digits) × IsTrue (list_all is_ascii_digit digits)

abbrev pub full_stop : ℕ
full_stop = 46

-- `M.N`, two numbers with a full stop between them
abbrev pub IsVersion : List ℕ → Type 0
IsVersion value = (major : List ℕ) × (minor : List ℕ) × (value ≡ major ++ (full_stop ∷ minor))
    × IsNumber major × IsNumber minor

-- an ASCII character that shows
abbrev pub is_visible : ℕ → Bool
is_visible byte = nat_le 0x21 byte && nat_le byte 0x7E

-- one or more such characters
abbrev pub IsEncodingName : List ℕ → Type 0
IsEncodingName value = (0 < length value) × IsTrue (list_all is_visible value)

abbrev pub IsVersionLine : List ℕ → List ℕ → Type 0
IsVersionLine line version = IsField version_label line version × IsVersion version

abbrev pub IsEncodingLine : List ℕ → List ℕ → Type 0
IsEncodingLine line encoding = IsField encoding_label line encoding × IsEncodingName encoding

-- The text declares the version and the encoding: it is exactly the two lines.
abbrev pub IsDeclaration : List ℕ → List ℕ → List ℕ → Type 0
IsDeclaration text version encoding =
    (first : List ℕ) × (second : List ℕ) × (lines_of text ≡ first ∷ second ∷ [])
    × IsVersionLine first version × IsEncodingLine second encoding

-- there is a first line, and it has a version
abbrev pub HasVersion : List (List ℕ) → Type 0
HasVersion [] = ⊥
HasVersion (first ∷ others) = (version : List ℕ) × IsVersionLine first version

-- there is a second line, and it has an encoding
abbrev pub HasEncoding : List (List ℕ) → Type 0
HasEncoding [] = ⊥
HasEncoding (first ∷ []) = ⊥
HasEncoding (first ∷ second ∷ others) = (encoding : List ℕ) × IsEncodingLine second encoding

-- The line of this number, counted from 1, is the first that is missing or isn't well-formed; a
-- third
-- line is one too many.
abbrev pub IsDeclarationFault : List (List ℕ) → ℕ → Type 0
IsDeclarationFault lines number =
    ((number ≡ 1) × ¬ (HasVersion lines))
    ⊎ ((number ≡ 2) × HasVersion lines × ¬ (HasEncoding lines))
    ⊎ ((number ≡ 3) × HasVersion lines × HasEncoding lines × (2 < length lines))
