-- Texts on which the laws are tried; no other contract cites them.
use Rattle.std.specs.Prelude.{ℕ, List, [], ◌∷◌, ◌++◌, codes}

-- the MD5 of `abc` (RFC 1321, A.5)
abbrev pub digest_of_abc : List ℕ
digest_of_abc =
    0x90 ∷ 0x01 ∷ 0x50 ∷ 0x98 ∷ 0x3C ∷ 0xD2 ∷ 0x4F ∷ 0xB0
    ∷ 0xD6 ∷ 0x96 ∷ 0x3F ∷ 0x7D ∷ 0x28 ∷ 0xE1 ∷ 0x7F ∷ 0x72 ∷ []

-- a manifest of one file, with a star, an escape and an end of CR and LF
abbrev pub manifest_of_abc : List ℕ
manifest_of_abc = codes "900150983cd24fb0d6963f7d28e17f72 *data/a%25b" ++ (13 ∷ 10 ∷ [])

-- a blank line, and a line of one digit
abbrev pub malformed_manifest : List ℕ
malformed_manifest = 10 ∷ codes "9"

abbrev pub declaration_1_0 : List ℕ
declaration_1_0 = codes "BagIt-Version: 1.0" ++ (10 ∷ codes "Tag-File-Character-Encoding: UTF-8")

abbrev pub declaration_of_one_line : List ℕ
declaration_of_one_line = codes "BagIt-Version: 1.0"
