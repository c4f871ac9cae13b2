-- Key files as they are written.
use Rattle.std.specs.Prelude.{ℕ, List, [], ◌∷◌, ◌++◌, codes}
use Rattle.hex.specs.Hex.{encode_lower}
use Rattle.key_file.specs.declared.key_line.KeyKind.{KeyKind}
use Rattle.key_file.specs.declared.key_line.KeyKind.TheVariants.{Sites, Clients}

-- how a kind is written
abbrev pub name_of : KeyKind → List ℕ
name_of Sites = codes "sites "
name_of Clients = codes "clients "

-- `sites HEX` or `clients HEX`
abbrev pub text_of_key : KeyKind → List ℕ → List ℕ
text_of_key kind key = name_of kind ++ (encode_lower key ++ 10 ∷ [])

-- a new file, with a key of each kind
abbrev pub text_of : (sites clients : List ℕ) → List ℕ
text_of sites clients = text_of_key Sites sites ++ text_of_key Clients clients
